-- The rows of a text as a loop fills a run with them: past i rows it stands at a record, and the whole is what the rows left put from row i
-- on (`Filled`).
use Prim.Native.Nat.{ℕ, ◌+◌, ◌≤◌}
use native.Mathlib.Omega.{arith}
use native.Mathlib.Numerals.{add-one}
use native.Mathlib.Nat.{zero-add}
use mathlib.Core.Path.{◌≡◌, refl, sym, ap, ◌∙◌}
use mathlib.Core.Bool.{Bool, true, false}
use mathlib.Core.List.{List, [], ◌∷◌}
use lib.Dec.{eqb}
use borrow.Author.Tests.{eqb-true, eqb-false}
use lib.ListN.{length, set, length-set}
use lib.Seq.{sets, sets-eq}
use Rattle.grammar.proofs.Walk.{next_item, none_left, none_broken}
use Rattle.trace.specs.Record.{any_form, record_at}
use Rattle.trace.specs.Trace.{records_from, Boundary}
use Rattle.trace.specs.declared.Record.{Record}
use Rattle.trace.specs.RecordAt.{Is, Broken}
use Rattle.trace.proofs.Shape.{any_facts}
use Rattle.trace.proofs.Answers.{record_is}
use Rattle.record_rows.specs.Rows.{row_of}
use Rattle.rows_reader.specs.Reading.{rows_of, in_front}

pub rows_many : (rs : List Record) → length (rows_of rs) ≡ length rs
unfolding rows_of
rows_many [] = refl
rows_many (r ∷ rs) = omega (arith, rows_many rs)

pub front_sets : (rows run : List (List ℕ)) → length rows ≤ length run → in_front rows run ≡ sets run 0 rows
unfolding in_front
front_sets rows run h = sym (sets-eq rows run 0 (omega arith) ∙ rw (zero-add (length rows)))

pub record Filled (s : List ℕ) (whole run : List (List ℕ)) (at i : ℕ) : Type 0 where
  pub boundary : Boundary s at
  pub room : i + length (records_from s at) ≤ length run
  pub text : whole ≡ sets run i (rows_of (records_from s at))

module _ (s : List ℕ) where
  pub filled_start : (run : List (List ℕ)) (at : ℕ) → Boundary s at → length (records_from s at) ≤ length run
      → Filled s (in_front (rows_of (records_from s at)) run) run at 0
  filled_start run at b h = record {
    boundary = b;
    room = omega arith;
    text = front_sets (rows_of (records_from s at)) run (omega (arith, rows_many (records_from s at)));
  }

  module _ (whole run : List (List ℕ)) (at i : ℕ) (r : Record) (e : ℕ) where
    pub filled_next : Filled s whole run at i → record_at s at ≡ Is r e → Filled s whole (set run i (row_of r)) e (i + 1)
    unfolding rows_of
    filled_next f q =
        let n = next_item any_form any_facts s at r e f.boundary (record_is s at q) in
        record {
          boundary = n.again;
          room = omega (arith, f.room, ap length n.first, length-set run i (row_of r));
          text = f.text ∙ rw (n.first, add-one);
        }

  -- where no record is read the text is over; and so it is where the run is
  pub filled_over : (whole run : List (List ℕ)) (at i k : ℕ) → record_at s at ≡ Broken k → Filled s whole run at i → run ≡ whole
  unfolding rows_of
  filled_over whole run at i k q f = go (eqb at (length s)) refl
    where
      go : (b : Bool) → eqb at (length s) ≡ b → run ≡ whole
      go true p = sym (f.text ∙ rw (none_left any_form any_facts s at (eqb-true at (length s) p)))
      go false p = absurd (none_broken any_form any_facts s at k f.boundary (eqb-false at (length s) p) (record_is s at q))

  pub filled_full : (whole run : List (List ℕ)) (at i : ℕ) → length run ≤ i → Filled s whole run at i → run ≡ whole
  unfolding rows_of
  filled_full whole run at i h f = go (records_from s at) f.room f.text
    where
      go : (rs : List Record) → i + length rs ≤ length run → whole ≡ sets run i (rows_of rs) → run ≡ whole
      go [] r e = sym e
      go (x ∷ rs) r e = absurd (omega arith)
