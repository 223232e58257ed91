-- What is answered and what is left, by what was read.
use Prim.Native.Nat.{ℕ, ◌≤◌, ◌<◌}
use native.Mathlib.Omega.{arith}
use mathlib.Core.Path.{◌≡◌, refl, sym, ap, ◌∙◌}
use Rattle.std.specs.Prelude.{Result, Ok, Err}
use Rattle.std.specs.Result.{MatchResult, IsErrAnd}
use mathlib.Core.List.{List}
use lib.ListN.{length}
use borrow.Author.Tests.{le-leb, lt-leb}
use Rattle.kinds.specs.declared.refusal.Refusal.TheVariants as refusal
use Rattle.trace.specs.Trace.{first_record, trace_grammar, trace_format, reading, records_from}
use Rattle.trace.specs.declared.Version.{Version}
use Rattle.trace.specs.Reading as read
use Rattle.grammar.proofs.Laws.{opened, count_breaks}
use Rattle.trace.proofs.Shape.{trace_grammar_lem}
use Rattle.trace.proofs.Answers.{reading_is}
use Rattle.rows_reader.specs.Reading.{rows_of, in_front, read_of, rows_left}
use Rattle.rows_reader.specs.RowsRead.{Rows, Refused}

-- what stood before a refusal took another's place: the same where none did, and the one that it is made of
module _ {T E D : Type 0} (Gives : E → D → Type 0) (r : Result T E) (m : Result T D) where
  pub passed : {x : T} → MatchResult r (λ y. m ≡ Ok y) (λ e. IsErrAnd m (Gives e)) → m ≡ Ok x → r ≡ Ok x
  passed {x} = go r m
    where
      go : (r : Result T E) (m : Result T D) → MatchResult r (λ y. m ≡ Ok y) (λ e. IsErrAnd m (Gives e)) → m ≡ Ok x → r ≡ Ok x
      go (Ok y) m h e = let same : y ≡ x = cc in ap Ok same
      go (Err d) (Ok y) h e = absurd h
      go (Err d) (Err e') h e = absurd (let z : ◌≡◌ {A = ℕ} 0 1 = cc in omega arith)

  pub told : {d : D} (f : E → D) → ((e : E) (g : D) → Gives e g → g ≡ f e) → MatchResult r (λ y. m ≡ Ok y) (λ e. IsErrAnd m (Gives e))
      → m ≡ Err d → (e : E) × (r ≡ Err e) × (d ≡ f e)
  told {d} f makes = go r m
    where
      go : (r : Result T E) (m : Result T D) → MatchResult r (λ y. m ≡ Ok y) (λ e. IsErrAnd m (Gives e)) → m ≡ Err d
          → (e : E) × (r ≡ Err e) × (d ≡ f e)
      go (Ok y) m h e = absurd (let z : ◌≡◌ {A = ℕ} 0 1 = cc in omega arith)
      go (Err x) (Ok y) h e = absurd h
      go (Err x) (Err g) h e = let same : d ≡ g = cc in (x, refl, same ∙ makes x g h)

module _ (s : List ℕ) (run : List (List ℕ)) where
  pub read_broken : (line : ℕ) → reading s ≡ read.Broken line
      → (Refused (refusal.BadTrace line) ≡ read_of s (length run)) × (run ≡ rows_left s run)
  unfolding read_of rows_left
  read_broken line h = let broken = count_breaks trace_format s (reading_is s h) in (rw broken, rw broken)

  pub read_short : (v : Version) (n : ℕ) → reading s ≡ read.Whole v n → length run < n
      → (Refused refusal.NoRoom ≡ read_of s (length run)) × (run ≡ rows_left s run)
  unfolding read_of rows_left
  read_short v n h l =
      let o = opened trace_grammar trace_grammar_lem s v n (reading_is s h) in
      let over = lt-leb (length (records_from s first_record)) (length run) (omega (arith, o.many)) in
      (rw (o.items, over), rw (o.items, over))

  pub room_read : (v : Version) (n : ℕ) → reading s ≡ read.Whole v n → n ≤ length run → length (records_from s first_record) ≤ length run
  room_read v n h l = omega (arith, (opened trace_grammar trace_grammar_lem s v n (reading_is s h)).many)

  pub read_whole : (v : Version) (n : ℕ) → reading s ≡ read.Whole v n → n ≤ length run → {left : List (List ℕ)}
      → left ≡ in_front (rows_of (records_from s first_record)) run
      → (Rows v n ≡ read_of s (length run)) × (left ≡ rows_left s run)
  unfolding read_of rows_left
  read_whole v n h l e =
      let o = opened trace_grammar trace_grammar_lem s v n (reading_is s h) in
      let fits = le-leb (length (records_from s first_record)) (length run) (omega (arith, o.many)) in
      (rw (o.items, fits) (ap (Rows v) (sym o.many)), e ∙ rw (o.items, fits))
