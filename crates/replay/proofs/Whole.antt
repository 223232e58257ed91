-- A whole replay into a buffer, by what was read and how far its records went: what `replay_into` promises, from what `run_part` did.
-- The promise stands in specs/Into.antt; what a part leaves, in crate replay_part (specs/Part).
use Prim.Native.Nat.{ℕ, ◌+◌}
use mathlib.Core.Path.{◌≡◌, refl, sym, ap, ◌∙◌}
use mathlib.Core.Bool.{Bool, true, false}
use mathlib.Core.List.{List, [], ◌∷◌, ◌++◌}
use native.Mathlib.Nat.{zero-add}
use native.Mathlib.Omega.{arith}
use lib.Dec.{leb}
use lib.ListN.{length, length-append}
use Rattle.model.specs.declared.Table.{Table}
use Rattle.model.specs.Tables.{fresh_table}
use Rattle.text.specs.Keys.{records_key}
use Rattle.text.specs.Line.{line_text}
use Rattle.text.specs.Write.{spliced, written}
use Rattle.text.proofs.Splice.{splice_none, splice_append}
use Rattle.trace.specs.declared.Record.{Record}
use Rattle.trace.specs.Reading as reads
use Rattle.grammar.specs.Texts.{Broken}
use Rattle.trace.specs.declared.Version.{Version}
use Rattle.trace.specs.Trace.{trace_grammar, trace_format, trace_of, reading, records_from, first_record, Boundary}
use Rattle.trace.specs.Record.{any_form}
use Rattle.trace.proofs.Shape.{trace_grammar_lem, any_facts}
use Rattle.trace.proofs.Answers.{reading_is}
use Rattle.grammar.proofs.Laws.{opened, count_breaks}
use Rattle.grammar.proofs.Walk.{none_left, end_only}
use Rattle.replay_text.specs.Replay.{broken_text}
use Rattle.replay_part.specs.Part.{Part, part_of, PartFits}
use Rattle.replay.specs.Into.{Into, whole, cut, text_in, into_end, into_of, BrokenFits, EndFits, replayed, IntoFits}
use Rattle.replay.specs.Replayed.{Replayed, Written, NoRoom}

module _ (n : ℕ) (s xs : List ℕ) where
  -- what is left at the buffer's start says all of it
  fits_by :
      {ys : List ℕ} {r : Replayed} (i : Into) → into_of n (length xs) s ≡ i → r ≡ replayed i → ys ≡ spliced xs 0 (text_in i) →
      IntoFits n s xs ys r
  fits_by i e a b = record { says = rw e a; text = rw e b }

  pub into_broken : (line : ℕ) {ys : List ℕ} {r : Replayed} → reading s ≡ reads.Broken line → BrokenFits line xs ys r → IntoFits n s xs ys r
  unfolding reading into_of
  into_broken line {ys} {r} e f = go (leb 33 (length xs)) refl
    where
      found : trace_of s ≡ Broken line
      found = count_breaks trace_format s (reading_is s e)

      go : (b : Bool) → leb 33 (length xs) ≡ b → IntoFits n s xs ys r
      go true q = fits_by (whole (broken_text line)) (rw (found, q)) (rw q at f.says) (rw q at f.text)
      go false q = fits_by (cut []) (rw (found, q)) (rw q at f.says) ((rw q at f.text) ∙ splice_none xs 0)

  -- where no record is left nothing is run: the part is empty
  pub part_none :
      (v : Version) (at : ℕ) (t : Table) → at ≡ length s → Boundary s at →
      PartFits v n s at t xs xs (record { table = t; at = at; filled = 0 })
  unfolding part_of
  part_none v at t h b =
      let none = none_left any_form any_facts s at h in
      record {
        text = rw none (splice_none xs 0);
        filled = rw none;
        table = rw none;
        left = rw none;
        boundary = b;
        inside = omega arith;
      }

  module _
      (version : Version) (count : ℕ) (e : reading s ≡ reads.Whole version count) {ys : List ℕ} {at filled : ℕ} {t : Table}
      (p : PartFits version n s first_record (fresh_table n) xs ys (record { table = t; at = at; filled = filled }))
    where
      part : Part
      part = part_of version n (length xs) 0 (fresh_table n) (records_from s first_record)

      into-is : into_of n (length xs) s ≡ into_end (length xs) count part.left part.text
      unfolding into_of part
      into-is = let b = opened trace_grammar trace_grammar_lem s version count (reading_is s e) in rw b.items (rw b.many)

      pub into_whole :
          {zs : List ℕ} {r : Replayed} → at ≡ length s → length ys ≡ length xs → EndFits count filled ys zs r →
          IntoFits n s xs zs r
      unfolding written part
      into_whole {zs} {r} h k f = go (leb (length part.text + length (line_text records_key count)) (length xs)) refl
        where
          none : part.left ≡ []
          none = sym p.left ∙ none_left any_form any_facts s at h

          ended : into_of n (length xs) s ≡ into_end (length xs) count [] part.text
          ended = into-is ∙ rw none

          go : (b : Bool) → leb (length part.text + length (line_text records_key count)) (length xs) ≡ b → IntoFits n s xs zs r
          go true q =
              let says = rw (p.filled, k, q) at f.says in
              let text = rw (p.filled, k, q) at f.text in
              let last = line_text records_key count in
              let both = rw (zero-add (length part.text)) at (splice_append xs 0 part.text last (omega arith)) in
              fits_by (whole (part.text ++ last)) (ended ∙ rw q)
              (says ∙ ap Written (sym (length-append part.text last))) (text ∙ rw p.text both)
          go false q =
              let says = rw (p.filled, k, q) at f.says in
              let text = rw (p.filled, k, q) at f.text in
              fits_by (cut part.text) (ended ∙ rw q) says (text ∙ p.text)

      pub into_cut : (at ≡ length s → ⊥) → IntoFits n s xs ys (NoRoom filled)
      unfolding part
      into_cut h = go part.left refl
        where
          go : (l : List Record) → part.left ≡ l → IntoFits n s xs ys (NoRoom filled)
          go [] q = absurd (h (end_only any_form any_facts s at p.boundary (p.left ∙ q)))
          go (r ∷ rs) q = fits_by (cut part.text) (into-is ∙ rw q) (ap NoRoom p.filled) p.text
