-- Where a run to a file descriptor stands. The invariant, `Sending`: the pieces that have not gone are the parts of the records
-- that are left, from the table as it is now, and the last line. What pieces are stands in specs/Sent.antt.
use Prim.Native.Nat.{ℕ, zero, suc, ◌+◌, ◌≤◌, ◌<◌, ◌^◌}
use mathlib.Core.Path.{◌≡◌, refl, sym, ap, ◌∙◌}
use mathlib.Core.Bool.{true, false}
use mathlib.Core.List.{List, [], ◌∷◌, ◌++◌}
use native.Mathlib.Omega.{arith}
use lib.IntN.{ℤ}
use lib.ListN.{length, take, drop}
use lib.Seq.{drop-drop}
use Rattle.model.specs.declared.Table.{Table}
use Rattle.model.specs.Tables.{fresh_table}
use Rattle.model.specs.Facts.{Good}
use Rattle.model.proofs.Moves.{good-fresh}
use Rattle.text.specs.Write.{spliced}
use Rattle.trace.specs.declared.Record.{Record}
use Rattle.trace.specs.Reading.{Whole, Broken}
use Rattle.grammar.specs.Texts as texts
use Rattle.grammar.specs.Texts.{Read}
use Rattle.trace.specs.declared.Version.{Version}
use Rattle.trace.specs.declared.Version.TheVariants.{Proc2}
use Rattle.trace.specs.Trace.{trace_grammar, trace_format, trace_of, reading, records_from, first_record, Boundary}
use Rattle.trace.specs.Record.{any_form}
use Rattle.trace.proofs.Shape.{trace_grammar_lem, trace_laws, any_facts}
use Rattle.trace.proofs.Answers.{reading_is}
use Rattle.grammar.proofs.Laws.{opened, count_breaks}
use Rattle.grammar.proofs.Grammar.{accepted}
use Rattle.grammar.proofs.Walk.{none_left, items_inside, end_only}
use Rattle.output.specs.Output.{need}
use Rattle.output.proofs.Wrote.{holder_few}
use Rattle.replay_text.specs.Replay.{broken_text, last_text}
use Rattle.replay_part.specs.Part.{part_of, PartFits}
use Rattle.replay.specs.declared.border.Handed.{Handed}
use Rattle.replay_part.specs.declared.Progress.{Progress}
use Rattle.replay.specs.Sent.{parts_of, pieces_of, handed, is_trace, PieceNext, AllWent}
use Rattle.replay_part.proofs.Room.{part_good, part_goes_on}
use Rattle.replay.proofs.Next.{begins_with}
use Rattle.replay.proofs.Pieces.{pieces_few, no_parts, piece_next, all_went}

-- refusal 9 is the one piece of a text that is no trace
module _ (n : ℕ) (s : List ℕ) (line : ℕ) (e : reading s ≡ Broken line) where
  breaks : trace_of s ≡ texts.Broken line
  breaks = count_breaks trace_format s (reading_is s e)

  one_piece : pieces_of n s ≡ broken_text line ∷ []
  unfolding pieces_of
  one_piece = rw breaks

  pub broken_next : (to : ℤ) {piece : List ℕ} → piece ≡ broken_text line → PieceNext n s (handed to 0) (length piece) piece
  broken_next to same = piece_next (handed to 0) (rw one_piece (omega arith)) one_piece same

  pub broken_all : {to : ℤ} {r : Handed} → r ≡ handed to (0 + 1) → AllWent n s to false r
  broken_all {to} g = all_went (handed to 0) (ap is_trace breaks) (one_piece) refl g

-- the parts to come and the last line; `most` is at least how many records are left
abbrev to_come : ℕ → Version → ℕ → List ℕ → ℕ → Table → ℕ → List (List ℕ)
to_come most v n s count t at = parts_of most v n 65536 t (records_from s at) ++ (last_text v count ∷ [])

pub record Sending (v : Version) (n : ℕ) (s : List ℕ) (count : ℕ) (to : ℤ) (t : Table) (at : ℕ) (h : Handed) : Type 0 where
  pub boundary : Boundary s at
  pub good : Good n t
  pub few : length (pieces_of n s) < 2 ^ 64
  pub same : h.to ≡ to
  pub most : ℕ
  pub enough : length (records_from s at) ≤ most
  pub rest : drop h.pieces (pieces_of n s) ≡ to_come most v n s count t at

module _ (v : Version) (n : ℕ) (s : List ℕ) (count : ℕ) where
  pub is_whole : reading s ≡ Whole v count → is_trace (trace_of s) ≡ true
  is_whole e = ap is_trace (opened trace_grammar trace_grammar_lem s v count (reading_is s e)).items

  pub sending_start :
      {to : ℤ} → reading s ≡ Whole v count →
      Sending v n s count to (fresh_table n) first_record (handed to 0)
  unfolding pieces_of
  sending_start e =
      let b = opened trace_grammar trace_grammar_lem s v count (reading_is s e) in
      let rs = records_from s first_record in
      let short = (accepted trace_format trace_laws s v rs b.items).short in
      let inside = items_inside any_form any_facts s first_record b.boundary in
      record {
        boundary = b.boundary;
        good = good-fresh n;
        few = omega (arith, short, inside, pieces_few n s v rs b.items);
        same = refl;
        most = length rs;
        enough = omega arith;
        rest = rw b.items (rw b.many);
      }

  module _ {to : ℤ} {t : Table} {at : ℕ} {h : Handed} (w : Sending v n s count to t at h) where
    module _ {xs ys : List ℕ} {r : Progress} (p : PartFits v n s at t xs ys r) where
      -- the next piece is what this part put into the buffer
      record Split : Type 0 where
        most : ℕ
        enough : length (records_from s r.at) ≤ most
        less : length (records_from s r.at) < length (records_from s at)
        next :
            drop h.pieces (pieces_of n s)
            ≡ (part_of v n (length xs) 0 t (records_from s at)).text ∷ to_come most v n s count r.table r.at

      split : length xs ≡ 65536 → need Proc2 n ≤ 65536 → (at ≡ length s → ⊥) → Split
      unfolding parts_of
      split size room more = go (records_from s at) refl w.most refl
        where
          go : (rs : List Record) → records_from s at ≡ rs → (m : ℕ) → w.most ≡ m → Split
          go [] e m f = absurd (more (end_only any_form any_facts s at w.boundary e))
          go (q ∷ rs) e zero f = absurd (omega (arith, w.enough, ap length e))
          go (q ∷ rs) e (suc m) f =
              let on = part_goes_on v n (length xs) t q rs w.good (omega (arith, holder_few v)) in
              let left : length (records_from s r.at) ≤ length rs = rw (p.left, e) on in
              record {
                most = m;
                enough = omega (arith, left, w.enough, ap length e);
                less = omega (arith, left, ap length e);
                next = rw (p.left, p.table, size, e) (rw (f, e) at w.rest);
              }

      module _ (size : length xs ≡ 65536) (room : need Proc2 n ≤ 65536) (more : at ≡ length s → ⊥) where
        pub part_next : PieceNext n s h (length (take r.filled ys)) (take r.filled ys)
        part_next = piece_next h w.few (split size room more).next (begins_with xs _ p.filled p.text)

        pub part_less : length (records_from s r.at) < length (records_from s at)
        part_less = (split size room more).less

        -- one piece more
        pub sending_part : Sending v n s count to r.table r.at (handed h.to (h.pieces + 1))
        sending_part =
            let part = split size room more in
            record {
              boundary = p.boundary;
              good = rw p.table (part_good v n (length xs) t (records_from s at) w.good);
              few = w.few;
              same = w.same;
              most = part.most;
              enough = part.enough;
              rest = sym (drop-drop 1 h.pieces (pieces_of n s)) ∙ rw part.next;
            }

    -- no record is left: the last line is
    module _ (over : at ≡ length s) where
      last-piece : drop h.pieces (pieces_of n s) ≡ last_text v count ∷ []
      last-piece = w.rest ∙ rw (none_left any_form any_facts s at over, no_parts w.most v n t)

      pub last_next : {piece : List ℕ} → piece ≡ last_text v count → PieceNext n s h (length piece) piece
      last_next same = piece_next h w.few last-piece same

      pub last_all :
          {fd : ℤ} {r : Handed} → reading s ≡ Whole v count → h.to ≡ fd →
          r ≡ handed h.to (h.pieces + 1) → AllWent n s fd true r
      last_all e same g = all_went h (is_whole e) last-piece same g
