-- The pieces in which a text is handed on: one after the other they are the text, and there are no more than records and one. What
-- pieces are stands in specs/Sent.antt; that a part leaves fewer records is of crate replay_part (proofs/Room).
use Prim.Native.Nat.{ℕ, zero, suc, ◌+◌, ◌≤◌, ◌<◌, ◌^◌}
use mathlib.Core.Path.{◌≡◌, refl, sym, ap, subst, ◌∙◌}
use mathlib.Core.Bool.{Bool}
use mathlib.Core.List.{List, [], ◌∷◌, append_assoc, append-nil}
use native.Mathlib.Omega.{arith}
use lib.IntN.{ℤ}
use lib.ListN.{length, take, drop, length-append, length-drop}
use lib.Seq.{take_all}
use Rattle.model.specs.declared.Table.{Table}
use Rattle.model.specs.Tables.{fresh_table}
use Rattle.model.specs.Facts.{Good}
use Rattle.model.proofs.Moves.{good-fresh}
use Rattle.text.specs.Keys.{records_key}
use Rattle.text.specs.Line.{line_text, joined}
use Rattle.text.specs.Write.{spliced}
use Rattle.text.proofs.Lines.{joined-append}
use Rattle.trace.specs.declared.Record.{Record}
use Rattle.grammar.specs.Texts as texts
use Rattle.grammar.specs.Texts.{Read}
use Rattle.trace.specs.declared.Version.{Version}
use Rattle.trace.specs.declared.Version.TheVariants.{Proc2}
use Rattle.trace.specs.Trace.{trace_of}
use Rattle.output.specs.Output.{need}
use Rattle.output.proofs.Wrote.{holder_few}
use Rattle.replay_text.specs.Replay.{text_of, broken_text, agree_line, last_text, replay_by, replay_of}
use Rattle.replay_part.specs.Part.{part_of}
use Rattle.replay.specs.Sent.{parts_of, pieces_by, pieces_of, handed, stopped, PieceNext, WentFits, is_trace, AllWent, SentFits, Sent, Failed}
use Rattle.replay.specs.declared.border.Handed.{Handed}
use Rattle.replay.specs.declared.border.Stopped.{Stopped}
use Rattle.replay.proofs.Parts.{parts_join}
use Rattle.replay_part.proofs.Room.{part_good, part_goes_on}
use Rattle.replay.proofs.Next.{begins_with}

parts_joined :
    (k : ℕ) (v : Version) (n : ℕ) (t : Table) (rs : List Record) → Good n t → need v n ≤ 65536 → length rs ≤ k →
    joined (parts_of k v n 65536 t rs) ≡ text_of v n t rs
unfolding parts_of text_of joined
parts_joined zero v n t [] g room h = refl
parts_joined zero v n t (r ∷ rs) g room h = absurd (omega arith)
parts_joined (suc k) v n t [] g room h = refl
parts_joined (suc k) v n t (r ∷ rs) g room h =
    let on = part_goes_on v n 65536 t r rs g room in
    let p = part_of v n 65536 0 t (r ∷ rs) in
    let more = parts_joined k v n p.table p.left (part_good v n 65536 t (r ∷ rs) g) room (omega (arith, on)) in
    rw more (sym (parts_join v n 65536 0 t (r ∷ rs)).text)

-- one after the other, the pieces are what the trace prints
pub pieces_joined : (n : ℕ) (s : List ℕ) → need Proc2 n ≤ 65536 → joined (pieces_of n s) ≡ replay_of n s
unfolding pieces_of replay_of joined last_text
pieces_joined n s room = go (trace_of s)
  where
    go : (f : Read Version Record) → joined (pieces_by n f) ≡ replay_by n f
    go (texts.Broken line) = append-nil (broken_text line)
    go (texts.Whole v rs) =
        let last = last_text v (length rs) in
        let text = text_of v n (fresh_table n) rs in
        let run = parts_joined (length rs) v n (fresh_table n) rs (good-fresh n) (omega (arith, holder_few v)) (omega arith) in
        let both = joined-append (parts_of (length rs) v n 65536 (fresh_table n) rs) (last ∷ []) in
        both ∙ rw (run, append-nil last) (sym (append_assoc text (line_text records_key (length rs)) (agree_line v)))

parts_few : (k : ℕ) (v : Version) (n : ℕ) (t : Table) (rs : List Record) → length (parts_of k v n 65536 t rs) ≤ k
unfolding parts_of
parts_few zero v n t rs = omega arith
parts_few (suc k) v n t [] = omega arith
parts_few (suc k) v n t (r ∷ rs) =
    let p = part_of v n 65536 0 t (r ∷ rs) in
    omega (arith, parts_few k v n p.table p.left)

pub pieces_few :
    (n : ℕ) (s : List ℕ) (v : Version) (rs : List Record) → trace_of s ≡ texts.Whole v rs → length (pieces_of n s) ≤ length rs + 1
unfolding pieces_of
pieces_few n s v rs e =
    let parts = parts_of (length rs) v n 65536 (fresh_table n) rs in
    let size = length-append parts (last_text v (length rs) ∷ []) in
    rw e (omega (arith, size, parts_few (length rs) v n (fresh_table n) rs))

-- no records, no parts
pub no_parts : (k : ℕ) (v : Version) (n : ℕ) (t : Table) → parts_of k v n 65536 t [] ≡ []
unfolding parts_of
no_parts zero v n t = refl
no_parts (suc k) v n t = refl

module _ {n : ℕ} {s : List ℕ} (h : Handed) where
  -- the text that is next is the piece that comes next
  pub piece_next :
      {t piece : List ℕ} {later : List (List ℕ)} → length (pieces_of n s) < 2 ^ 64 → drop h.pieces (pieces_of n s) ≡ t ∷ later →
      piece ≡ t → PieceNext n s h (length piece) piece
  piece_next {piece = piece} {later = later} few e same =
      let whole = take_all (length piece) piece (omega arith) ∙ same in
      record { few = few; later = later; next = e ∙ ap (λ (x : List ℕ). x ∷ later) (sym whole) }

  -- where a piece comes next, not all have gone
  pub still : {size : ℕ} {buf : List ℕ} → PieceNext n s h size buf → h.pieces < length (pieces_of n s)
  still p = omega (arith, sym (length-drop h.pieces (pieces_of n s)) ∙ ap length p.next)

  -- a write that failed ends the replay
  pub sent_some :
      {size : ℕ} {buf : List ℕ} {to : ℤ} {r : Stopped} → need Proc2 n ≤ 65536 → PieceNext n s h size buf → h.to ≡ to →
      r ≡ stopped h.to h.pieces → SentFits n s to (Failed r)
  sent_some room p same e = record { text = pieces_joined n s room; ended = record { same = rw e same; pieces = rw e (still p) } }

  -- where one piece is left, all have gone when it has
  pub all_went :
      {t : List ℕ} {to : ℤ} {trace : Bool} {r : Handed} → is_trace (trace_of s) ≡ trace →
      drop h.pieces (pieces_of n s) ≡ t ∷ [] → h.to ≡ to → r ≡ handed h.to (h.pieces + 1) → AllWent n s to trace r
  all_went read e same g =
      let all : length (pieces_of n s) ≡ h.pieces + 1 = omega (arith, sym (length-drop h.pieces (pieces_of n s)) ∙ ap length e) in
      record { read = read; pieces = g ∙ rw (same, all) }

-- a promise for a descriptor is one for any equal to it
pub sent_to : {n : ℕ} {s : List ℕ} {fd to : ℤ} {r : Sent} → fd ≡ to → SentFits n s fd r → SentFits n s to r
sent_to {n} {s} {r = r} e f = subst (λ (x : ℤ). SentFits n s x r) e f
