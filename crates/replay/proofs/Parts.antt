-- Parts of a run, one after the other, are the run (by induction on the records); and a replay that went in whole is the trace's
-- answers, all that it prints but the second engine's line. What a part is stands in crate replay_part (specs/Part), what goes into a
-- buffer in specs/Into.antt.
use Prim.Native.Nat.{ℕ, ◌+◌, ◌≤◌}
use mathlib.Core.Path.{◌≡◌, refl, sym, ap, ◌∙◌}
use mathlib.Core.Bool.{Bool, true, false, cond}
use mathlib.Core.List.{List, [], ◌∷◌, ◌++◌, append_assoc, append-nil}
use native.Mathlib.Omega.{arith}
use lib.Dec.{leb}
use lib.ListN.{length, length-append}
use borrow.Author.Tests.{le-leb}
use Rattle.model.specs.declared.Table.{Table}
use Rattle.model.specs.Calls.{after, shown}
use Rattle.model.specs.History.{run}
use Rattle.model.specs.Tables.{fresh_table}
use Rattle.model.specs.Facts.{Good}
use Rattle.model.proofs.Moves.{good-fresh}
use Rattle.model.proofs.Facts.{good-after}
use Rattle.text.specs.Keys.{records_key}
use Rattle.text.specs.Line.{line_text}
use Rattle.trace.specs.declared.Record.{Record}
use Rattle.grammar.specs.Texts.{Read, Whole, Broken}
use Rattle.trace.specs.declared.Version.{Version}
use Rattle.trace.specs.declared.Version.TheVariants.{Proc1}
use Rattle.trace.specs.Trace.{trace_of}
use Rattle.output.specs.Output.{printed, need, fits}
use Rattle.step.specs.Named.{call_of}
use Rattle.replay_text.specs.Replay.{calls_of, text_of, broken_text, answers_by, answers_of}
use Rattle.replay_part.specs.Part.{Part, with_text, part_of}
use Rattle.replay_part.proofs.Room.{room_fits}
use Rattle.replay.specs.Into.{whole, cut, text_in, into_end, into_by, into_of}

-- what a part printed, and then what its table prints for the records it left, is what all the records print
pub record Joins (v : Version) (n : ℕ) (t : Table) (rs : List Record) (p : Part) : Type 0 where
  pub text : text_of v n t rs ≡ p.text ++ text_of v n p.table p.left
  pub table : run n t (calls_of rs) ≡ run n p.table (calls_of p.left)

pub parts_join : (v : Version) (n size at : ℕ) (t : Table) (rs : List Record) → Joins v n t rs (part_of v n size at t rs)
unfolding part_of text_of run
parts_join v n size at t [] = record { text = refl; table = refl }
parts_join v n size at t (r ∷ rs) =
    go (fits v n size at (shown n t (call_of r)).count)
    (parts_join v n size (at + length (printed v n t (call_of r))) (after n t (call_of r)) rs)
  where
    go :
        (b : Bool) →
        Joins v n (after n t (call_of r)) rs (part_of v n size (at + length (printed v n t (call_of r))) (after n t (call_of r)) rs) →
        Joins v n t (r ∷ rs)
        (cond b
        (with_text (printed v n t (call_of r)) (part_of v n size (at + length (printed v n t (call_of r))) (after n t (call_of r)) rs))
        (record { text = []; table = t; left = r ∷ rs }))
    go true j = record { text = rw (j.text, append_assoc); table = j.table }
    go false j = record { text = refl; table = refl }

-- a part that left no record printed them all
pub part_whole :
    (v : Version) (n size : ℕ) (t : Table) (rs : List Record) → (part_of v n size 0 t rs).left ≡ [] →
    (part_of v n size 0 t rs).text ≡ text_of v n t rs
unfolding text_of
part_whole v n size t rs e =
    let j = (parts_join v n size 0 t rs).text in
    sym (j ∙ rw (e, append-nil))

end_whole :
    (size count : ℕ) (left : List Record) (t : List ℕ) {text : List ℕ} → into_end size count left t ≡ whole text →
    (left ≡ []) × (text ≡ t ++ line_text records_key count)
end_whole size count (r ∷ rs) t e = let z : ◌≡◌ {A = ℕ} 0 1 = cc in absurd (omega arith)
end_whole size count [] t {text} e = go (leb (length t + length (line_text records_key count)) size) e
  where
    go :
        (b : Bool) → cond b (whole (t ++ line_text records_key count)) (cut t) ≡ whole text →
        (◌≡◌ {A = List Record} [] []) × (text ≡ t ++ line_text records_key count)
    go true h = (refl, cc)
    go false h = let z : ◌≡◌ {A = ℕ} 0 1 = cc in absurd (omega arith)

broken_whole : (b : Bool) (line : ℕ) {text : List ℕ} → cond b (whole (broken_text line)) (cut []) ≡ whole text → text ≡ broken_text line
broken_whole true line h = cc
broken_whole false line h = let z : ◌≡◌ {A = ℕ} 0 1 = cc in absurd (omega arith)

-- what went in whole is the answers of the trace
pub whole_is_replay : (n size : ℕ) (s : List ℕ) {text : List ℕ} → into_of n size s ≡ whole text → text ≡ answers_of n s
unfolding into_of answers_of
whole_is_replay n size s {text} e = go (trace_of s) e
  where
    go : (f : Read Version Record) → into_by n size f ≡ whole text → text ≡ answers_by n f
    go (Broken line) h = broken_whole (leb 33 size) line h
    go (Whole v rs) h =
        let w = end_whole size (length rs) (part_of v n size 0 (fresh_table n) rs).left (part_of v n size 0 (fresh_table n) rs).text h in
        w.1 ∙ ap (λ (t : List ℕ). t ++ line_text records_key (length rs)) (part_whole v n size (fresh_table n) rs w.0)

-- and any replay into a buffer leaves a beginning of that text
pub record Beginning (t whole : List ℕ) : Type 0 where
  pub rest : List ℕ
  pub joined : whole ≡ t ++ rest

end-begins :
    (v : Version) (n size count : ℕ) (rs : List Record) (p : Part) → Joins v n (fresh_table n) rs p →
    Beginning (text_in (into_end size count p.left p.text)) (text_of v n (fresh_table n) rs ++ line_text records_key count)
unfolding text_of
end-begins v n size count rs p j = go p.left refl
  where
    more : Beginning p.text (text_of v n (fresh_table n) rs ++ line_text records_key count)
    more = record { rest = text_of v n p.table p.left ++ line_text records_key count; joined = rw (j.text, append_assoc) }

    go :
        (l : List Record) → p.left ≡ l →
        Beginning (text_in (into_end size count l p.text)) (text_of v n (fresh_table n) rs ++ line_text records_key count)
    go (r ∷ ls) e = more
    go [] e = ends (leb (length p.text + length (line_text records_key count)) size)
      where
        ends :
            (b : Bool) →
            Beginning (text_in (cond b (whole (p.text ++ line_text records_key count)) (cut p.text)))
            (text_of v n (fresh_table n) rs ++ line_text records_key count)
        ends true = record { rest = []; joined = rw (j.text, e, append-nil p.text, append-nil (p.text ++ line_text records_key count)) }
        ends false = more

pub into_begins : (n size : ℕ) (s : List ℕ) → Beginning (text_in (into_of n size s)) (answers_of n s)
unfolding into_of answers_of
into_begins n size s = go (trace_of s)
  where
    broken : (b : Bool) (line : ℕ) → Beginning (text_in (cond b (whole (broken_text line)) (cut []))) (broken_text line)
    broken true line = record { rest = []; joined = rw append-nil }
    broken false line = record { rest = broken_text line; joined = refl }

    go : (f : Read Version Record) → Beginning (text_in (into_by n size f)) (answers_by n f)
    go (Broken line) = broken (leb 33 size) line
    go (Whole v rs) =
        end-begins v n size (length rs) rs (part_of v n size 0 (fresh_table n) rs) (parts_join v n size 0 (fresh_table n) rs)

-- with room for the whole text and for one record of the most ids, every record goes in
all_fit :
    (v : Version) (n size at : ℕ) (t : Table) (rs : List Record) → Good n t → at + length (text_of v n t rs) + need v n ≤ size →
    (part_of v n size at t rs).left ≡ []
unfolding part_of text_of
all_fit v n size at t [] g h = refl
all_fit v n size at t (r ∷ rs) g h =
    let out = printed v n t (call_of r) in
    let next = after n t (call_of r) in
    let long = length-append out (text_of v n next rs) in
    rw (room_fits v n size at t (call_of r) g (omega arith))
    (all_fit v n size (at + length out) next rs (good-after n t (call_of r) g) (omega (arith, long)))

-- the header of a text; one that is no trace needs no more room than proc-1's
abbrev pub headed : Read Version Record → Version
headed (Whole v rs) = v
headed (Broken line) = Proc1

pub room_is_whole :
    (n size : ℕ) (s : List ℕ) → length (answers_of n s) + need (headed (trace_of s)) n ≤ size →
    into_of n size s ≡ whole (answers_of n s)
unfolding into_of answers_of
room_is_whole n size s = go (trace_of s)
  where
    go : (f : Read Version Record) → length (answers_by n f) + need (headed f) n ≤ size → into_by n size f ≡ whole (answers_by n f)
    go (Broken line) h = rw (le-leb 33 size (omega arith))
    go (Whole v rs) h =
        let text = text_of v n (fresh_table n) rs in
        let line = line_text records_key (length rs) in
        let long = length-append text line in
        let none = all_fit v n size 0 (fresh_table n) rs (good-fresh n) (omega (arith, long)) in
        let same = part_whole v n size (fresh_table n) rs none in
        rw (none, same, le-leb (length text + length line) size (omega (arith, long)))
