-- Where a run of records stands. The invariant of `run_part`, `Running`: what was printed stands at the buffer's start, and the run from the
-- first place on is that text and the run from the present place on, from the table as it is now (specs/Course.antt).
use Prim.Native.Nat.{ℕ, ◌+◌, ◌≤◌}
use mathlib.Core.Path.{◌≡◌, refl, sym, ap, ◌∙◌}
use mathlib.Core.Bool.{Bool, true, false}
use mathlib.Core.List.{List, [], ◌++◌, append_assoc, append-nil}
use native.Mathlib.Nat.{zero-add}
use native.Mathlib.Omega.{arith}
use lib.ListN.{length, length-append, length-take, length-drop}
use borrow.Author.Tests.{le-leb}
use Rattle.model.specs.declared.Table.{Table}
use Rattle.model.specs.Changes.{applied}
use Rattle.model.specs.Calls.{Call, after, shown}
use Rattle.model.proofs.Stores.{stored_txid_lem, stored_txid_long}
use Rattle.text.specs.Put.{Past, NoRoom}
use Rattle.text.specs.Write.{spliced}
use Rattle.text.proofs.Splice.{splice_none, splice_append}
use Rattle.trace.specs.declared.Record.{Record}
use Rattle.trace.specs.declared.Version.{Version}
use Rattle.trace.specs.RecordAt.{Is, Broken}
use Rattle.trace.specs.Record.{record_at}
use Rattle.output.specs.Output.{printed, fits, put_text, left_text}
use Rattle.step.specs.Named.{call_of}
use Rattle.step.specs.Step.{ran_of, left_of, ran, ran_left}
use Rattle.replay_part.specs.declared.Progress.{Progress}
use Rattle.replay_part.specs.Course.{printing, staying, course_of, progress_of}
use Rattle.replay_part.proofs.Courses.{course_over, course_broken, course_full, course_next}
use Rattle.step.specs.declared.Ran.{Ran}

-- a text that leaves the length as it was ends inside
pub inside_of : (xs : List ℕ) (at : ℕ) (t : List ℕ) → at ≤ length xs → length (spliced xs at t) ≡ length xs → at + length t ≤ length xs
unfolding spliced
inside_of xs at t h e = omega (arith, simp (length-append, length-take, length-drop) at e)

-- a text that was put had room; one that was not, had none
module _ (v : Version) (n : ℕ) (xs : List ℕ) (at count : ℕ) (t : List ℕ) where
  put-fits : {past : ℕ} → Past past ≡ put_text v n xs at count t → fits v n (length xs) at count ≡ true
  unfolding put_text
  put-fits {past} e = go (fits v n (length xs) at count) refl
    where
      go : (b : Bool) → fits v n (length xs) at count ≡ b → b ≡ true
      go true q = refl
      go false q = let h : Past past ≡ NoRoom = rw q at e in let z : ◌≡◌ {A = ℕ} 0 1 = cc in absurd (omega arith)

  not-put-fits : NoRoom ≡ put_text v n xs at count t → fits v n (length xs) at count ≡ false
  unfolding put_text
  not-put-fits e = go (fits v n (length xs) at count) refl
    where
      go : (b : Bool) → fits v n (length xs) at count ≡ b → b ≡ false
      go false q = refl
      go true q = let h : NoRoom ≡ Past (at + length t) = rw q at e in let z : ◌≡◌ {A = ℕ} 0 1 = cc in absurd (omega arith)

  put-past : {past : ℕ} → Past past ≡ put_text v n xs at count t → past ≡ at + length t
  unfolding put_text
  put-past {past} e = let h : Past past ≡ Past (at + length t) = rw (put-fits e) at e in cc

  put-left : {past : ℕ} {ys : List ℕ} → Past past ≡ put_text v n xs at count t → ys ≡ left_text v n xs at count t → ys ≡ spliced xs at t
  unfolding left_text
  put-left e q = rw (put-fits e) at q

  not-put-left : {ys : List ℕ} → NoRoom ≡ put_text v n xs at count t → ys ≡ left_text v n xs at count t → ys ≡ xs
  unfolding left_text
  not-put-left e q = rw (not-put-fits e) at q

-- what running one call leaves, on a table of n slots
pub record RanThere (v : Version) (n : ℕ) (t : Table) (c : Call) (xs : List ℕ) (at : ℕ) (ys : List ℕ) (o : Ran) : Type 0 where
  pub put : o.put ≡ put_text v n xs at (shown n t c).count (printed v n t c)
  pub left : ys ≡ left_text v n xs at (shown n t c).count (printed v n t c)
  pub table : applied t o.change ≡ after n t c

pub ran_there :
    {v : Version} {n : ℕ} {t : Table} {c : Call} {xs : List ℕ} {at : ℕ} {ys : List ℕ} {o : Ran} → length t.txids ≡ n →
    o ≡ ran v n t c xs at → ys ≡ ran_left v n t c xs at → RanThere v n t c xs at ys o
unfolding ran ran_left after
ran_there {v} {n} {t} {c} {xs} {at} {ys} {o} few e l =
    let ok = le-leb (length t.txids) n (omega arith) in
    let is : o ≡ ran_of v n t c xs at = e ∙ rw ok in
    let there : ys ≡ left_of v n t c xs at = l ∙ rw ok in
    record { put = rw is; left = there; table = rw is }

pub record Running (v : Version) (n : ℕ) (s : List ℕ) (from : ℕ) (t₀ : Table) (xs ys : List ℕ) (t : Table) (at filled : ℕ) : Type 0 where
  pub done : List ℕ
  pub text : ys ≡ spliced xs 0 done
  pub size : length ys ≡ length xs
  pub count : filled ≡ length done
  pub inside : filled ≤ length xs
  pub few : length t.txids ≡ n
  pub rest : course_of v n (length xs) s from 0 t₀ ≡ printing done (course_of v n (length xs) s at filled t)

module _ (v : Version) (n : ℕ) (s : List ℕ) (from : ℕ) (t₀ : Table) (xs : List ℕ) where
  -- what a run leaves that has ended: its answer, and its text at the buffer's start
  abbrev pub Ended : List ℕ → Progress → Type 0
  Ended ys r =
      (r ≡ progress_of (course_of v n (length xs) s from 0 t₀)) × (ys ≡ spliced xs 0 (course_of v n (length xs) s from 0 t₀).text)

  pub running_start : length t₀.txids ≡ n → Running v n s from t₀ xs xs t₀ from 0
  running_start k =
      record { done = []; text = splice_none xs 0; size = refl; count = refl; inside = omega arith; few = k; rest = refl }

  module _ {ys : List ℕ} {t : Table} {at filled : ℕ} (w : Running v n s from t₀ xs ys t at filled) where
    -- one record more
    pub running_more :
        (r : Record) (e : ℕ) {o : Ran} {zs : List ℕ} {past : ℕ} {u : Table} → record_at s at ≡ Is r e →
        RanThere v n t (call_of r) ys filled zs o → o.put ≡ Past past → length zs ≡ length ys → u ≡ applied t o.change →
        Running v n s from t₀ xs zs u e past
    running_more r e {o} {zs} {past} {u} q a p k made =
        let out = printed v n t (call_of r) in
        let many = (shown n t (call_of r)).count in
        let put = sym p ∙ a.put in
        let ok : fits v n (length xs) filled many ≡ true = rw (← w.size) (put-fits v n ys filled many out put) in
        let end = put-past v n ys filled many out put in
        let left = put-left v n ys filled many out put a.left in
        let bound = inside_of ys filled out (omega (arith, w.size, w.inside)) (ap length (sym left) ∙ k) in
        let next : u ≡ after n t (call_of r) = made ∙ a.table in
        let slot = o.change.slot in
        let long = ap length (sym (stored_txid_lem n t.txids w.few slot)) ∙ stored_txid_long n t.txids w.few slot in
        record {
          done = w.done ++ out;
          text =
              left ∙ rw (w.text, w.count) (rw (zero-add (length w.done)) at (splice_append xs 0 w.done out (omega arith)));
          size = k ∙ w.size;
          count = omega (arith, end, w.count, length-append w.done out);
          inside = omega (arith, end, bound, w.size);
          few = ap (λ (t : Table). length t.txids) made ∙ long ∙ w.few;
          rest = w.rest ∙ rw (course_next v n (length xs) s at filled t r e q ok, next, end, append_assoc);
        }

    -- it stops where it stands
    stopping : (zs : List ℕ) → zs ≡ spliced xs 0 w.done → course_of v n (length xs) s at filled t ≡ staying at t →
        Ended zs (record { table = t; at = at; filled = filled })
    stopping zs z stop =
        let whole : course_of v n (length xs) s from 0 t₀ ≡ record { text = w.done; table = t; at = at } =
        w.rest ∙ rw (stop, append-nil) in
        (rw (whole, w.count), rw whole z)

    -- what follows is no record
    pub running_broken :
        {k : ℕ} → (at ≡ length s → ⊥) → record_at s at ≡ Broken k → Ended ys (record { table = t; at = at; filled = filled })
    running_broken h q = stopping ys w.text (course_broken v n (length xs) s at filled t h q)

    -- the next record has no room
    pub running_full :
        (r : Record) (e : ℕ) {o : Ran} {zs : List ℕ} → record_at s at ≡ Is r e → RanThere v n t (call_of r) ys filled zs o →
        o.put ≡ NoRoom → Ended zs (record { table = t; at = at; filled = filled })
    running_full r e {o} {zs} q a p =
        let out = printed v n t (call_of r) in
        let many = (shown n t (call_of r)).count in
        let put = sym p ∙ a.put in
        let no : fits v n (length xs) filled many ≡ false = rw (← w.size) (not-put-fits v n ys filled many out put) in
        let same = not-put-left v n ys filled many out put a.left in
        stopping zs (same ∙ w.text) (course_full v n (length xs) s at filled t r e q no)

    -- no record is left
    pub running_over : at ≡ length s → Ended ys (record { table = t; at = at; filled = filled })
    running_over h = stopping ys w.text (course_over v n (length xs) s at filled t h)
