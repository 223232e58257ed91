-- The laws of a run from a place on: where it stops, and one record more. The bound on the tries is never reached (as in crate grammar,
-- proofs/Walk).
use Prim.Native.Nat.{ℕ, zero, suc, ◌+◌, ◌-◌, ◌<◌}
use mathlib.Core.Path.{◌≡◌, refl, sym, ap, ◌∙◌}
use mathlib.Core.Bool.{Bool, true, false, cond}
use mathlib.Core.List.{List}
use native.Mathlib.Numerals.{add-one}
use native.Mathlib.Omega.{arith}
use lib.Dec.{eqb}
use lib.ListN.{length}
use borrow.Author.Tests.{eq-eqb, ne_eqb, eqb-true, eqb-false}
use Rattle.model.specs.declared.Table.{Table}
use Rattle.model.specs.Calls.{after, shown}
use Rattle.trace.specs.declared.Record.{Record}
use Rattle.trace.specs.RecordAt.{RecordAt, Is, Broken}
use Rattle.trace.specs.declared.Version.{Version}
use Rattle.trace.specs.Record.{record_at}
use Rattle.trace.proofs.Shape.{any_facts}
use Rattle.trace.proofs.Answers.{record_is}
use Rattle.output.specs.Output.{printed, fits}
use Rattle.step.specs.Named.{call_of}
use Rattle.replay_part.specs.Course.{Course, printing, staying, on_record, course_in, course_of}

module _ (v : Version) (n size : ℕ) (s : List ℕ) where
  -- a record where so many bytes are filled: it runs, and then what comes after it, or it has no room
  abbrev tried : (Record → ℕ → Course) → ℕ → ℕ → Table → Record → ℕ → Course
  tried rest at filled t r e =
      cond (fits v n size filled (shown n t (call_of r)).count) (printing (printed v n t (call_of r)) (rest r e)) (staying at t)

  abbrev later : ℕ → ℕ → Table → Record → ℕ → Course
  later k filled t r e = course_in k v n size s e (filled + length (printed v n t (call_of r))) (after n t (call_of r))

  in_end : (k at filled : ℕ) (t : Table) → at ≡ length s → course_in (suc k) v n size s at filled t ≡ staying at t
  unfolding course_in
  in_end k at filled t h = rw (course_in, eq-eqb at (length s) h)

  in_step :
      (k at filled : ℕ) (t : Table) {x : RecordAt} → (at ≡ length s → ⊥) → record_at s at ≡ x →
      course_in (suc k) v n size s at filled t ≡ on_record x (staying at t) (tried (later k filled t) at filled t)
  unfolding course_in
  in_step k at filled t h e = rw (course_in, ne_eqb at (length s) h, e)

  -- a larger bound changes nothing
  in-enough :
      (k j at filled : ℕ) (t : Table) → length s - at < k → length s - at < j →
      course_in k v n size s at filled t ≡ course_in j v n size s at filled t
  in-enough zero j at filled t h g = absurd (omega arith)
  in-enough (suc k) zero at filled t h g = absurd (omega arith)
  in-enough (suc k) (suc j) at filled t h g =
      go (eqb at (length s)) refl (record_at s at) refl (λ e filled' t'. in-enough k j e filled' t')
    where
      go :
          (b : Bool) → eqb at (length s) ≡ b → (x : RecordAt) → record_at s at ≡ x →
          ((e filled' : ℕ) (t' : Table) → length s - e < k → length s - e < j →
          course_in k v n size s e filled' t' ≡ course_in j v n size s e filled' t') →
          course_in (suc k) v n size s at filled t ≡ course_in (suc j) v n size s at filled t
      go true p x q ih = let end = eqb-true at (length s) p in in_end k at filled t end ∙ sym (in_end j at filled t end)
      go false p (Broken l) q ih =
          let on = eqb-false at (length s) p in
          in_step k at filled t on q ∙ sym (in_step j at filled t on q)
      go false p (Is r e) q ih =
          let on = eqb-false at (length s) p in
          let m = any_facts.moves s at r e (record_is s at q) in
          let same = ih e (filled + length (printed v n t (call_of r))) (after n t (call_of r)) (omega (arith, m.0, m.1)) (omega (arith, m.0, m.1)) in
          in_step k at filled t on q
          ∙ ap (λ (c : Course). tried (λ _ _. c) at filled t r e) same
          ∙ sym (in_step j at filled t on q)

  module _ (at filled : ℕ) (t : Table) where
    -- the text is over
    pub course_over : at ≡ length s → course_of v n size s at filled t ≡ staying at t
    unfolding course_of
    course_over h =
        ap (λ (k : ℕ). course_in k v n size s at filled t) (add-one (length s - at)) ∙ in_end (length s - at) at filled t h

    -- what follows is no record
    pub course_broken : {k : ℕ} → (at ≡ length s → ⊥) → record_at s at ≡ Broken k → course_of v n size s at filled t ≡ staying at t
    unfolding course_of
    course_broken h q =
        ap (λ (k : ℕ). course_in k v n size s at filled t) (add-one (length s - at)) ∙ in_step (length s - at) at filled t h q

    module _ (r : Record) (e : ℕ) (q : record_at s at ≡ Is r e) where
      course-record : course_of v n size s at filled t ≡ tried (later (length s - at) filled t) at filled t r e
      unfolding course_of
      course-record =
          let m = any_facts.moves s at r e (record_is s at q) in
          ap (λ (k : ℕ). course_in k v n size s at filled t) (add-one (length s - at))
          ∙ in_step (length s - at) at filled t (λ z. omega (arith, m.0, m.1)) q

      -- the next one has no room
      pub course_full : fits v n size filled (shown n t (call_of r)).count ≡ false → course_of v n size s at filled t ≡ staying at t
      course_full short = course-record ∙ rw short

      -- it has
      pub course_next :
          fits v n size filled (shown n t (call_of r)).count ≡ true →
          course_of v n size s at filled t
          ≡ printing (printed v n t (call_of r)) (course_of v n size s e (filled + length (printed v n t (call_of r))) (after n t (call_of r)))
      unfolding course_of
      course_next ok =
          let m = any_facts.moves s at r e (record_is s at q) in
          let out = printed v n t (call_of r) in
          let same =
          in-enough (length s - at) (length s - e + 1) e (filled + length out) (after n t (call_of r)) (omega (arith, m.0, m.1)) (omega arith) in
          course-record ∙ rw ok (ap (λ (c : Course). printing out c) same)
