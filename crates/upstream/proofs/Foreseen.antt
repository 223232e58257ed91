-- What upstream required of a call, and what its trait promised of numbers, clocks and samples (`Asked`), keeps refusals 4 to 8
-- away, and 13 where the number is near the clock, of which upstream knows nothing: the tests for 4, for 5, 6 and 13, and for 7
-- and 8 then pass, and what the others refuse by is 1, 2 or 3.
use Prim.Native.Nat.{ℕ, ◌+◌, ◌≤◌, ◌<◌}
use mathlib.Core.Path.{◌≡◌}
use mathlib.Core.Bool.{Bool, true, false, cond}
use mathlib.Core.List.{List}
use native.Mathlib.Omega.{arith}
use lib.Dec.{eqb, leb}
use borrow.Author.Tests.{ne_eqb}
use Rattle.kinds.specs.Refusals.{told}
use Rattle.kinds.specs.declared.Stamp.{Stamp}
use Rattle.kinds.specs.declared.SlotNo.{SlotNo}
use Rattle.kinds.specs.declared.Txid.{Txid}
use Rattle.kinds.specs.Verdicts.{Verdict, Pass, Refuse, then, zero_test}
use Rattle.model.specs.declared.Table.{Table}
use Rattle.model.specs.Tally.{lowest_empty}
use Rattle.model.specs.Tables.{txid_at, clock_of}
use Rattle.model.specs.Tests.{slot_test, holder_test, owner_test, farthest, reservation_test, full_test, observation_test}
use Rattle.model.specs.Accepted.{Reserves, Observes}
use Rattle.model.specs.Calls.{Call, begin, end, snap, own, oldest, vacuum, stamp, finish, pin, unpin, refusal}
use Rattle.model.proofs.Tests.{reservation-passes, observation-passes}
use Rattle.upstream.specs.States.{State, state_of, Foreseen, Asked}
use Rattle.upstream.specs.Relations.{Observation, Reservation}

cond_foreseen : (b : Bool) (v w : Verdict) → Foreseen v → Foreseen w → Foreseen (cond b v w)
cond_foreseen true v w p q = p
cond_foreseen false v w p q = q

then_foreseen : (v w : Verdict) → Foreseen v → Foreseen w → Foreseen (then v w)
then_foreseen Pass w p q = q
then_foreseen (Refuse r) w p q = p

pass_foreseen : (v : Verdict) → v ≡ Pass → Foreseen v
pass_foreseen v e = rw e (omega arith)

pub positive_passes : (id : Txid) → 0 < id.0 → zero_test id ≡ Pass
positive_passes id h = rw (ne_eqb id.0 0 (λ z. omega arith))

module _ (n : ℕ) (t : Table) where
  full-foreseen : (k : Stamp) → Foreseen (full_test n t.txids k)
  unfolding told
  full-foreseen k = cond_foreseen (leb n (lowest_empty t.txids)) _ Pass (omega arith) (omega arith)

  owner-foreseen : (i : SlotNo) (id : Txid) → 0 < id.0 → Foreseen (owner_test n t.txids i id)
  unfolding told
  owner-foreseen i id h =
      then_foreseen (slot_test n i) (then (zero_test id) (holder_test t.txids i id))
      (cond_foreseen (leb n i.0) _ Pass (omega arith) (omega arith))
      (then_foreseen (zero_test id) (holder_test t.txids i id) (pass_foreseen (zero_test id) (positive_passes id h))
      (cond_foreseen (eqb (txid_at t i.0) id.0) Pass _ (omega arith) (omega arith)))

  reserves-foreseen : (k : Stamp) → Reserves (clock_of t) k.0 → Foreseen (reservation_test (clock_of t) k)
  reserves-foreseen k f = pass_foreseen (reservation_test (clock_of t) k) (reservation-passes (clock_of t) k f)

  observes-foreseen : (c m : ℕ) → Observes (clock_of t) c m → Foreseen (observation_test (clock_of t) c m)
  observes-foreseen c m f = pass_foreseen (observation_test (clock_of t) c m) (observation-passes (clock_of t) c m f)

  pub asked_foreseen : (c : Call) → Asked t c → Foreseen (refusal n t c)
  unfolding refusal
  asked_foreseen (begin k) f =
      then_foreseen (reservation_test (clock_of t) k) (full_test n t.txids k) (reserves-foreseen k f) (full-foreseen k)
  asked_foreseen (end i id) h = owner-foreseen i id h
  asked_foreseen (snap c m) f = observes-foreseen c m f
  asked_foreseen (own i id c m) (h, f) =
      then_foreseen (owner_test n t.txids i id) (observation_test (clock_of t) c m) (owner-foreseen i id h)
      (observes-foreseen c m f)
  asked_foreseen (oldest c m) f = observes-foreseen c m f
  asked_foreseen (vacuum c m) f = observes-foreseen c m f
  asked_foreseen (stamp k) f = reserves-foreseen k f
  asked_foreseen (finish i id k) (h, f) =
      then_foreseen (owner_test n t.txids i id) (reservation_test (clock_of t) k) (owner-foreseen i id h)
      (reserves-foreseen k f)
  asked_foreseen (pin c m) f = absurd f
  asked_foreseen (unpin k) f = absurd f

-- the trait's `reservation`, with the clock above 0 that it required and a number near it, and its `observation` give what is asked
module _ (t : Table) (history : List ℕ) (new : State) where
  pub reservation_reserves :
      (k : Stamp) → 0 < clock_of t → Reservation (state_of t history) new k.0 → k.0 ≤ clock_of t + farthest →
      Reserves (clock_of t) k.0
  reservation_reserves k h r near =
      record { positive = omega (arith, r.from_clock); from_clock = r.from_clock; below_top = r.below_top; near = near }

  pub observation_observes :
      Observation (state_of t history) new → Observes (clock_of t) new.clock new.sampled_clock
  observation_observes o = record { onward = o.clock; positive = o.sample_positive; within = o.sample_within }
