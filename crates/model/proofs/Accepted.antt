-- A call is accepted exactly where its arguments are acceptable.
use Prim.Native.Nat.{ℕ}
use mathlib.Core.Logic.{◌↔◌}
use Rattle.kinds.proofs.Verdicts.{then_pass}
use Rattle.model.specs.declared.Table.{Table}
use Rattle.model.specs.Tables.{clock_of}
use Rattle.model.specs.Tests.{owner_test, reservation_test, full_test, observation_test, pin_test}
use Rattle.model.specs.Calls.{Call, begin, end, snap, own, oldest, vacuum, stamp, finish, pin, unpin, refusal}
use Rattle.model.specs.Accepted.{Acceptable}
use Rattle.model.specs.History.{Accepts}
use Rattle.model.proofs.Tests.{owns, reserves, observes, free, owner-passes, reservation-passes, observation-passes, free_passes}
use Rattle.model.proofs.Tests.{some_pin_free, pin-taken, free_pin-passes, taken-pin-passes}

pub accepted_acceptable : (n : ℕ) (t : Table) (c : Call) → Accepts n t c → Acceptable n t c
unfolding refusal
accepted_acceptable n t (begin number) e =
    let (a, b) = then_pass (reservation_test (clock_of t) number) (full_test n t.txids number) e in
    (reserves (clock_of t) number a, free n t number b)
accepted_acceptable n t (end slot id) e = owns n t slot id e
accepted_acceptable n t (snap clock sample) e = observes (clock_of t) clock sample e
accepted_acceptable n t (own slot id clock sample) e =
    let (a, b) = then_pass (owner_test n t.txids slot id) (observation_test (clock_of t) clock sample) e in
    (owns n t slot id a, observes (clock_of t) clock sample b)
accepted_acceptable n t (oldest clock sample) e = observes (clock_of t) clock sample e
accepted_acceptable n t (vacuum clock sample) e = observes (clock_of t) clock sample e
accepted_acceptable n t (stamp number) e = reserves (clock_of t) number e
accepted_acceptable n t (finish slot id number) e =
    let (a, b) = then_pass (owner_test n t.txids slot id) (reservation_test (clock_of t) number) e in
    (owns n t slot id a, reserves (clock_of t) number b)
accepted_acceptable n t (pin clock sample) e =
    let (a, b) = then_pass (observation_test (clock_of t) clock sample) (pin_test t.pins) e in
    (observes (clock_of t) clock sample a, some_pin_free t b)
accepted_acceptable n t (unpin k) e = pin-taken t k e

pub acceptable_accepted : (n : ℕ) (t : Table) (c : Call) → Acceptable n t c → Accepts n t c
unfolding refusal
acceptable_accepted n t (begin number) (r, f) =
    rw (reservation-passes (clock_of t) number r) (free_passes n t number f)
acceptable_accepted n t (end slot id) o = owner-passes n t slot id o
acceptable_accepted n t (snap clock sample) o = observation-passes (clock_of t) clock sample o
acceptable_accepted n t (own slot id clock sample) (o, v) =
    rw (owner-passes n t slot id o) (observation-passes (clock_of t) clock sample v)
acceptable_accepted n t (oldest clock sample) o = observation-passes (clock_of t) clock sample o
acceptable_accepted n t (vacuum clock sample) o = observation-passes (clock_of t) clock sample o
acceptable_accepted n t (stamp number) r = reservation-passes (clock_of t) number r
acceptable_accepted n t (finish slot id number) (o, r) =
    rw (owner-passes n t slot id o) (reservation-passes (clock_of t) number r)
acceptable_accepted n t (pin clock sample) (o, f) =
    rw (observation-passes (clock_of t) clock sample o) (free_pin-passes t f)
acceptable_accepted n t (unpin k) h = taken-pin-passes t k h

pub accepted_exactly : (n : ℕ) (t : Table) (c : Call) → Accepts n t c ↔ Acceptable n t c
accepted_exactly n t c = (accepted_acceptable n t c, acceptable_accepted n t c)
