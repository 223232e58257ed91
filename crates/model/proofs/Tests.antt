-- What each test asks for: it passes exactly there.
use Prim.Native.Nat.{ℕ, ◌+◌, ◌<◌}
use mathlib.Core.Path.{◌≡◌}
use mathlib.Core.Logic.{◌≢◌}
use mathlib.Core.Bool.{◌||◌}
use mathlib.Mathlib.Data.Bool.Basic.{or-eq-false-eq-eq-false-and-eq-false as neither}
use native.Mathlib.Decide.{dec_lt}
use native.Mathlib.Omega.{arith}
use lib.Dec.{ltb, leb, eqb}
use borrow.Author.Tests.{ltb-false, leb-false, eqb-true, eqb-false, le-ltb, lt-leb, eq-eqb, ne_eqb}
use Rattle.kinds.specs.declared.Stamp.{Stamp}
use Rattle.kinds.specs.declared.SlotNo.{SlotNo}
use Rattle.kinds.specs.declared.Txid.{Txid}
use Rattle.kinds.specs.declared.PinNo.{PinNo}
use Rattle.kinds.specs.Kinds.{top, pin_count}
use Rattle.kinds.specs.Verdicts.{Pass, zero_test}
use Rattle.kinds.proofs.Verdicts.{not_refused, passed_by, then_pass}
use Rattle.model.specs.declared.Table.{Table}
use Rattle.model.specs.Tally.{lowest_empty}
use Rattle.model.specs.Tables.{txid_at, pin_at}
use Rattle.model.specs.Tests.{slot_test, holder_test, owner_test, farthest, reservation_test, full_test, observation_test}
use Rattle.model.specs.Tests.{pin_test, release_test}
use Rattle.model.specs.Accepted.{Owns, Free, Reserves, Observes, SomePinFree, PinTaken}
use Rattle.model.proofs.Tally.{lowest_empty_lem, below_lowest}

pub owns : (n : ℕ) (t : Table) (slot : SlotNo) (id : Txid) → owner_test n t.txids slot id ≡ Pass → Owns n t slot id
owns n t slot id e =
    let (a, e₁) = then_pass (slot_test n slot) _ e in
    let (b, c) = then_pass (zero_test id) (holder_test t.txids slot id) e₁ in
    record {
      inside = leb-false n slot.0 (not_refused (leb n slot.0) _ Pass a).0;
      registered =
          record {
            not_zero = eqb-false id.0 0 (not_refused (eqb id.0 0) _ Pass b).0;
            holds = eqb-true (txid_at t slot.0) id.0 (passed_by (eqb (txid_at t slot.0) id.0) _ c);
          };
    }

pub reserves : (clock : ℕ) (number : Stamp) → reservation_test clock number ≡ Pass → Reserves clock number.0
reserves clock number e =
    let (a, e₁) = not_refused (leb top clock) _ _ e in
    let (b, e₂) = not_refused (eqb number.0 0 || (ltb number.0 clock || leb top number.0)) _ _ e₁ in
    let (c, e₃) = not_refused (ltb (clock + farthest) number.0) _ Pass e₂ in
    let (b₀, b') = (neither (eqb number.0 0) _).0 b in
    let (b₁, b₂) = (neither (ltb number.0 clock) (leb top number.0)).0 b' in
    let nz : number.0 ≢ 0 = eqb-false number.0 0 b₀ in
    record {
      positive = omega arith;
      from_clock = ltb-false number.0 clock b₁;
      below_top = leb-false top number.0 b₂;
      near = ltb-false (clock + farthest) number.0 c;
    }

pub observes : (former clock sample : ℕ) → observation_test former clock sample ≡ Pass → Observes former clock sample
observes former clock sample e =
    let (a, e₁) = not_refused (ltb clock former) _ _ e in
    let (b, e₂) = not_refused (eqb sample 0 || ltb clock sample) _ Pass e₁ in
    let (b₀, b₁) = (neither (eqb sample 0) (ltb clock sample)).0 b in
    let nz : sample ≢ 0 = eqb-false sample 0 b₀ in
    record { onward = ltb-false clock former a; positive = omega arith; within = ltb-false clock sample b₁ }

-- where some slot is empty, the lowest empty one is inside
pub free_lowest : (n : ℕ) (t : Table) → Free n t → lowest_empty t.txids < n
free_lowest n t f = go (dec_lt (lowest_empty t.txids) n)
  where
    go : Dec (lowest_empty t.txids < n) → lowest_empty t.txids < n
    go (yes h) = h
    go (no h) = absurd (below_lowest t.txids f.slot (omega arith) f.empty)

pub free : (n : ℕ) (t : Table) (number : Stamp) → full_test n t.txids number ≡ Pass → Free n t
free n t number e =
    record {
      slot = lowest_empty t.txids;
      inside = leb-false n (lowest_empty t.txids) (not_refused (leb n (lowest_empty t.txids)) _ Pass e).0;
      empty = lowest_empty_lem t.txids;
    }

-- the same of pins
pub free_pin_lowest : (t : Table) → SomePinFree t → lowest_empty t.pins < pin_count
free_pin_lowest t f = go (dec_lt (lowest_empty t.pins) pin_count)
  where
    go : Dec (lowest_empty t.pins < pin_count) → lowest_empty t.pins < pin_count
    go (yes h) = h
    go (no h) = absurd (below_lowest t.pins f.number (omega (arith, f.inside)) f.is_free)

pub some_pin_free : (t : Table) → pin_test t.pins ≡ Pass → SomePinFree t
some_pin_free t e =
    record {
      number = lowest_empty t.pins;
      inside = leb-false pin_count (lowest_empty t.pins) (not_refused (leb pin_count (lowest_empty t.pins)) _ Pass e).0;
      is_free = lowest_empty_lem t.pins;
    }

pub pin-taken : (t : Table) (k : PinNo) → release_test t.pins k ≡ Pass → PinTaken t k
pin-taken t k e =
    let (a, e₁) = not_refused (leb pin_count k.0) _ _ e in
    let (b, e₂) = not_refused (eqb (pin_at t k.0) 0) _ Pass e₁ in
    record { inside = leb-false pin_count k.0 a; not_free = eqb-false (pin_at t k.0) 0 b }

-- and the other way round: each test passes on what it asks for
pub owner-passes : (n : ℕ) (t : Table) (slot : SlotNo) (id : Txid) → Owns n t slot id → owner_test n t.txids slot id ≡ Pass
owner-passes n t slot id o =
    rw (
      lt-leb n slot.0 o.inside,
      ne_eqb id.0 0 o.registered.not_zero,
      eq-eqb (txid_at t slot.0) id.0 o.registered.holds,
    )

pub reservation-passes : (clock : ℕ) (number : Stamp) → Reserves clock number.0 → reservation_test clock number ≡ Pass
reservation-passes clock number r =
    rw (
      lt-leb top clock (omega arith),
      ne_eqb number.0 0 (λ z. omega arith),
      le-ltb number.0 clock r.from_clock,
      lt-leb top number.0 r.below_top,
      le-ltb (clock + farthest) number.0 r.near,
    )

pub observation-passes : (former clock sample : ℕ) → Observes former clock sample → observation_test former clock sample ≡ Pass
observation-passes former clock sample o =
    rw (
      le-ltb clock former o.onward,
      ne_eqb sample 0 (λ z. omega arith),
      le-ltb clock sample o.within,
    )

pub free_passes : (n : ℕ) (t : Table) (number : Stamp) → Free n t → full_test n t.txids number ≡ Pass
free_passes n t number f = rw (lt-leb n (lowest_empty t.txids) (free_lowest n t f))

pub free_pin-passes : (t : Table) → SomePinFree t → pin_test t.pins ≡ Pass
free_pin-passes t f = rw (lt-leb pin_count (lowest_empty t.pins) (free_pin_lowest t f))

pub taken-pin-passes : (t : Table) (k : PinNo) → PinTaken t k → release_test t.pins k ≡ Pass
taken-pin-passes t k h = rw (lt-leb pin_count k.0 h.inside, ne_eqb (pin_at t k.0) 0 h.not_free)
