-- Which refusals a call of upstream's can give: 1 to 8 and 13. So upstream foresees its verdict where neither 13 nor any of 4 to 8 is given.
use Prim.Native.Nat.{ℕ, ◌+◌, ◌≤◌}
use mathlib.Core.Path.{◌≡◌, refl}
use mathlib.Core.Logic.{◌≢◌, ◌⊎◌, inl, inr}
use mathlib.Core.Bool.{Bool, true, false, true≢false, cond, ◌||◌}
use mathlib.Core.List.{List}
use native.Mathlib.Decide.{dec_le}
use native.Mathlib.Omega.{arith}
use lib.Dec.{eqb, ltb, leb}
use lib.ListN.{get_or}
use Rattle.kinds.specs.declared.Stamp.{Stamp}
use Rattle.kinds.specs.declared.SlotNo.{SlotNo}
use Rattle.kinds.specs.declared.Txid.{Txid}
use Rattle.kinds.specs.Verdicts.{Verdict, Pass, Refuse, tells, then, zero_test}
use Rattle.kinds.specs.Kinds.{top}
use Rattle.kinds.specs.Refusals.{told}
use Rattle.model.specs.declared.Table.{Table}
use Rattle.model.specs.Tally.{lowest_empty}
use Rattle.model.specs.Tables.{clock_of}
use Rattle.model.specs.Tests.{slot_test, holder_test, owner_test, farthest, reservation_test, full_test, observation_test}
use Rattle.model.specs.Calls.{Call, begin, end, snap, own, oldest, vacuum, stamp, finish, pin, unpin, refusal}
use Rattle.upstream.specs.States.{Foreseen, pinning}

abbrev pub Given : Verdict → Type 0
Given v = ((tells v).number ≤ 8) ⊎ ((tells v).number ≡ 13)

cond_given : (b : Bool) (v w : Verdict) → Given v → Given w → Given (cond b v w)
cond_given true v w p q = p
cond_given false v w p q = q

then_given : (v w : Verdict) → Given v → Given w → Given (then v w)
then_given Pass w p q = q
then_given (Refuse r) w p q = p

owner_given : (n : ℕ) (txids : List ℕ) (slot : SlotNo) (id : Txid) → Given (owner_test n txids slot id)
unfolding told
owner_given n txids slot id =
    then_given (slot_test n slot) (then (zero_test id) (holder_test txids slot id))
    (cond_given (leb n slot.0) _ Pass (inl (omega arith)) (inl (omega arith)))
    (then_given (zero_test id) (holder_test txids slot id)
    (cond_given (eqb id.0 0) _ Pass (inl (omega arith)) (inl (omega arith)))
    (cond_given (eqb (get_or txids slot.0 0) id.0) Pass _ (inl (omega arith)) (inl (omega arith))))

reservation_given : (clock : ℕ) (k : Stamp) → Given (reservation_test clock k)
unfolding told
reservation_given clock k =
    cond_given (leb top clock) _ _ (inl (omega arith))
    (cond_given (eqb k.0 0 || (ltb k.0 clock || leb top k.0)) _ _ (inl (omega arith))
    (cond_given (ltb (clock + farthest) k.0) _ Pass (inr refl) (inl (omega arith))))

full_given : (n : ℕ) (txids : List ℕ) (k : Stamp) → Given (full_test n txids k)
unfolding told
full_given n txids k = cond_given (leb n (lowest_empty txids)) _ Pass (inl (omega arith)) (inl (omega arith))

observation_given : (former clock sample : ℕ) → Given (observation_test former clock sample)
unfolding told
observation_given former clock sample =
    cond_given (ltb clock former) _ _ (inl (omega arith))
    (cond_given (eqb sample 0 || ltb clock sample) _ Pass (inl (omega arith)) (inl (omega arith)))

pub given : (n : ℕ) (t : Table) (c : Call) → pinning c ≡ false → Given (refusal n t c)
unfolding refusal
given n t (begin k) e =
    then_given (reservation_test (clock_of t) k) (full_test n t.txids k) (reservation_given (clock_of t) k)
    (full_given n t.txids k)
given n t (end i id) e = owner_given n t.txids i id
given n t (snap c m) e = observation_given (clock_of t) c m
given n t (own i id c m) e =
    then_given (owner_test n t.txids i id) (observation_test (clock_of t) c m) (owner_given n t.txids i id)
    (observation_given (clock_of t) c m)
given n t (oldest c m) e = observation_given (clock_of t) c m
given n t (vacuum c m) e = observation_given (clock_of t) c m
given n t (stamp k) e = reservation_given (clock_of t) k
given n t (finish i id k) e =
    then_given (owner_test n t.txids i id) (reservation_test (clock_of t) k) (owner_given n t.txids i id)
    (reservation_given (clock_of t) k)
given n t (pin c m) e = absurd (true≢false e)
given n t (unpin k) e = absurd (true≢false e)

-- neither 13 nor any of 4 to 8
pub foreseen_otherwise :
    (n : ℕ) (t : Table) (c : Call) → pinning c ≡ false →
    (4 ≤ (tells (refusal n t c)).number → (tells (refusal n t c)).number ≤ 8 → ⊥) →
    (tells (refusal n t c)).number ≢ 13 → Foreseen (refusal n t c)
foreseen_otherwise n t c e not-4-to-8 not-13 = go (given n t c e)
  where
    go : Given (refusal n t c) → Foreseen (refusal n t c)
    go (inl h) = small (dec_le 4 (tells (refusal n t c)).number)
      where
        small : Dec (4 ≤ (tells (refusal n t c)).number) → Foreseen (refusal n t c)
        small (yes l) = absurd (not-4-to-8 l h)
        small (no l) = omega arith
    go (inr e) = absurd (not-13 e)
