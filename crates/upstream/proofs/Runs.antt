-- How a call can go where its verdict is one that upstream foresees: accepted, or refused by 1, 2 or 3; and what its tests
-- then tell. A test none of whose refusals is foreseen passes.
use Prim.Native.Nat.{ℕ, ◌+◌, ◌<◌, ◌≤◌}
use mathlib.Core.Path.{◌≡◌, refl, sym, ◌∙◌}
use mathlib.Core.Logic.{◌≢◌}
use mathlib.Core.Bool.{Bool, true, false, cond, ◌||◌}
use mathlib.Core.List.{List}
use native.Mathlib.Omega.{arith}
use lib.Dec.{eqb, ltb, leb}
use borrow.Author.Tests.{leb-true, leb-false, eqb-false}
use Rattle.kinds.specs.declared.Stamp.{Stamp}
use Rattle.kinds.specs.declared.SlotNo.{SlotNo}
use Rattle.kinds.specs.declared.Txid.{Txid}
use Rattle.kinds.specs.declared.refusal.Refusal.{Refusal}
use Rattle.kinds.specs.declared.refusal.Refusal.TheVariants.{NoFreeSlot, InvalidSlot, SlotOwnershipMismatch}
use Rattle.kinds.specs.declared.refusal.Refusal.TheVariants.{ClockExhausted, BadReservation, WildJump, BadClock, BadSample}
use Rattle.kinds.specs.Kinds.{top, txid, txid_of}
use Rattle.kinds.specs.Refusals.{told}
use Rattle.kinds.specs.Verdicts.{Verdict, Pass, Refuse, then}
use Rattle.kinds.proofs.Verdicts.{refuse_not_pass}
use Rattle.model.specs.declared.Table.{Table}
use Rattle.model.specs.Tally.{lowest_empty}
use Rattle.model.specs.Tables.{txid_at, clock_of}
use Rattle.model.specs.Tests.{owner_test, farthest, reservation_test, full_test, observation_test}
use Rattle.model.specs.Changes.{applied}
use Rattle.model.specs.Calls.{Call, begin, refusal, change_by}
use Rattle.model.specs.Accepted.{Reserves, Acceptable}
use Rattle.model.proofs.Tests.{reserves}
use Rattle.model.proofs.Accepted.{accepted_acceptable}
use Rattle.upstream.specs.States.{State, state_of, history_by, Foreseen}

-- upstream's state after a call, by the call's verdict
abbrev pub state_by : Verdict → Table → List ℕ → Call → State
state_by v t history c = state_of (applied t (change_by v t c)) (history_by v history c)

abbrev Strict : Verdict → Type 0
Strict v = Foreseen v → v ≡ Pass

strict_cond : (b : Bool) (r : Refusal) (v : Verdict) → (Foreseen (Refuse r) → ⊥) → Strict v → Strict (cond b (Refuse r) v)
strict_cond true r v h s f = absurd (h f)
strict_cond false r v h s f = s f

pub reservation_strict : (clock : ℕ) (k : Stamp) → Strict (reservation_test clock k)
unfolding told
reservation_strict clock k =
    strict_cond (leb top clock) ClockExhausted _ (λ f. omega arith)
    (strict_cond (eqb k.0 0 || (ltb k.0 clock || leb top k.0)) BadReservation _ (λ f. omega arith)
    (strict_cond (ltb (clock + farthest) k.0) WildJump Pass (λ f. omega arith) (λ f. refl)))

pub observation_strict : (former clock sample : ℕ) → Strict (observation_test former clock sample)
unfolding told
observation_strict former clock sample =
    strict_cond (ltb clock former) BadClock _ (λ f. omega arith)
    (strict_cond (eqb sample 0 || ltb clock sample) BadSample Pass (λ f. omega arith) (λ f. refl))

-- a begin: its number may be reserved, and then a slot is empty or all are taken
pub data Beginning (n : ℕ) (t : Table) (k : Stamp) : Verdict → Type 0 where
  entered : Reserves (clock_of t) k.0 → lowest_empty t.txids < n → Beginning n t k Pass
  full : Reserves (clock_of t) k.0 → n ≤ lowest_empty t.txids → Beginning n t k (Refuse (NoFreeSlot (txid_of k)))

pub beginning : (n : ℕ) (t : Table) (k : Stamp) → Foreseen (refusal n t (begin k)) → Beginning n t k (refusal n t (begin k))
unfolding refusal
beginning n t k f = first (reservation_test (clock_of t) k) refl f
  where
    room : Reserves (clock_of t) k.0 → (b : Bool) → leb n (lowest_empty t.txids) ≡ b →
        Beginning n t k (cond b (Refuse (NoFreeSlot (txid_of k))) Pass)
    room r true e = full r (leb-true n (lowest_empty t.txids) e)
    room r false e = entered r (leb-false n (lowest_empty t.txids) e)

    first :
        (v : Verdict) → reservation_test (clock_of t) k ≡ v → Foreseen (then v (full_test n t.txids k)) →
        Beginning n t k (then v (full_test n t.txids k))
    first Pass e g = room (reserves (clock_of t) k e) (leb n (lowest_empty t.txids)) refl
    first (Refuse r) e g = absurd (refuse_not_pass r (sym e ∙ reservation_strict (clock_of t) k (rw e g)))

-- a call that names a registration: its slot is outside, or holds another txid or none; or the call is accepted
pub data Owning (n : ℕ) (t : Table) (slot : SlotNo) (id : Txid) (c : Call) : Verdict → Type 0 where
  outside : n ≤ slot.0 → Owning n t slot id c (Refuse (InvalidSlot slot))
  other :
      slot.0 < n → txid_at t slot.0 ≢ id.0 →
      Owning n t slot id c (Refuse (SlotOwnershipMismatch slot id (txid (txid_at t slot.0))))
  owned : Acceptable n t c → Owning n t slot id c Pass

pub owning :
    (n : ℕ) (t : Table) (slot : SlotNo) (id : Txid) (c : Call) (second : Verdict) → Strict second →
    refusal n t c ≡ then (owner_test n t.txids slot id) second → Foreseen (refusal n t c) →
    Owning n t slot id c (refusal n t c)
unfolding told
owning n t slot id c second strict order f =
    go (leb n slot.0) refl (eqb id.0 0) refl (eqb (txid_at t slot.0) id.0) refl
  where
    go :
        (a : Bool) → leb n slot.0 ≡ a → (b : Bool) → eqb id.0 0 ≡ b → (o : Bool) →
        eqb (txid_at t slot.0) id.0 ≡ o → Owning n t slot id c (refusal n t c)
    go true p b q o r = rw (order, p) (outside (leb-true n slot.0 p))
    go false p true q o r = absurd (omega (arith, rw (order, p, q) at f))
    go false p false q true r =
        let e : refusal n t c ≡ Pass = order ∙ rw (p, q, r) (strict (rw (order, p, q, r) at f)) in
        rw e (owned (accepted_acceptable n t c e))
    go false p false q false r = rw (order, p, q, r) (other (leb-false n slot.0 p) (eqb-false _ _ r))
