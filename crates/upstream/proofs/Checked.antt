-- L.checked_slot: our slot test meets upstream's contract, and says which error it is, which upstream leaves open.
use Prim.Native.Nat.{ℕ}
use mathlib.Core.Path.{◌≡◌, refl, sym}
use mathlib.Core.Bool.{Bool, true, false, cond}
use lib.Dec.{leb}
use borrow.Author.Tests.{leb-true, leb-false}
use Rattle.kinds.specs.declared.SlotNo.{SlotNo}
use Rattle.kinds.specs.declared.refusal.Refusal.{Refusal}
use Rattle.kinds.specs.declared.refusal.Refusal.TheVariants.{InvalidSlot}
use Rattle.kinds.specs.Verdicts.{Pass, Refuse}
use Rattle.kinds.proofs.Verdicts.{refuse_not_pass, same_refusal}
use Rattle.model.specs.Tests.{slot_test}
use Rattle.upstream.specs.Clauses.{CheckedSlot}

-- a slot outside may be answered by any error x
pub wrong_kind : (n : ℕ) (slot : SlotNo) (x : Refusal) → CheckedSlot n slot (cond (leb n slot.0) (Refuse x) Pass)
wrong_kind n slot x = go (leb n slot.0) refl
  where
    go : (b : Bool) → leb n slot.0 ≡ b → CheckedSlot n slot (cond b (Refuse x) Pass)
    go true e =
        record {
          l_checked_slot_e1 = λ p. absurd (refuse_not_pass x p);
          l_checked_slot_e2 = λ r p. leb-true n slot.0 e;
        }
    go false e =
        record {
          l_checked_slot_e1 = λ p. leb-false n slot.0 e;
          l_checked_slot_e2 = λ r p. absurd (refuse_not_pass r (sym p));
        }

pub checked-slot_meets : (n : ℕ) (slot : SlotNo) → CheckedSlot n slot (slot_test n slot)
checked-slot_meets n slot = wrong_kind n slot (InvalidSlot slot)

-- ours is InvalidSlot with that slot
pub checked-slot_kind : (n : ℕ) (slot : SlotNo) (r : Refusal) → slot_test n slot ≡ Refuse r → r ≡ InvalidSlot slot
checked-slot_kind n slot r e = go (leb n slot.0) e
  where
    go : (b : Bool) → cond b (Refuse (InvalidSlot slot)) Pass ≡ Refuse r → r ≡ InvalidSlot slot
    go true p = same_refusal r (InvalidSlot slot) (sym p)
    go false p = absurd (refuse_not_pass r (sym p))
