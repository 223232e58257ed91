-- Registered transactions, and when two are the same.
use Prim.Native.Nat.{ℕ}
use mathlib.Core.Path.{◌≡◌, refl, sym, ◌∙◌, ap}
use mathlib.Core.Logic.{◌≢◌}
use mathlib.Core.Bool.{true, false, true≢false, and-eq-true_iff}
use mathlib.Core.List.{List}
use lib.Dec.{eqb}
use lib.ListN.{get_or}
use borrow.Author.Tests.{eqb-true, eq-eqb, ne_eqb}
use Rattle.kinds.specs.declared.SlotNo.{SlotNo}
use Rattle.kinds.specs.declared.Txid.{Txid}
use Rattle.kinds.proofs.Unique.{same_slot, same_txid}
use Rattle.model.specs.declared.Table.{Table}
use Rattle.model.specs.Tables.{txid_at}
use Rattle.model.specs.Accepted.{Registered}
use Rattle.model.specs.Deeds.{same_transaction}

-- its slot is taken
pub registered_taken : (t : Table) (slot : SlotNo) (id : Txid) → Registered t slot id → txid_at t slot.0 ≢ 0
registered_taken t slot id r e = r.not_zero (sym r.holds ∙ e)

-- a table with the same txids has the same transactions
pub same_txids :
    (t u : Table) (slot : SlotNo) (id : Txid) → u.txids ≡ t.txids → Registered t slot id → Registered u slot id
same_txids t u slot id e r =
    record { not_zero = r.not_zero; holds = ap (λ (l : List ℕ). get_or l slot.0 0) e ∙ r.holds }

pub same_itself : (slot : SlotNo) (id : Txid) → same_transaction slot id slot id ≡ true
same_itself slot id = rw (eq-eqb slot.0 slot.0 refl, eq-eqb id.0 id.0 refl)

module _ (slot : SlotNo) (id : Txid) (slot' : SlotNo) (id' : Txid) where
  pub same_both : same_transaction slot id slot' id' ≡ true → (slot ≡ slot') × (id ≡ id')
  same_both e =
      let (a, b) = (and-eq-true_iff (eqb slot.0 slot'.0) (eqb id.0 id'.0)).0 e in
      (same_slot slot slot' (eqb-true _ _ a), same_txid id id' (eqb-true _ _ b))

  pub other_slot : slot.0 ≢ slot'.0 → same_transaction slot id slot' id' ≡ false
  other_slot d = rw (ne_eqb slot.0 slot'.0 d)

  -- two that are registered at once have a slot each
  pub slots_differ :
      (t : Table) → Registered t slot id → Registered t slot' id' → same_transaction slot id slot' id' ≡ false →
      slot.0 ≢ slot'.0
  slots_differ t r r' e q =
      let p : id.0 ≡ id'.0 = sym r.holds ∙ ap (λ (i : ℕ). txid_at t i) q ∙ r'.holds in
      true≢false (sym (rw (eq-eqb slot.0 slot'.0 q, eq-eqb id.0 id'.0 p)) ∙ e)
