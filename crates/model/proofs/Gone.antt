-- After an accepted end or finish on a table that passes the check, no slot holds that txid.
use Prim.Native.Nat.{ℕ}
use mathlib.Core.Path.{◌≡◌, sym, ◌∙◌}
use mathlib.Core.Logic.{◌≢◌}
use mathlib.Core.Bool.{true}
use lib.ListN.{get_or, set}
use Rattle.kinds.specs.declared.Stamp.{Stamp}
use Rattle.kinds.specs.declared.SlotNo.{SlotNo}
use Rattle.kinds.specs.declared.Txid.{Txid}
use Rattle.model.specs.declared.Table.{Table}
use Rattle.model.specs.Tables.{txid_at}
use Rattle.model.specs.Calls.{end, finish, change_accepted, after}
use Rattle.model.specs.Accepted.{Owns}
use Rattle.model.specs.Check.{table_passes}
use Rattle.model.specs.Facts.{Good}
use Rattle.model.specs.History.{Accepts}
use Rattle.model.proofs.Places.{Stored, new_here, as_before, stored}
use Rattle.model.proofs.Accepted.{accepted_acceptable}
use Rattle.model.proofs.Calls.{after-accepted}
use Rattle.model.proofs.Check.{passes-good}

pub emptied_gone :
    (n : ℕ) (t : Table) (slot : SlotNo) (id : Txid) → Good n t → Owns n t slot id → (i : ℕ) →
    get_or (set t.txids slot.0 0) i 0 ≢ id.0
emptied_gone n t slot id g o i e = go (stored 0 t.txids slot.0 0 i)
  where
    go : Stored 0 t.txids slot.0 0 i → ⊥
    go (new_here p l q) = o.registered.not_zero (sym e ∙ q)
    go (as_before d q) =
        d (rw g.txid_column o.inside)
        (g.differ i slot.0 (λ z. o.registered.not_zero (sym e ∙ q ∙ z)) (sym q ∙ e ∙ sym o.registered.holds))

pub end_gone :
    (n : ℕ) (t : Table) (slot : SlotNo) (id : Txid) → table_passes n t ≡ true → Accepts n t (end slot id) → (i : ℕ) →
    txid_at (after n t (end slot id)) i ≢ id.0
unfolding change_accepted
end_gone n t slot id p a i =
    rw (after-accepted, a) (emptied_gone n t slot id (passes-good n t p) (accepted_acceptable n t (end slot id) a) i)

pub finish_gone :
    (n : ℕ) (t : Table) (slot : SlotNo) (id : Txid) (number : Stamp) → table_passes n t ≡ true →
    Accepts n t (finish slot id number) → (i : ℕ) → txid_at (after n t (finish slot id number)) i ≢ id.0
unfolding change_accepted
finish_gone n t slot id number p a i =
    rw (after-accepted, a) (emptied_gone n t slot id (passes-good n t p) (accepted_acceptable n t (finish slot id number) a).0 i)
