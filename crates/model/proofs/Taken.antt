-- Every txid that a slot holds is among the numbers reserved from fresh.
use Prim.Native.Nat.{ℕ}
use mathlib.Core.Path.{◌≡◌, refl}
use mathlib.Core.Logic.{◌≢◌}
use mathlib.Core.Bool.{true}
use mathlib.Core.List.{List, ◌∷◌, ◌++◌}
use mathlib.Mathlib.Data.Bool.Basic.{or_inr}
use Rattle.kinds.specs.declared.Stamp.{Stamp}
use Rattle.kinds.specs.declared.SlotNo.{SlotNo}
use Rattle.kinds.specs.declared.Txid.{Txid}
use Rattle.kinds.specs.Kinds.{slot, txid}
use Rattle.listed.specs.Listed.{listed}
use Rattle.listed.proofs.Listed.{listed-head, listed-append}
use Rattle.model.specs.Tables.{fresh_table, txid_at}
use Rattle.model.specs.Calls.{Call, begin}
use Rattle.model.specs.History.{reached, Accepts, IsRegistered}
use Rattle.model.specs.Reservations.{reservations_from, reservations}
use Rattle.model.proofs.Registered.{answers_begun, registered_in_words}
use Rattle.model.proofs.Reservations.{reservations-append}

-- what an accepted begin of the history reserved is among its reservations
begin-listed :
    (n : ℕ) (before later : List Call) (number : Stamp) → Accepts n (reached n before) (begin number) →
    listed number.0 (reservations n (before ++ begin number ∷ later)) ≡ true
unfolding reservations_from
begin-listed n before later number a =
    rw (
      reservations-append n (fresh_table n) before (begin number ∷ later),
      a,
      listed-append number.0 (reservations n before) _,
    )
    (or_inr (listed number.0 (reservations n before)) _ (listed-head number.0 _))

-- so is the id of every registered transaction ..
pub registered_reserved :
    (n : ℕ) (cs : List Call) (slot : SlotNo) (id : Txid) → IsRegistered n (fresh_table n) slot id cs →
    listed id.0 (reservations n cs) ≡ true
registered_reserved n cs slot id w =
    let b = answers_begun n (reached n w.before) w.number slot id w.answers in
    rw (w.written, ← b.same) (begin-listed n w.before w.later w.number b.accepted)

-- .. and every txid that a slot holds
pub taken-reserved :
    (n : ℕ) (cs : List Call) (i : ℕ) → txid_at (reached n cs) i ≢ 0 →
    listed (txid_at (reached n cs) i) (reservations n cs) ≡ true
taken-reserved n cs i h =
    let id = txid (txid_at (reached n cs) i) in
    registered_reserved n cs (slot i) id ((registered_in_words n cs (slot i) id).0 (record { not_zero = h; holds = refl }))
