-- A transaction's own id is in flight in every snapshot that it takes: it is listed there, so it is not settled, and the
-- transaction may use what it made only because usable is wider. On any table, and so in every history from fresh.
use Prim.Native.Nat.{ℕ, ◌≤◌}
use mathlib.Core.Path.{◌≡◌, refl, sym, ◌∙◌}
use mathlib.Core.List.{List}
use mathlib.Core.Bool.{true, false, and-false, or-true}
use native.Mathlib.Omega.{arith}
use lib.Dec.{ltb}
use lib.ListN.{length, take}
use borrow.Author.Tests.{eq-eqb, ne_eqb, le-ltb}
use Rattle.kinds.specs.declared.SlotNo.{SlotNo}
use Rattle.kinds.specs.declared.Txid.{Txid}
use Rattle.settled.specs.declared.Snapshot.{Snapshot}
use Rattle.settled.specs.Settled.{No, settled_in, paper_settled, settled_test}
use Rattle.usable.specs.Usable.{Yes, usable_in, paper_usable, usable_test}
use Rattle.listed.specs.Listed.{listed}
use Rattle.usable.proofs.Wider.{own_is_usable}
use Rattle.model.specs.declared.Table.{Table}
use Rattle.model.specs.Tally.{active, snapshot_of}
use Rattle.model.specs.Calls.{Call, own, shown, shown_accepted}
use Rattle.model.specs.Accepted.{Owns, Registered}
use Rattle.model.specs.History.{reached, Accepts}
use Rattle.model.proofs.Tally.{taken-active, active-length, used_places}
use Rattle.model.proofs.Accepted.{accepted_acceptable}
use Rattle.model.proofs.Facts.{good-reached}

module _ (n : ℕ) (t : Table) (slot : SlotNo) (id : Txid) (clock sample : ℕ) where
  -- the snapshot that the transaction takes
  abbrev taken : Snapshot
  taken = shown n t (own slot id clock sample)

  module _ (a : Accepts n t (own slot id clock sample)) where
    owner : Owns n t slot id
    owner = (accepted_acceptable n t (own slot id clock sample) a).0

    is_taken : taken ≡ snapshot_of n t.txids sample
    unfolding shown shown_accepted
    is_taken = rw a

    in_flight : listed id.0 (active t.txids) ≡ true
    in_flight =
        rw owner.registered.holds
        at (taken-active t.txids slot.0 (λ z. owner.registered.not_zero (sym owner.registered.holds ∙ z)))

    pub own-listed : listed id.0 (take taken.count taken.ids) ≡ true
    unfolding snapshot_of
    own-listed = rw (is_taken, used_places n (active t.txids)) in_flight

    pub own_not_settled : settled_in taken.xmax taken.ids taken.count id.0 ≡ false
    own_not_settled = rw own-listed (and-false (ltb id.0 taken.xmax))

    pub own_usable : usable_in taken.xmax taken.ids taken.count id.0 id.0 ≡ true
    own_usable = rw (eq-eqb id.0 id.0 refl) (or-true (settled_in taken.xmax taken.ids taken.count id.0))

    -- as the two tests answer it, on a table of n slots
    count_fits : length t.txids ≡ n → taken.count ≤ n
    unfolding snapshot_of
    count_fits l = rw is_taken (let h = active-length t.txids in omega (arith, h, l))

    pub own_answers :
        length t.txids ≡ n →
        (settled_test n taken.xmax taken.ids taken.count id ≡ paper_settled No) ×
        (usable_test n taken.xmax taken.ids taken.count id id ≡ paper_usable Yes)
    unfolding settled_test
    own_answers l =
        let z = owner.registered.not_zero in (
          rw (le-ltb n taken.count (count_fits l), ne_eqb id.0 0 z, own_not_settled),
          own_is_usable n taken.xmax taken.ids taken.count id id (count_fits l) z refl,
        )

-- from fresh, whatever was called before: a transaction that takes a snapshot is registered, its own id is listed there, and
-- the two tests answer no and yes
pub record OwnInFlight (n : ℕ) (cs : List Call) (slot : SlotNo) (id : Txid) (s : Snapshot) : Type 0 where
  pub registered : Registered (reached n cs) slot id
  pub is_listed : listed id.0 (take s.count s.ids) ≡ true
  pub not_settled : settled_test n s.xmax s.ids s.count id ≡ paper_settled No
  pub usable : usable_test n s.xmax s.ids s.count id id ≡ paper_usable Yes

pub own_in_flight :
    (n : ℕ) (cs : List Call) (slot : SlotNo) (id : Txid) (clock sample : ℕ) →
    Accepts n (reached n cs) (own slot id clock sample) →
    OwnInFlight n cs slot id (shown n (reached n cs) (own slot id clock sample))
own_in_flight n cs slot id clock sample a =
    let t = reached n cs in
    let answers = own_answers n t slot id clock sample a (good-reached n cs).txid_column in
    record {
      registered = (owner n t slot id clock sample a).registered;
      is_listed = own-listed n t slot id clock sample a;
      not_settled = answers.0;
      usable = answers.1;
    }
