-- Who holds a slot, over one call: it is entered by a begin, and left by an end or a finish of its own.
use Prim.Native.Nat.{ℕ}
use mathlib.Core.Path.{◌≡◌, refl, sym, ◌∙◌, ap}
use mathlib.Core.Logic.{◌≢◌}
use mathlib.Core.Bool.{false}
use lib.ListN.{set, get_or}
use lib.Seq.{get_or-set_other}
use Rattle.kinds.specs.declared.Stamp.{Stamp}
use Rattle.kinds.specs.declared.SlotNo.{SlotNo}
use Rattle.kinds.specs.declared.Txid.{Txid}
use Rattle.kinds.specs.Verdicts.{Verdict, Pass}
use Rattle.kinds.proofs.Verdicts.{refuse_not_pass}
use Rattle.model.specs.declared.Table.{Table}
use Rattle.model.specs.Tally.{lowest_empty}
use Rattle.model.specs.Tables.{txid_at}
use Rattle.model.specs.Changes.{applied}
use Rattle.model.specs.Calls.{Call, begin, refusal, after}
use Rattle.model.specs.Deeds.{end_of}
use Rattle.model.specs.Accepted.{Registered}
use Rattle.model.specs.History.{Accepts}
use Rattle.model.proofs.Places.{Stored, new_here, as_before, stored, inside_of_ne}
use Rattle.model.proofs.Tally.{lowest_empty_lem}
use Rattle.model.proofs.Accepted.{accepted_acceptable}
use Rattle.model.proofs.Transactions.{registered_taken, same_txids, other_slot, slots_differ}
use Rattle.model.proofs.Calls.{after_accepted, by_verdict}
use Rattle.model.proofs.Does.{Does, stands, enters, leaves, retakes, takes-pin, frees_the_pin, does}

-- who is registered after a call was so before it, and the call did not end it; or the call is its begin
pub data Was (t : Table) (slot : SlotNo) (id : Txid) (c : Call) (v : Verdict) : Type 0 where
  before_it : Registered t slot id → (v ≡ Pass → end_of slot id c ≡ false) → Was t slot id c v
  begun-by-it :
      (number : Stamp) → c ≡ begin number → v ≡ Pass → lowest_empty t.txids ≡ slot.0 → number.0 ≡ id.0 →
      Was t slot id c v

module _ (n : ℕ) (t : Table) (slot : SlotNo) (id : Txid) where
  was-accepted : (c : Call) → Does n t c → Registered (after_accepted t c) slot id → Was t slot id c Pass
  was-accepted c (stands d e) r = before_it (same_txids _ t slot id (rw e) r) (λ p. rw d)
  was-accepted c (enters number p e h k f) r = go (stored 0 t.txids (lowest_empty t.txids) number.0 slot.0)
    where
      held : get_or (set t.txids (lowest_empty t.txids) number.0) slot.0 0 ≡ id.0
      held = rw e at r.holds

      go : Stored 0 t.txids (lowest_empty t.txids) number.0 slot.0 → Was t slot id c Pass
      go (new_here a l q) = begun-by-it number p refl (sym a) (sym q ∙ held)
      go (as_before d q) = before_it (record { not_zero = r.not_zero; holds = sym q ∙ held }) (λ z. rw p)
  -- who is registered after slot' was emptied was so before, in another slot
  was-accepted c (leaves slot' id' d e o) r = go (stored 0 t.txids slot'.0 0 slot.0)
    where
      held : get_or (set t.txids slot'.0 0) slot.0 0 ≡ id.0
      held = rw e at r.holds

      go : Stored 0 t.txids slot'.0 0 slot.0 → Was t slot id c Pass
      go (new_here p l q) = absurd (r.not_zero (sym held ∙ q))
      go (as_before h q) =
          let was : Registered t slot id = record { not_zero = r.not_zero; holds = sym q ∙ held } in
          let inside = inside_of_ne t.txids slot.0 (registered_taken t slot id was) in
          before_it was (λ p. rw d (other_slot slot id slot' id' (λ z. h (rw (← z) inside) z)))
  was-accepted c (retakes slot' id' clock sample p e h o) r = before_it (same_txids _ t slot id (rw e) r) (λ q. rw p)
  was-accepted c (takes-pin clock sample p e k o f) r = before_it (same_txids _ t slot id (rw e) r) (λ q. rw p)
  was-accepted c (frees_the_pin k p e h) r = before_it (same_txids _ t slot id (rw e) r) (λ q. rw p)

  pub was : (c : Call) → Registered (after n t c) slot id → Was t slot id c (refusal n t c)
  unfolding after
  was c =
      by_verdict n t c (λ v d. Registered (applied t d) slot id → Was t slot id c v)
      (λ e. was-accepted c (does n t c (accepted_acceptable n t c e)))
      (λ r f h. before_it (same_txids _ t slot id refl h) (λ p. absurd (refuse_not_pass r p)))

-- who is registered before a call that does not end it is so after it
module _ (n : ℕ) (t : Table) (slot : SlotNo) (id : Txid) (r : Registered t slot id) where
  still : (i txid : ℕ) → slot.0 ≢ i → get_or (set t.txids i txid) slot.0 0 ≡ id.0
  still i txid d = get_or-set_other t.txids i slot.0 txid 0 d ∙ r.holds

  stays-accepted : (c : Call) → Does n t c → end_of slot id c ≡ false → Registered (after_accepted t c) slot id
  stays-accepted c (stands d e) h = same_txids t _ slot id (rw e) r
  stays-accepted c (enters number p e k l f) h =
      record { not_zero = r.not_zero; holds = rw e (still (lowest_empty t.txids) number.0 other) }
    where
      other : slot.0 ≢ lowest_empty t.txids
      other q = registered_taken t slot id r (ap (λ (i : ℕ). txid_at t i) q ∙ lowest_empty_lem t.txids)
  stays-accepted c (leaves slot' id' d e o) h =
      let apart = slots_differ slot id slot' id' t r o.registered (rw d at h) in
      record { not_zero = r.not_zero; holds = rw e (still slot'.0 0 apart) }
  stays-accepted c (retakes slot' id' clock sample p e k o) h = same_txids t _ slot id (rw e) r
  stays-accepted c (takes-pin clock sample p e k o f) h = same_txids t _ slot id (rw e) r
  stays-accepted c (frees_the_pin k p e q) h = same_txids t _ slot id (rw e) r

  pub stays_after : (c : Call) → (Accepts n t c → end_of slot id c ≡ false) → Registered (after n t c) slot id
  unfolding after
  stays_after c f =
      by_verdict n t c (λ v d. (v ≡ Pass → end_of slot id c ≡ false) → Registered (applied t d) slot id)
      (λ e h. stays-accepted c (does n t c (accepted_acceptable n t c e)) (h refl)) (λ x g h. same_txids t _ slot id refl r) f
