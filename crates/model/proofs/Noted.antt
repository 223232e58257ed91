-- What one call does to the last transaction snapshot of (slot, id): takes its place, forgets it, or leaves it.
use Prim.Native.Nat.{ℕ, ◌≤◌, max}
use mathlib.Core.Path.{◌≡◌, refl, sym, ◌∙◌}
use mathlib.Core.Logic.{◌≢◌}
use mathlib.Core.Bool.{Bool, true, false}
use mathlib.Core.List.{List}
use mathlib.Core.Option.{Option, none, some}
use native.Mathlib.Omega.{arith}
use lib.Dec.{eqb}
use lib.ListN.{set, get_or}
use lib.Seq.{get_or-set_other}
use borrow.Author.Tests.{eqb-true, eqb-false}
use Rattle.kinds.specs.declared.SlotNo.{SlotNo}
use Rattle.kinds.specs.declared.Txid.{Txid}
use Rattle.kinds.specs.declared.refusal.Refusal.{Refusal}
use Rattle.kinds.specs.Verdicts.{Verdict, Pass}
use Rattle.kinds.specs.Refusals.{consumed}
use Rattle.kinds.proofs.Verdicts.{refuse_not_pass}
use Rattle.settled.specs.declared.Snapshot.{Snapshot}
use Rattle.model.specs.declared.Counters.{Counters}
use Rattle.model.specs.declared.Table.{Table}
use Rattle.model.specs.Tally.{lowest_empty}
use Rattle.model.specs.Tables.{txid_at, xmin_at, line_of, lent}
use Rattle.model.specs.Changes.{applied}
use Rattle.model.specs.Calls.{Call, own, refusal, change_accepted, spent, after, shown}
use Rattle.model.specs.Deeds.{same_transaction, own_of}
use Rattle.model.specs.Accepted.{Registered}
use Rattle.model.specs.Facts.{Good}
use Rattle.model.specs.History.{noted_by}
use Rattle.model.proofs.Places.{Stored, new_here, as_before, stored, StoredBoth, both-new, both-before, stored_both}
use Rattle.model.proofs.Tally.{lowest_empty_lem}
use Rattle.model.proofs.Accepted.{accepted_acceptable}
use Rattle.model.proofs.Transactions.{registered_taken, same_txids, same_both, slots_differ}
use Rattle.model.proofs.Refused.{Declined, stays, spends}
use Rattle.model.proofs.Calls.{after_accepted, change_refused, by_verdict}
use Rattle.model.proofs.Does.{Does, stands, enters, leaves, retakes, takes-pin, frees_the_pin, does}
use Rattle.model.proofs.Does.{LineMoves, line_stays, line_raised, counts_on}
use Rattle.model.proofs.Moves.{equally_long}
use Rattle.model.proofs.Facts.{oldest-taken}

-- what a call that neither begins in the slot nor takes (slot, id)'s snapshot leaves: who is registered after it was so
-- before it, with the same snapshot_xmin, and the line rose to that at most
pub record Left (n : ℕ) (t : Table) (slot : SlotNo) (id : Txid) (u : Table) : Type 0 where
  pub was : Registered u slot id → Registered t slot id
  pub same_xmin : Good n t → Registered u slot id → xmin_at u slot.0 ≡ xmin_at t slot.0
  pub line_below : Good n t → Registered u slot id → line_of u ≤ max (line_of t) (xmin_at t slot.0)

pub data Noted
    (n : ℕ) (t : Table) (slot : SlotNo) (id : Txid) (c : Call) (last : Option Snapshot) (v : Verdict) (u : Table)
    : Type 0 where
  now-taken :
      (clock sample : ℕ) → c ≡ own slot id clock sample → v ≡ Pass → u ≡ after_accepted t c →
      noted_by v n slot id t c last ≡ some (shown n t c) → Noted n t slot id c last v u
  now_forgotten : txid_at t slot.0 ≡ 0 → noted_by v n slot id t c last ≡ none → Noted n t slot id c last v u
  not-moved :
      noted_by v n slot id t c last ≡ last → (v ≡ Pass → own_of slot id c ≡ false) → Left n t slot id u →
      Noted n t slot id c last v u

module _ (n : ℕ) (t : Table) (slot : SlotNo) (id : Txid) where
  -- columns and counters after a call leave it, where they do so apart; an oldest xmin is at most the slot's
  left :
      (txids xmins pins : List ℕ) (k : Counters) → LineMoves t k → (get_or txids slot.0 0 ≡ id.0 → id.0 ≢ 0 → txid_at t slot.0 ≡ id.0) →
      (Good n t → Registered (lent txids xmins pins k) slot id → get_or xmins slot.0 0 ≡ xmin_at t slot.0) →
      Left n t slot id (lent txids xmins pins k)
  left txids xmins pins k l held xmin = record { was = before; same_xmin = xmin; line_below = λ g r. line g (before r) l }
    where
      before : Registered (lent txids xmins pins k) slot id → Registered t slot id
      before r = record { not_zero = r.not_zero; holds = held r.holds r.not_zero }

      line : Good n t → Registered t slot id → LineMoves t k → k.vacuum_line ≤ max (line_of t) (xmin_at t slot.0)
      line g r (line_stays e) = omega arith
      line g r (line_raised sample a b e) = omega (arith, oldest-taken n t sample slot.0 g (registered_taken t slot id r))

  -- no slot moves
  left-same : (pins : List ℕ) (k : Counters) → LineMoves t k → Left n t slot id (lent t.txids t.snapshot_xmins pins k)
  left-same pins k l = left t.txids t.snapshot_xmins pins k l (λ e z. e) (λ g r. refl)

  -- another slot becomes (txid, xmin)
  left_other :
      (i txid xmin : ℕ) (k : Counters) → LineMoves t k → slot.0 ≢ i →
      Left n t slot id (lent (set t.txids i txid) (set t.snapshot_xmins i xmin) t.pins k)
  left_other i txid xmin k l d =
      left (set t.txids i txid) (set t.snapshot_xmins i xmin) t.pins k l
      (λ e z. sym (get_or-set_other t.txids i slot.0 txid 0 d) ∙ e)
      (λ g r. get_or-set_other t.snapshot_xmins i slot.0 xmin 0 d)

  -- some slot is emptied
  left-emptied :
      (i : ℕ) (k : Counters) → LineMoves t k →
      Left n t slot id (lent (set t.txids i 0) (set t.snapshot_xmins i 0) t.pins k)
  left-emptied i k l =
      left (set t.txids i 0) (set t.snapshot_xmins i 0) t.pins k l (λ e z. before e z (stored 0 t.txids i 0 slot.0))
      (λ g r. xmin r (stored_both t.txids t.snapshot_xmins i 0 0 slot.0 (equally_long n t g)))
    where
      before : get_or (set t.txids i 0) slot.0 0 ≡ id.0 → id.0 ≢ 0 → Stored 0 t.txids i 0 slot.0 →
          txid_at t slot.0 ≡ id.0
      before e z (new_here p h q) = absurd (z (sym e ∙ q))
      before e z (as_before d q) = sym q ∙ e

      xmin :
          Registered (lent (set t.txids i 0) (set t.snapshot_xmins i 0) t.pins k) slot id →
          StoredBoth t.txids t.snapshot_xmins i 0 0 slot.0 →
          get_or (set t.snapshot_xmins i 0) slot.0 0 ≡ xmin_at t slot.0
      xmin r (both-new p h q w) = absurd (r.not_zero (sym r.holds ∙ q))
      xmin r (both-before d q w) = w

  noted-accepted :
      (c : Call) (last : Option Snapshot) → LineMoves t (change_accepted t c).counters → Does n t c →
      Noted n t slot id c last Pass (after_accepted t c)
  noted-accepted c last l (stands d e) = rw e (not-moved (rw d) (λ q. rw d) (left-same t.pins _ l))
  noted-accepted c last l (enters number p e r k f) = go (eqb entered slot.0) refl
    where
      entered : ℕ
      entered = lowest_empty t.txids

      go : (b : Bool) → eqb entered slot.0 ≡ b → Noted n t slot id c last Pass (after_accepted t c)
      go true q = now_forgotten (rw (← eqb-true entered slot.0 q) (lowest_empty_lem t.txids)) (rw (p, q))
      go false q =
          rw e
          (not-moved (rw (p, q)) (λ z. rw p)
          (left_other entered number.0 number.0 _ l (λ z. eqb-false entered slot.0 q (sym z))))
  noted-accepted c last l (leaves slot' id' d e o) = rw e (not-moved (rw d) (λ q. rw d) (left-emptied slot'.0 _ l))
  noted-accepted c last l (retakes slot' id' clock sample p e h o) = go (same_transaction slot id slot' id') refl
    where
      go : (b : Bool) → same_transaction slot id slot' id' ≡ b → Noted n t slot id c last Pass (after_accepted t c)
      go true q =
          let (a, b) = same_both slot id slot' id' q in
          now-taken clock sample (p ∙ rw (a, b)) refl refl (rw (p, q))
      go false q =
          rw e
          (not-moved (rw (p, q)) (λ z. rw p q)
          (left t.txids (set t.snapshot_xmins slot'.0 _) t.pins _ l (λ a z. a)
          (λ g r.
          get_or-set_other t.snapshot_xmins slot'.0 slot.0 _ 0
          (slots_differ slot id slot' id' t (same_txids _ t slot id refl r) o.registered q))))
  noted-accepted c last l (takes-pin clock sample p e k o f) = rw e (not-moved (rw p) (λ q. rw p) (left-same _ _ l))
  noted-accepted c last l (frees_the_pin k p e h) = rw e (not-moved (rw p) (λ q. rw p) (left-same _ _ l))

  pub noted : (c : Call) (last : Option Snapshot) → Noted n t slot id c last (refusal n t c) (after n t c)
  unfolding consumed spent after
  noted c last =
      by_verdict n t c (λ v d. Noted n t slot id c last v (applied t d))
      (λ e. let p = accepted_acceptable n t c e in noted-accepted c last (counts_on n t c p).line (does n t c p))
      (λ r f. not-moved refl (λ p. absurd (refuse_not_pass r p)) (refused r f))
    where
      refused : (r : Refusal) → Declined n t c r → Left n t slot id (applied t (change_refused t r))
      refused r (stays p) = rw p (left-same t.pins _ (line_stays refl))
      refused r (spends number p q h f) = rw q (left-same t.pins _ (line_stays refl))
