-- What a refused call leaves: the table as it was, or, where a begin met a full table, the clock past its number.
use Prim.Native.Nat.{ℕ, ◌+◌, ◌≤◌}
use mathlib.Core.Path.{◌≡◌, refl, sym, ap, ◌∙◌}
use mathlib.Core.Bool.{Bool, true, false, cond, ◌||◌, false≢true}
use mathlib.Core.List.{List, []}
use lib.Dec.{ltb, leb, eqb}
use lib.ListN.{get_or}
use borrow.Author.Tests.{leb-true}
use Rattle.kinds.specs.declared.Stamp.{Stamp}
use Rattle.kinds.specs.declared.SlotNo.{SlotNo}
use Rattle.kinds.specs.declared.Txid.{Txid}
use Rattle.kinds.specs.declared.PinNo.{PinNo}
use Rattle.kinds.specs.declared.refusal.Refusal.{Refusal}
use Rattle.kinds.specs.declared.refusal.Refusal.TheVariants.{NoFreeSlot}
use Rattle.kinds.specs.Verdicts.{Verdict, Pass, Refuse, then, zero_test}
use Rattle.kinds.specs.Kinds.{top, pin_count, txid_of}
use Rattle.kinds.specs.Refusals.{consumed}
use Rattle.kinds.proofs.Verdicts.{refuse_not_pass, same_refusal}
use Rattle.model.specs.declared.Table.{Table}
use Rattle.model.specs.Tables.{clock_of}
use Rattle.model.specs.Tally.{lowest_empty}
use Rattle.model.specs.Tests.{slot_test, holder_test, owner_test, farthest, reservation_test, full_test, observation_test}
use Rattle.model.specs.Tests.{pin_test, release_test}
use Rattle.model.specs.Calls.{Call, begin, end, snap, own, oldest, vacuum, stamp, finish, pin, unpin, refusal, spent}
use Rattle.model.specs.Accepted.{Reserves}
use Rattle.model.specs.Deeds.{opens}
use Rattle.model.proofs.Tests.{reserves}

-- a refused call consumes nothing; or it is a begin on a full table, which consumes its number
pub data Declined (n : ℕ) (t : Table) (c : Call) (r : Refusal) : Type 0 where
  stays : consumed r ≡ [] → Declined n t c r
  spends :
      (number : Stamp) → c ≡ begin number → r ≡ NoFreeSlot (txid_of number) → Reserves (clock_of t) number.0 →
      n ≤ lowest_empty t.txids → Declined n t c r

-- what a verdict consumes
abbrev uses : Verdict → List ℕ
uses Pass = []
uses (Refuse r) = consumed r

then_uses : (v w : Verdict) → uses v ≡ [] → uses w ≡ [] → uses (then v w) ≡ []
then_uses Pass w p q = q
then_uses (Refuse r) w p q = p

cond_uses : (b : Bool) (v w : Verdict) → uses v ≡ [] → uses w ≡ [] → uses (cond b v w) ≡ []
cond_uses true v w p q = p
cond_uses false v w p q = q

-- no test but the last of begin's consumes a number
owner_uses : (n : ℕ) (txids : List ℕ) (slot : SlotNo) (id : Txid) → uses (owner_test n txids slot id) ≡ []
unfolding consumed
owner_uses n txids slot id =
    then_uses (slot_test n slot) _ (cond_uses (leb n slot.0) _ _ refl refl)
    (then_uses (zero_test id) (holder_test txids slot id) (cond_uses (eqb id.0 0) _ _ refl refl)
    (cond_uses (eqb (get_or txids slot.0 0) id.0) _ _ refl refl))

reservation_uses : (clock : ℕ) (number : Stamp) → uses (reservation_test clock number) ≡ []
unfolding consumed
reservation_uses clock number =
    cond_uses (leb top clock) _ _ refl
    (cond_uses (eqb number.0 0 || (ltb number.0 clock || leb top number.0)) _ _ refl
    (cond_uses (ltb (clock + farthest) number.0) _ _ refl refl))

observation_uses : (former clock sample : ℕ) → uses (observation_test former clock sample) ≡ []
unfolding consumed
observation_uses former clock sample =
    cond_uses (ltb clock former) _ _ refl (cond_uses (eqb sample 0 || ltb clock sample) _ _ refl refl)

pin_uses : (pins : List ℕ) → uses (pin_test pins) ≡ []
unfolding consumed
pin_uses pins = cond_uses (leb pin_count (lowest_empty pins)) _ _ refl refl

release_uses : (pins : List ℕ) (k : PinNo) → uses (release_test pins k) ≡ []
unfolding consumed
release_uses pins k =
    cond_uses (leb pin_count k.0) _ _ refl (cond_uses (eqb (get_or pins k.0 0) 0) _ _ refl refl)

begin_declined :
    (n : ℕ) (t : Table) (number : Stamp) (r : Refusal) →
    then (reservation_test (clock_of t) number) (full_test n t.txids number) ≡ Refuse r → Declined n t (begin number) r
begin_declined n t number r e = first (reservation_test (clock_of t) number) refl e
  where
    second :
        reservation_test (clock_of t) number ≡ Pass → (b : Bool) → leb n (lowest_empty t.txids) ≡ b →
        cond b (Refuse (NoFreeSlot (txid_of number))) Pass ≡ Refuse r → Declined n t (begin number) r
    second p true q h =
        spends number refl (sym (same_refusal _ r h)) (reserves (clock_of t) number p) (leb-true n (lowest_empty t.txids) q)
    second p false q h = absurd (refuse_not_pass r (sym h))

    first :
        (v : Verdict) → reservation_test (clock_of t) number ≡ v → then v (full_test n t.txids number) ≡ Refuse r →
        Declined n t (begin number) r
    first Pass p h = second p (leb n (lowest_empty t.txids)) refl h
    first (Refuse s) p h = stays (sym (ap uses h) ∙ sym (ap uses p) ∙ reservation_uses (clock_of t) number)

pub declined : (n : ℕ) (t : Table) (c : Call) (r : Refusal) → refusal n t c ≡ Refuse r → Declined n t c r
unfolding refusal
declined n t (begin number) r e = begin_declined n t number r e
declined n t (end slot id) r e = stays (sym (ap uses e) ∙ owner_uses n t.txids slot id)
declined n t (snap clock sample) r e = stays (sym (ap uses e) ∙ observation_uses (clock_of t) clock sample)
declined n t (own slot id clock sample) r e =
    stays
    (sym (ap uses e)
    ∙ then_uses (owner_test n t.txids slot id) (observation_test (clock_of t) clock sample)
    (owner_uses n t.txids slot id) (observation_uses (clock_of t) clock sample))
declined n t (oldest clock sample) r e = stays (sym (ap uses e) ∙ observation_uses (clock_of t) clock sample)
declined n t (vacuum clock sample) r e = stays (sym (ap uses e) ∙ observation_uses (clock_of t) clock sample)
declined n t (stamp number) r e = stays (sym (ap uses e) ∙ reservation_uses (clock_of t) number)
declined n t (finish slot id number) r e =
    stays
    (sym (ap uses e)
    ∙ then_uses (owner_test n t.txids slot id) (reservation_test (clock_of t) number)
    (owner_uses n t.txids slot id) (reservation_uses (clock_of t) number))
declined n t (pin clock sample) r e =
    stays
    (sym (ap uses e)
    ∙ then_uses (observation_test (clock_of t) clock sample) (pin_test t.pins)
    (observation_uses (clock_of t) clock sample) (pin_uses t.pins))
declined n t (unpin k) r e = stays (sym (ap uses e) ∙ release_uses t.pins k)

-- every refusal but a begin's leaves the counters
pub refused_kept :
    (n : ℕ) (t : Table) (c : Call) (r : Refusal) → opens c ≡ false → refusal n t c ≡ Refuse r →
    spent (consumed r) t.counters ≡ t.counters
unfolding spent
refused_kept n t c r b e = go (declined n t c r e)
  where
    go : Declined n t c r → spent (consumed r) t.counters ≡ t.counters
    go (stays h) = rw h
    go (spends number q _ _ _) = absurd (false≢true (sym b ∙ ap opens q))
