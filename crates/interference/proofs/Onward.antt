-- What a valid wait of upstream's leaves: a history that goes on the former one, and the owner's slot as it was, so that the owner
-- is still live.
use Prim.Native.Nat.{ℕ}
use native.Mathlib.Nat.{le_refl, le_trans}
use native.Mathlib.Omega.{arith}
use mathlib.Core.Path.{◌≡◌, refl, sym, ap, ◌∙◌}
use mathlib.Core.Logic.{◌≢◌}
use mathlib.Core.List.{List, [], ◌∷◌}
use lib.ListN.{length, set, length-set, get_or-append}
use lib.Seq.{get_or-set_other}
use Rattle.kinds.specs.declared.SlotNo.{SlotNo}
use Rattle.kinds.specs.declared.Txid.{Txid}
use Rattle.upstream.specs.States.{Slot, State, slot, at, push, pushes}
use Rattle.upstream.proofs.Histories.{length_push}
use Rattle.wait_rules.specs.Owner.{Owner, Holds}
use Rattle.interference.specs.Interference.{LiveOwner, Extends, WaitEvent, Register, End, Horizon, Reserve, Observe}
use Rattle.interference.specs.Interference.{WaitStep, Allowed, Valid, none, also}

pub extends_itself : (ids : List ℕ) → Extends ids ids
extends_itself ids = record { longer = le_refl _; same = λ i h. refl }

extends_push : (ids : List ℕ) (id : ℕ) → Extends ids (push ids id)
extends_push ids id =
    record { longer = omega (arith, length_push ids id); same = λ i h. get_or-append ids (id ∷ []) 0 i h }

pub extends_on : (first second third : List ℕ) → Extends first second → Extends second third → Extends first third
extends_on first second third a b =
    record {
      longer = le_trans a.longer b.longer;
      same = λ i h. b.same i (le_trans h a.longer) ∙ a.same i h;
    }

pub extends_pushes : (ids more : List ℕ) → Extends ids (pushes ids more)
extends_pushes ids [] = extends_itself ids
extends_pushes ids (id ∷ more) = extends_on ids (push ids id) _ (extends_push ids id) (extends_pushes (push ids id) more)

extends_step : (a b : State) (e : WaitEvent) → WaitStep a b e → Extends a.reservations b.reservations
extends_step a b (Register i id) s = rw s.reservations (extends_push a.reservations id)
extends_step a b (End i) s = rw s.reservations (extends_itself a.reservations)
extends_step a b (Horizon i xmin) s = rw s.reservations (extends_itself a.reservations)
extends_step a b (Reserve id) s = rw s.reservations (extends_push a.reservations id)
extends_step a b Observe s = rw s.reservations (extends_itself a.reservations)

pub extends_wait : (owner : Owner) (a b : State) (es : List WaitEvent) → Valid owner a b es → Extends a.reservations b.reservations
extends_wait owner a b es none = extends_itself a.reservations
extends_wait owner a b es (also {b = m} {e = e} s l v) =
    extends_on a.reservations m.reservations b.reservations (extends_step a m e s) (extends_wait owner m b _ v)

module _ (mine : SlotNo) (id : Txid) where
  -- as many slots as before, the owner's among them and unchanged
  record Untouched (a b : State) : Type 0 where
    many : length b.slots ≡ length a.slots
    own : at b.slots mine.0 ≡ at a.slots mine.0

  stored-elsewhere : (a b : State) (i : ℕ) (s : Slot) → b.slots ≡ set a.slots i s → mine.0 ≢ i → Untouched a b
  stored-elsewhere a b i s e d =
      rw e (record { many = length-set a.slots i s; own = get_or-set_other a.slots i mine.0 s (slot 0 0) d })

  untouched-step : (a b : State) (e : WaitEvent) → WaitStep a b e → Allowed (Holds mine id) e → Untouched a b
  untouched-step a b (Register i x) s l = stored-elsewhere a b i (slot x x) s.slots (λ q. l (sym q))
  untouched-step a b (End i) s l = stored-elsewhere a b i (slot 0 0) s.slots (λ q. l (sym q))
  untouched-step a b (Horizon i x) s l = stored-elsewhere a b i (slot (at a.slots i).txid x) s.slots (λ q. l (sym q))
  untouched-step a b (Reserve x) s l = rw s.slots (record { many = refl; own = refl })
  untouched-step a b Observe s l = rw s.slots (record { many = refl; own = refl })

  untouched-wait : (a b : State) (es : List WaitEvent) → Valid (Holds mine id) a b es → Untouched a b
  untouched-wait a b es none = record { many = refl; own = refl }
  untouched-wait a b es (also {b = m} {e = e} s l v) =
      let first = untouched-step a m e s l in
      let rest = untouched-wait m b _ v in
      record { many = rest.many ∙ first.many; own = rest.own ∙ first.own }

  pub slot_kept : (a b : State) (es : List WaitEvent) → Valid (Holds mine id) a b es → at b.slots mine.0 ≡ at a.slots mine.0
  slot_kept a b es v = (untouched-wait a b es v).own

  pub owner-stays_live : (a b : State) (es : List WaitEvent) → Valid (Holds mine id) a b es → LiveOwner a mine.0 id.0
      → LiveOwner b mine.0 id.0
  owner-stays_live a b es v o =
      let u = untouched-wait a b es v in
      record {
        positive = o.positive;
        inside = omega (arith, u.many, o.inside);
        holds = ap (λ (x : Slot). x.txid) u.own ∙ o.holds;
      }
