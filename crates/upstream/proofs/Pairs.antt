-- The two columns as one run of slots: what is read and what is stored, place by place. Where both have one length, place i
-- of the run is the pair of both places i; a store into both columns is a store of the pair.
use Prim.Native.Nat.{ℕ, zero, suc}
use mathlib.Core.Path.{◌≡◌, refl, sym, ap, ◌∙◌}
use mathlib.Core.List.{List, [], ◌∷◌}
use native.Mathlib.Nat.{suc-ne-zero, suc_inj}
use lib.ListN.{length, get_or, set, length-set}
use Rattle.model.specs.declared.Counters.{Counters}
use Rattle.model.specs.declared.Table.{Table}
use Rattle.model.specs.declared.change.SlotChange.{SlotChange}
use Rattle.model.specs.declared.change.SlotChange.TheVariants.{Stays, Enters, Leaves, Retains, Pins}
use Rattle.model.specs.Tables.{txid_at, xmin_at}
use Rattle.model.specs.Changes.{change, applied}
use Rattle.upstream.specs.States.{Slot, slot, at, pairs, Shaped}

pub pairs-length : (xs ys : List ℕ) → length xs ≡ length ys → length (pairs xs ys) ≡ length xs
pairs-length [] ys e = refl
pairs-length (x ∷ xs) [] e = absurd (suc-ne-zero _ e)
pairs-length (x ∷ xs) (y ∷ ys) e = ap suc (pairs-length xs ys (suc_inj e))

pub pairs-at :
    (xs ys : List ℕ) (i : ℕ) → length xs ≡ length ys → at (pairs xs ys) i ≡ slot (get_or xs i 0) (get_or ys i 0)
pairs-at [] [] i e = refl
pairs-at [] (y ∷ ys) i e = absurd (suc-ne-zero _ (sym e))
pairs-at (x ∷ xs) [] i e = absurd (suc-ne-zero _ e)
pairs-at (x ∷ xs) (y ∷ ys) zero e = refl
pairs-at (x ∷ xs) (y ∷ ys) (suc i) e = pairs-at xs ys i (suc_inj e)

pub pairs_set :
    (xs ys : List ℕ) (i a b : ℕ) → pairs (set xs i a) (set ys i b) ≡ set (pairs xs ys) i (slot a b)
pairs_set [] ys i a b = refl
pairs_set (x ∷ xs) [] zero a b = refl
pairs_set (x ∷ xs) [] (suc i) a b = refl
pairs_set (x ∷ xs) (y ∷ ys) zero a b = refl
pairs_set (x ∷ xs) (y ∷ ys) (suc i) a b = ap (λ (l : List Slot). slot x y ∷ l) (pairs_set xs ys i a b)

-- a store of the snapshot_xmin alone leaves the txid
pub pairs-set_xmin :
    (xs ys : List ℕ) (i b : ℕ) → pairs xs (set ys i b) ≡ set (pairs xs ys) i (slot (get_or xs i 0) b)
pairs-set_xmin [] ys i b = refl
pairs-set_xmin (x ∷ xs) [] i b = refl
pairs-set_xmin (x ∷ xs) (y ∷ ys) zero b = refl
pairs-set_xmin (x ∷ xs) (y ∷ ys) (suc i) b = ap (λ (l : List Slot). slot x y ∷ l) (pairs-set_xmin xs ys i b)

-- a table's slots, as upstream has them
abbrev pub slots_of : Table → List Slot
slots_of t = pairs t.txids t.snapshot_xmins

module _ (n : ℕ) (t : Table) (s : Shaped n t) where
  pub even : length t.txids ≡ length t.snapshot_xmins
  even = s.txids_size ∙ sym s.xmins_size

  pub slots_length : length (slots_of t) ≡ n
  slots_length = pairs-length t.txids t.snapshot_xmins even ∙ s.txids_size

  pub slot_at : (i : ℕ) → at (slots_of t) i ≡ slot (txid_at t i) (xmin_at t i)
  slot_at i = pairs-at t.txids t.snapshot_xmins i even

  pub txid-at : (i : ℕ) → (at (slots_of t) i).txid ≡ txid_at t i
  txid-at i = ap (λ (x : Slot). x.txid) (slot_at i)

  pub shaped_applied : (d : SlotChange) (k : Counters) → Shaped n (applied t (change d k))
  shaped_applied Stays k = record { txids_size = s.txids_size; xmins_size = s.xmins_size }
  shaped_applied (Enters slot txid) k =
      record {
        txids_size = length-set t.txids slot.0 txid.0 ∙ s.txids_size;
        xmins_size = length-set t.snapshot_xmins slot.0 txid.0 ∙ s.xmins_size;
      }
  shaped_applied (Leaves slot) k =
      record {
        txids_size = length-set t.txids slot.0 0 ∙ s.txids_size;
        xmins_size = length-set t.snapshot_xmins slot.0 0 ∙ s.xmins_size;
      }
  shaped_applied (Retains slot xmin) k =
      record { txids_size = s.txids_size; xmins_size = length-set t.snapshot_xmins slot.0 xmin ∙ s.xmins_size }
  shaped_applied (Pins pin xmin) k = record { txids_size = s.txids_size; xmins_size = s.xmins_size }
