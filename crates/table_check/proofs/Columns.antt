-- The definitions go slot by slot and pin by pin; the code asks the library whether all pass.
use mathlib.Core.Path.{◌≡◌, refl, ap}
use mathlib.Core.Logic.{◌≢◌}
use mathlib.Core.List.{List, [], ◌∷◌}
use mathlib.Core.Bool.{Bool, false, ◌&&◌, and-false}
use native.Mathlib.Omega.{arith}
use Prim.Native.Nat.{ℕ}
use lib.ListN.{length}
use Rattle.std.specs.List.{list_all, zip}
use Rattle.model.specs.Check.{slot_passes, slots_pass, pin_passes, pins_pass}

module _ (clock line : ℕ) where
  pub pins_all : (pins : List ℕ) → list_all (pin_passes clock line) pins ≡ pins_pass clock line pins
  unfolding pins_pass
  pins_all [] = refl
  pins_all (xmin ∷ pins) = ap (λ b. pin_passes clock line xmin && b) (pins_all pins)

  abbrev pub passes_here : ℕ × ℕ → Bool
  passes_here (txid, xmin) = slot_passes clock line txid xmin

  pub slots_all : (txids xmins : List ℕ) → length txids ≡ length xmins → list_all passes_here (zip txids xmins) ≡ slots_pass clock line txids xmins
  unfolding slots_pass
  slots_all [] [] h = refl
  slots_all [] (xmin ∷ xmins) h = absurd (omega arith)
  slots_all (txid ∷ txids) [] h = absurd (omega arith)
  slots_all (txid ∷ txids) (xmin ∷ xmins) h =
      ap (λ b. slot_passes clock line txid xmin && b) (slots_all txids xmins (omega arith))

  -- columns of two lengths
  pub slots_uneven : (txids xmins : List ℕ) → length txids ≢ length xmins → slots_pass clock line txids xmins ≡ false
  unfolding slots_pass
  slots_uneven [] [] h = absurd (h refl)
  slots_uneven [] (xmin ∷ xmins) h = refl
  slots_uneven (txid ∷ txids) [] h = refl
  slots_uneven (txid ∷ txids) (xmin ∷ xmins) h =
      rw (slots_uneven txids xmins (λ e. h (omega arith))) (and-false (slot_passes clock line txid xmin))
