-- Entries of a context: what is left of one that is forgotten, and where one stands.
--     back n           the first entry goes back to place n
--     first_only       [i; what some arguments own; ..] becomes [i; what the first of them owns; ..]
--     empties p n e    the n entries from place p on, which are locals, are emptied. e is `refl`
use mathlib.Core.Path.{◌≡◌, subst, sym}
use mathlib.Core.List.{List, [], ◌∷◌, head-eq_of_cons-eq, tail-eq_of_cons-eq}
use Prim.Native.Nat.{ℕ, zero, suc}
use seplogic.Ra.Ura.{Ura}
use base.Fraction.{full_share}
use base.Logic.{SProp, ent, sep, via, id⊢, mono∗, mono_r}
use base.Fml.{Share, Fml, ftrue, ffalse, feq, flt, fsep, fand, for, fwand, fex, fall, fupd, fat, froom, fdies}
use base.Fml.{flft, fdead, fobs, fauth, fres, fbor, fobor, flent, fshr_bor}
use base.Fml.{fhide, fleft, fown, finv, fnamed, ftok, fkid, fme, fsent}
use types.Logic.{Logic}
use sound.Laws.{swap∗}
use types.Kit.{Goal, Item, Step, step, ‵, raw, ◌⊛◌, some, given, later, ⋆ as star, mean as means, push, pop, ◌$◌, move, drop, fsplit}

module _ {M : Type 1} {𝓤 : Ura M} (𝓛 : Logic 𝓤) where
  open 𝓛 use {H}

  abbrev ⋆ : List (Item 𝓤) → SProp 𝓤
  ⋆ Γ = star 𝓛 Γ

  abbrev mean : Item 𝓤 → SProp 𝓤
  mean i = means 𝓛 i

  -- an entry that may be forgotten: what is left of it, and the share of it that has to be had for that
  abbrev pub Left : Item 𝓤 → Type 2
  Left i = (j : Item 𝓤) × (s : Share) × (s ≡ full_share → ent 𝓤 (mean i) (mean j))

  abbrev same : (i : Item 𝓤) → Left i
  same i = (i, full_share, λ e. id⊢ 𝓤 (mean i))

  -- of a value there is room left; the rest is as it was
  abbrev room_of : (P : Fml) → Left (‵ P)
  room_of (fat q τ b o v) =
      (‵ (froom τ b o), q, λ e. subst (λ (s : Share). ent 𝓤 (H.at s τ b o v) (H.room τ b o)) (sym e) (𝓛.laws.at_room τ b o v))
  room_of ftrue = same (‵ ftrue)
  room_of ffalse = same (‵ ffalse)
  room_of (feq X x y) = same (‵ (feq X x y))
  room_of (flt m n) = same (‵ (flt m n))
  room_of (fsep P Q) = same (‵ (fsep P Q))
  room_of (fand P Q) = same (‵ (fand P Q))
  room_of (for P Q) = same (‵ (for P Q))
  room_of (fwand P Q) = same (‵ (fwand P Q))
  room_of (fex X F) = same (‵ (fex X F))
  room_of (fall X F) = same (‵ (fall X F))
  room_of (fupd P) = same (‵ (fupd P))
  room_of (froom τ b o) = same (‵ (froom τ b o))
  room_of (fdies τ b) = same (‵ (fdies τ b))
  room_of (flft κ q) = same (‵ (flft κ q))
  room_of (fdead κ) = same (‵ (fdead κ))
  room_of (fobs γ g) = same (‵ (fobs γ g))
  room_of (fauth γ g) = same (‵ (fauth γ g))
  room_of (fres γ g) = same (‵ (fres γ g))
  room_of (fbor κ P) = same (‵ (fbor κ P))
  room_of (fobor κ q P) = same (‵ (fobor κ q P))
  room_of (flent κ P) = same (‵ (flent κ P))
  room_of (fshr_bor κ F) = same (‵ (fshr_bor κ F))
  room_of (fhide P) = same (‵ (fhide P))
  room_of (fleft q τ τs b o) = same (‵ (fleft q τ τs b o))
  room_of (fown R γ x) = same (‵ (fown R γ x))
  room_of (finv P) = same (‵ (finv P))
  room_of (fnamed n P) = same (‵ (fnamed n P))
  room_of (ftok m) = same (‵ (ftok m))
  room_of (fkid h a) = same (‵ (fkid h a))
  room_of (fme t) = same (‵ (fme t))
  room_of (fsent x) = same (‵ (fsent x))

  abbrev pub left : (i : Item 𝓤) → Left i
  left (‵ P) = room_of P
  left (raw P) = same (raw P)
  left (i ⊛ j) = same (i ⊛ j)
  left (some F) = same (some F)
  left (given φ i) = same (given φ i)
  left (later i) = same (later i)

  -- the first entry at place n
  abbrev pub insert : ℕ → Item 𝓤 → List (Item 𝓤) → List (Item 𝓤)
  insert zero i Γ = i ∷ Γ
  insert (suc n) i [] = i ∷ []
  insert (suc n) i (j ∷ Γ) = j ∷ insert n i Γ

  inserts : (n : ℕ) (i : Item 𝓤) (Γ : List (Item 𝓤)) → ent 𝓤 (sep 𝓤 (mean i) (⋆ Γ)) (⋆ (insert n i Γ))
  inserts zero i Γ = push 𝓛 i Γ
  inserts (suc n) i [] = push 𝓛 i []
  inserts (suc n) i (j ∷ Γ) =
      via 𝓤 (sep 𝓤 (mean i) (sep 𝓤 (mean j) (⋆ Γ))) (mono_r 𝓤 (mean i) (pop 𝓛 j Γ))
      (via 𝓤 (sep 𝓤 (mean j) (sep 𝓤 (mean i) (⋆ Γ))) (swap∗ 𝓤 (mean i) (mean j) (⋆ Γ))
      (via 𝓤 (sep 𝓤 (mean j) (⋆ (insert n i Γ))) (mono_r 𝓤 (mean j) (inserts n i Γ)) (push 𝓛 j (insert n i Γ))))

  -- the entries from place p on emptied, n of them, and the shares that this takes
  abbrev pub emptied : ℕ → ℕ → List (Item 𝓤) → List (Item 𝓤)
  emptied p n [] = []
  emptied (suc p) n (i ∷ Γ) = i ∷ emptied p n Γ
  emptied zero zero (i ∷ Γ) = i ∷ Γ
  emptied zero (suc n) (i ∷ Γ) = (left i).0 ∷ emptied zero n Γ

  abbrev pub taken : ℕ → ℕ → List (Item 𝓤) → List Share
  taken p n [] = []
  taken (suc p) n (i ∷ Γ) = taken p n Γ
  taken zero zero (i ∷ Γ) = []
  taken zero (suc n) (i ∷ Γ) = (left i).1 ∷ taken zero n Γ

  abbrev pub all_of : ℕ → List Share
  all_of zero = []
  all_of (suc n) = full_share ∷ all_of n

  empty : (p n : ℕ) (Γ : List (Item 𝓤)) → taken p n Γ ≡ all_of n → ent 𝓤 (⋆ Γ) (⋆ (emptied p n Γ))
  empty p n [] e = id⊢ 𝓤 (⋆ [])
  empty (suc p) n (i ∷ Γ) e =
      via 𝓤 (sep 𝓤 (mean i) (⋆ Γ)) (pop 𝓛 i Γ)
      (via 𝓤 (sep 𝓤 (mean i) (⋆ (emptied p n Γ))) (mono_r 𝓤 (mean i) (empty p n Γ e)) (push 𝓛 i (emptied p n Γ)))
  empty zero zero (i ∷ Γ) e = id⊢ 𝓤 (⋆ (i ∷ Γ))
  empty zero (suc n) (i ∷ Γ) e =
      via 𝓤 (sep 𝓤 (mean i) (⋆ Γ)) (pop 𝓛 i Γ)
      (via 𝓤 (sep 𝓤 (mean (left i).0) (⋆ (emptied zero n Γ)))
      (mono∗ 𝓤 ((left i).2 (head-eq_of_cons-eq e)) (empty zero n Γ (tail-eq_of_cons-eq e))) (push 𝓛 (left i).0 (emptied zero n Γ)))

module _ {M : Type 1} {𝓤 : Ura M} {𝓛 : Logic 𝓤} {K : Type 0} {Γ : List (Item 𝓤)} {G : Goal 𝓤 𝓛.H} where
  pub back : K → (n : ℕ) {i : Item 𝓤} → Step K 𝓛 (insert 𝓛 n i Γ) G (i ∷ Γ) G
  back t n {i} = step (λ s. record {
    prf =
        via 𝓤 (sep 𝓤 (means 𝓛 i) (star 𝓛 Γ)) (pop 𝓛 i Γ)
        (via 𝓤 (star 𝓛 (insert 𝓛 n i Γ)) (inserts 𝓛 n i Γ) s.prf);
  })

  pub first_only : K → {i : Item 𝓤} {P Q : Fml} → Step K 𝓛 (i ∷ ‵ P ∷ Γ) G (i ∷ ‵ (fsep P Q) ∷ Γ) G
  first_only t = step (λ s. move t (1 ∷ []) $ fsplit t $ move t (1 ∷ []) $ drop t $ move t (1 ∷ 0 ∷ []) $ s)

  pub empties : K → (p n : ℕ) → taken 𝓛 p n Γ ≡ all_of 𝓛 n → Step K 𝓛 (emptied 𝓛 p n Γ) G Γ G
  empties t p n e = step (λ s. record { prf = via 𝓤 (star 𝓛 (emptied 𝓛 p n Γ)) (empty 𝓛 p n Γ e) s.prf })
