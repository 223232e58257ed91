-- Item after item: one step, induction along the items, the bound that is never reached, and what a loop over the items knows.
use Prim.Native.Nat.{ℕ, zero, suc, ◌+◌, ◌-◌, ◌<◌, ◌≤◌}
use native.Mathlib.Omega.{arith}
use native.Mathlib.Numerals.{add-one}
use mathlib.Core.Path.{◌≡◌, refl, sym, ap, ◌∙◌}
use mathlib.Core.List.{List, [], ◌∷◌}
use mathlib.Core.Bool.{Bool, true, false}
use lib.Dec.{eqb}
use lib.ListN.{length}
use borrow.Author.Tests.{eq-eqb, ne_eqb, eqb-true, eqb-false}
use Rattle.grammar.specs.Items.{ItemAt, Is, Broken, Form, Found, Items, Breaks, with_first, on_item, found_in, found_from}
use Rattle.grammar.specs.Items.{listed, items_from, Boundary}
use Rattle.grammar.proofs.Facts.{Facts}

pub no_items : {I : Type 0} (k : ℕ) (xs : List I) → Breaks k ≡ Items xs → ⊥
no_items k xs h = let z : ◌≡◌ {A = ℕ} 0 1 = cc in omega arith

module _ {I : Type 0} (f : Form I) (facts : Facts f) where
  in_end : (k : ℕ) (s : List ℕ) (at b : ℕ) → at ≡ length s → found_in f (suc k) s at b ≡ Items []
  unfolding found_in
  in_end k s at b h = rw (found_in, eq-eqb at (length s) h)

  in_step : (k : ℕ) (s : List ℕ) (at b : ℕ) {x : ItemAt I} → (at ≡ length s → ⊥) → f.at s at ≡ x
      → found_in f (suc k) s at b ≡ on_item x b (λ e. found_in f k s e (b + 6))
  unfolding found_in
  in_step k s at b h e = rw (found_in, ne_eqb at (length s) h, e)

  -- a larger bound changes nothing
  in-enough : (k j : ℕ) (s : List ℕ) (at b : ℕ) → length s - at < k → length s - at < j → found_in f k s at b ≡ found_in f j s at b
  in-enough zero j s at b h g = absurd (omega arith)
  in-enough (suc k) zero s at b h g = absurd (omega arith)
  in-enough (suc k) (suc j) s at b h g = go (eqb at (length s)) refl (f.at s at) refl (λ e. in-enough k j s e (b + 6))
    where
      go : (t : Bool) → eqb at (length s) ≡ t → (x : ItemAt I) → f.at s at ≡ x
          → ((e : ℕ) → length s - e < k → length s - e < j → found_in f k s e (b + 6) ≡ found_in f j s e (b + 6))
          → found_in f (suc k) s at b ≡ found_in f (suc j) s at b
      go true p x q ih = in_end k s at b (eqb-true at (length s) p) ∙ sym (in_end j s at b (eqb-true at (length s) p))
      go false p (Broken l) q ih =
          in_step k s at b (eqb-false at (length s) p) q ∙ sym (in_step j s at b (eqb-false at (length s) p) q)
      go false p (Is x e) q ih =
          let m = facts.moves s at x e q in
          in_step k s at b (eqb-false at (length s) p) q
          ∙ ap (with_first x) (ih e (omega (arith, m.0, m.1)) (omega (arith, m.0, m.1)))
          ∙ sym (in_step j s at b (eqb-false at (length s) p) q)

  -- the three equations of `found_from`
  pub found_end : (s : List ℕ) (at b : ℕ) → at ≡ length s → found_from f s at b ≡ Items []
  unfolding found_from
  found_end s at b h = ap (λ (k : ℕ). found_in f k s at b) (add-one (length s - at)) ∙ in_end (length s - at) s at b h

  pub found_broken : (s : List ℕ) (at b k : ℕ) → (at ≡ length s → ⊥) → f.at s at ≡ Broken k → found_from f s at b ≡ Breaks (b + k)
  unfolding found_from
  found_broken s at b k h e = ap (λ (k : ℕ). found_in f k s at b) (add-one (length s - at)) ∙ in_step (length s - at) s at b h e

  pub found_next : (s : List ℕ) (at b : ℕ) (x : I) (e : ℕ) → f.at s at ≡ Is x e
      → found_from f s at b ≡ with_first x (found_from f s e (b + 6))
  unfolding found_from
  found_next s at b x e q =
      let m = facts.moves s at x e q in
      ap (λ (k : ℕ). found_in f k s at b) (add-one (length s - at))
      ∙ in_step (length s - at) s at b (λ z. omega (arith, m.0, m.1)) q
      ∙ ap (with_first x) (in-enough (length s - at) (length s - e + 1) s e (b + 6) (omega (arith, m.0, m.1)) (omega arith))

  -- P holds past the item at `at`, if one stands there
  abbrev pub Past : List ℕ → (ℕ → Type 0) → ℕ → Type 0
  Past s P at = (x : I) (e : ℕ) → f.at s at ≡ Is x e → P e

  -- induction along the items of a text
  module _ (s : List ℕ) (P : ℕ → Type 0) (step : (at : ℕ) → Past s P at → P at) where
    below : (k at : ℕ) → length s - at < k → P at
    below zero at h = absurd (omega arith)
    below (suc k) at h = step at (λ x e q. let m = facts.moves s at x e q in below k e (omega (arith, m.0, m.1)))

    pub along : (at : ℕ) → P at
    along at = below (length s - at + 1) at (omega arith)

  -- what is found at a place: the end, an item and what is found past it, or a broken line
  pub data At (s : List ℕ) (at b : ℕ) : Type 0 where
    ended : at ≡ length s → found_from f s at b ≡ Items [] → At s at b
    broke : (k : ℕ) → f.at s at ≡ Broken k → found_from f s at b ≡ Breaks (b + k) → At s at b
    went : (x : I) (e : ℕ) → f.at s at ≡ Is x e → found_from f s at b ≡ with_first x (found_from f s e (b + 6)) → At s at b

  pub look : (s : List ℕ) (at b : ℕ) → At s at b
  look s at b = go (eqb at (length s)) refl (f.at s at) refl
    where
      go : (t : Bool) → eqb at (length s) ≡ t → (x : ItemAt I) → f.at s at ≡ x → At s at b
      go true p x q = ended (eqb-true at (length s) p) (found_end s at b (eqb-true at (length s) p))
      go false p (Broken k) q = broke k q (found_broken s at b k (eqb-false at (length s) p) q)
      go false p (Is x e) q = went x e q (found_next s at b x e q)

  -- the items that are found do not depend on how many lines stand before them
  Alike : List ℕ → ℕ → Type 0
  Alike s at = (b c : ℕ) (xs : List I) → found_from f s at b ≡ Items xs → found_from f s at c ≡ Items xs

  pub alike : (s : List ℕ) (at b c : ℕ) (xs : List I) → found_from f s at b ≡ Items xs → found_from f s at c ≡ Items xs
  unfolding Alike
  alike s = along s (Alike s) (λ at ih b c xs h. go at ih b c xs h (look s at b))
    where
      tail : (e b c : ℕ) (x : I) (xs : List I) → Alike s e
          → (y : Found I) → found_from f s e b ≡ y → with_first x y ≡ Items xs → with_first x (found_from f s e c) ≡ Items xs
      tail e b c x xs ih (Breaks k) q h = absurd (no_items k xs h)
      tail e b c x xs ih (Items ys) q h = ap (with_first x) (ih b c ys q) ∙ h

      go : (at : ℕ) → Past s (Alike s) at → (b c : ℕ) (xs : List I) → found_from f s at b ≡ Items xs → At s at b
          → found_from f s at c ≡ Items xs
      go at ih b c xs h (ended p q) = found_end s at c p ∙ sym q ∙ h
      go at ih b c xs h (broke k p q) = absurd (no_items (b + k) xs (sym q ∙ h))
      go at ih b c xs h (went x e p q) =
          found_next s at c x e p ∙ tail e (b + 6) (c + 6) x xs (ih x e p) (found_from f s e (b + 6)) refl (sym q ∙ h)

  -- what was found from a place on is left there, whatever stands before it
  pub boundary : (s : List ℕ) (at b : ℕ) (xs : List I) → found_from f s at b ≡ Items xs → Boundary f s at × (items_from f s at ≡ xs)
  unfolding items_from
  boundary s at b xs h =
      let p : found_from f s at 0 ≡ Items xs = alike s at b 0 xs h in
      let q : listed (found_from f s at 0) ≡ xs = ap listed p in
      (p ∙ ap Items (sym q), q)

  -- at the end no item is left
  pub none_left : (s : List ℕ) (at : ℕ) → at ≡ length s → items_from f s at ≡ []
  unfolding items_from
  none_left s at h = ap listed (found_end s at 0 h)

  -- before the end an item stands: it is the first that is left, and past it stands the next, or the end
  pub record Next (s : List ℕ) (at : ℕ) (x : I) (e : ℕ) : Type 0 where
    pub first : items_from f s at ≡ x ∷ items_from f s e
    pub again : Boundary f s e
    pub further : at < e
    pub inside : e ≤ length s

  pub next_item : (s : List ℕ) (at : ℕ) (x : I) (e : ℕ) → Boundary f s at → f.at s at ≡ Is x e → Next s at x e
  next_item s at x e h q = past (facts.moves s at x e q) (found_from f s e 6) refl (sym h ∙ found_next s at 0 x e q)
    where
      past : (at < e) × (e ≤ length s) → (y : Found I) → found_from f s e 6 ≡ y → Items (items_from f s at) ≡ with_first x y → Next s at x e
      past m (Breaks k) p g = absurd (no_items k (items_from f s at) (sym g))
      past m (Items xs) p g =
          let b = boundary s e 6 xs p in
          let same : items_from f s at ≡ x ∷ xs = cc in
          record { first = same ∙ ap (λ (ys : List I). x ∷ ys) (sym b.1); again = b.0; further = m.0; inside = m.1 }

  pub none_broken : (s : List ℕ) (at k : ℕ) → Boundary f s at → (at ≡ length s → ⊥) → f.at s at ≡ Broken k → ⊥
  none_broken s at k h n q = no_items (0 + k) (items_from f s at) (sym (found_broken s at 0 k n q) ∙ h)

  -- and a boundary with no item left is the end
  pub end_only : (s : List ℕ) (at : ℕ) → Boundary f s at → items_from f s at ≡ [] → at ≡ length s
  end_only s at h none = go (look s at 0)
    where
      go : At s at 0 → at ≡ length s
      go (ended p q) = p
      go (broke k p q) = absurd (no_items (0 + k) (items_from f s at) (sym q ∙ h))
      go (went x e p q) =
          let some = (next_item s at x e h p).first in
          let y : ◌≡◌ {A = ℕ} 0 1 = cc in
          absurd (omega arith)

  -- no more items are left than bytes
  pub items_inside : (s : List ℕ) (at : ℕ) → Boundary f s at → at + length (items_from f s at) ≤ length s
  items_inside s = along s Inside (λ at ih h. go at ih h (look s at 0))
    where
      Inside : ℕ → Type 0
      Inside at = Boundary f s at → at + length (items_from f s at) ≤ length s

      go : (at : ℕ) → Past s Inside at → Boundary f s at → At s at 0 → at + length (items_from f s at) ≤ length s
      go at ih h (ended p q) = omega (arith, ap length (none_left s at p))
      go at ih h (broke k p q) = absurd (no_items (0 + k) (items_from f s at) (sym q ∙ h))
      go at ih h (went x e p q) =
          let n = next_item s at x e h p in
          omega (arith, ih x e p n.again, n.further, ap length n.first)

-- what is found under one form is found under a wider one
module _ {I : Type 0} (f : Form I) (facts : Facts f) (g : Form I) (wide : Facts g) where
  abbrev pub Wider : Type 0
  Wider = (s : List ℕ) (at : ℕ) (x : I) (e : ℕ) → f.at s at ≡ Is x e → g.at s at ≡ Is x e

  pub wider : Wider → (s : List ℕ) (at b : ℕ) (xs : List I) → found_from f s at b ≡ Items xs → found_from g s at b ≡ Items xs
  wider more s = along f facts s Same (λ at ih b xs h. go at ih b xs h (look f facts s at b))
    where
      Same : ℕ → Type 0
      Same at = (b : ℕ) (xs : List I) → found_from f s at b ≡ Items xs → found_from g s at b ≡ Items xs

      tail : (e b : ℕ) (x : I) (xs : List I) → Same e
          → (y : Found I) → found_from f s e b ≡ y → with_first x y ≡ Items xs → with_first x (found_from g s e b) ≡ Items xs
      tail e b x xs ih (Breaks k) q h = absurd (no_items k xs h)
      tail e b x xs ih (Items ys) q h = ap (with_first x) (ih b ys q) ∙ h

      go : (at : ℕ) → Past f facts s Same at → (b : ℕ) (xs : List I) → found_from f s at b ≡ Items xs → At f facts s at b
          → found_from g s at b ≡ Items xs
      go at ih b xs h (ended p q) = found_end g wide s at b p ∙ sym q ∙ h
      go at ih b xs h (broke k p q) = absurd (no_items (b + k) xs (sym q ∙ h))
      go at ih b xs h (went x e p q) =
          found_next g wide s at b x e (more s at x e p) ∙ tail e (b + 6) x xs (ih x e p) (found_from f s e (b + 6)) refl (sym q ∙ h)
