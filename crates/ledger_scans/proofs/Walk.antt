-- What a walk down the places finds is what the model says: the smallest xmin, and its lowest holder.
use Prim.Native.Nat.{ℕ, ◌+◌, ◌<◌, ◌≤◌, min}
use mathlib.Core.Path.{◌≡◌, refl, sym, ap, ◌∙◌}
use mathlib.Core.Bool.{Bool, true, false, cond}
use mathlib.Core.List.{List, [], ◌∷◌}
use native.Mathlib.Decide.{dec_lt}
use native.Mathlib.Omega.{arith}
use lib.Dec.{eqb, leb}
use lib.ListN.{length, drop, get_or, drop_of_length-le}
use borrow.Author.Tests.{eq-eqb, ne_eqb, le-leb, lt-leb, leb-true, leb-false}
use Rattle.kinds.proofs.Lists.{from}
use Rattle.model.specs.Tally.{cons_unless, retained, minimum, oldest_of, holder_from, holder_of, pin_holder_of}
use Rattle.model.specs.Tally.{first_pin, no_holder}
use Rattle.model.proofs.Tally.{retained_self}
use Rattle.ledger_scans.specs.declared.held.Held.{Held}
use Rattle.ledger_scans.specs.Held.{lowered, held_from, oldest_among, held_of}

-- the smallest of a list does not ask in which order it is taken
minimum-min : (a b : ℕ) (xs : List ℕ) → minimum (min a b) xs ≡ min (minimum a xs) b
unfolding minimum
minimum-min a b [] = refl
minimum-min a b (x ∷ xs) =
    let e : min (min a b) x ≡ min (min a x) b = omega arith in
    ap (λ (k : ℕ). minimum k xs) e ∙ minimum-min (min a x) b xs

minimum_swap : (a : ℕ) (xs ys : List ℕ) → minimum (minimum a xs) ys ≡ minimum (minimum a ys) xs
unfolding minimum
minimum_swap a [] ys = refl
minimum_swap a (x ∷ xs) ys =
    minimum_swap (min a x) xs ys ∙ ap (λ (k : ℕ). minimum k xs) (minimum-min a x ys)

lowered_xmin : (x place : ℕ) (h : Held) → (lowered false x place h).xmin ≡ min h.xmin x
lowered_xmin x place h = go (leb x h.xmin) refl
  where
    go : (b : Bool) → leb x h.xmin ≡ b → (cond b (record { xmin = x; holder = place }) h).xmin ≡ min h.xmin x
    go true e = let l = leb-true x h.xmin e in omega arith
    go false e = let l = leb-false x h.xmin e in omega arith

pub held_xmin : (place : ℕ) (ts xs : List ℕ) (h : Held) → (held_from place ts xs h).xmin ≡ minimum h.xmin (retained ts xs)
unfolding held_from retained minimum
held_xmin place [] xs h = refl
held_xmin place (t ∷ ts) [] h = refl
held_xmin place (t ∷ ts) (x ∷ xs) h = go (eqb t 0) (held_xmin (place + 1) ts xs h)
  where
    go : (b : Bool) → (held_from (place + 1) ts xs h).xmin ≡ minimum h.xmin (retained ts xs) →
        (lowered b x place (held_from (place + 1) ts xs h)).xmin ≡ minimum h.xmin (cons_unless b x (retained ts xs))
    go true ih = ih
    go false ih =
        lowered_xmin x place (held_from (place + 1) ts xs h)
        ∙ ap (λ (k : ℕ). min k x) ih
        ∙ sym (minimum-min h.xmin x (retained ts xs))

-- f says who holds where no place does: of the number that the walk began with, whom it began with
module _ (f : ℕ → ℕ) (h : Held) (begins : h.holder ≡ f h.xmin) where
  abbrev told : ℕ → List ℕ → List ℕ → Held → Type 0
  told place ts xs found = found.holder ≡ holder_from place ts xs found.xmin (f found.xmin)

  pub held-holder : (place : ℕ) (ts xs : List ℕ) → told place ts xs (held_from place ts xs h)
  unfolding held_from holder_from
  held-holder place [] xs = begins
  held-holder place (t ∷ ts) [] = begins
  held-holder place (t ∷ ts) (x ∷ xs) =
      go (eqb t 0) refl (held_from (place + 1) ts xs h) (held-holder (place + 1) ts xs)
    where
      below : (found : Held) → eqb t 0 ≡ false → told (place + 1) ts xs found → (b : Bool) → leb x found.xmin ≡ b →
          told place (t ∷ ts) (x ∷ xs) (cond b (record { xmin = x; holder = place }) found)
      below found e ih true l = rw (e, eq-eqb x x refl)
      below found e ih false l =
          let k = leb-false x found.xmin l in
          rw (e, ne_eqb x found.xmin (λ z. omega arith)) ih

      go : (b : Bool) → eqb t 0 ≡ b → (found : Held) → told (place + 1) ts xs found →
          told place (t ∷ ts) (x ∷ xs) (lowered b x place found)
      go true e found ih = rw e ih
      go false e found ih = below found e ih (leb x found.xmin) refl

-- the pins, then the slots
abbrev nobody : ℕ → Held
nobody sample = record { xmin = sample; holder = no_holder }

module _ (txids xmins pins : List ℕ) (sample : ℕ) where
  abbrev by-pins : Held
  by-pins = held_from first_pin pins pins (nobody sample)

  abbrev found : Held
  found = held_from 0 txids xmins by-pins

  oldest-found : found.xmin ≡ oldest_among txids xmins pins sample
  oldest-found =
      held_xmin 0 txids xmins by-pins
      ∙ ap (λ (k : ℕ). minimum k (retained txids xmins)) (held_xmin first_pin pins pins (nobody sample))
      ∙ minimum_swap sample (retained pins pins) (retained txids xmins)
      ∙ ap (minimum (oldest_of txids xmins sample)) (retained_self pins)

  holder_found : found.holder ≡ holder_of txids xmins found.xmin (pin_holder_of pins found.xmin)
  holder_found =
      held-holder (pin_holder_of pins) by-pins
      (held-holder (λ (k : ℕ). no_holder) (nobody sample) refl first_pin pins pins) 0 txids xmins

  pub held_is : found ≡ held_of txids xmins pins sample
  unfolding held_of
  held_is =
      λ k. record {
        xmin = oldest-found k;
        holder =
            (holder_found ∙ ap (λ (x : ℕ). holder_of txids xmins x (pin_holder_of pins x)) oldest-found) k;
      }

-- the walk: before its first place nothing is found, and a place is one step
nothing_right : (place : ℕ) (ts : List ℕ) (h : Held) → held_from place ts [] h ≡ h
unfolding held_from
nothing_right place [] h = refl
nothing_right place (t ∷ ts) h = refl

pub held_start :
    (place i : ℕ) (ts xs : List ℕ) (h : Held) → i ≡ min (length ts) (length xs) → held_from place (drop i ts) (drop i xs) h ≡ h
unfolding held_from
held_start place i ts xs h e = go (dec_lt (length xs) (length ts))
  where
    go : Dec (length xs < length ts) → held_from place (drop i ts) (drop i xs) h ≡ h
    go (yes l) =
        let k : length xs ≤ i = omega arith in
        rw (drop_of_length-le xs k) (nothing_right place (drop i ts) h)
    go (no l) =
        let k : length ts ≤ i = omega arith in
        rw (drop_of_length-le ts k)

module _ (first : ℕ) (ts xs : List ℕ) (h : Held) where
  abbrev from_place : ℕ → Held
  from_place i = held_from (first + i) (drop i ts) (drop i xs) h

  one_more :
      (i : ℕ) → i < length ts → i < length xs →
      from_place i ≡ lowered (eqb (get_or ts i 0) 0) (get_or xs i 0) (first + i) (from_place (i + 1))
  unfolding held_from
  one_more i k l =
      let e : first + i + 1 ≡ first + (i + 1) = omega arith in
      rw (from ts i k, from xs i l) (ap (λ (p : ℕ). lowered (eqb (get_or ts i 0) 0) (get_or xs i 0) (first + i) (held_from p (drop (i + 1) ts) (drop (i + 1) xs) h)) e)

  module _ (i : ℕ) {j : ℕ} (e : i + 1 ≡ j) (k : j ≤ length ts) (l : j ≤ length xs) {s : Held} (inv : s ≡ from_place j) where
    step : from_place i ≡ lowered (eqb (get_or ts i 0) 0) (get_or xs i 0) (first + i) s
    step =
        one_more i (omega arith) (omega arith)
        ∙ ap (λ (m : ℕ). lowered (eqb (get_or ts i 0) 0) (get_or xs i 0) (first + i) (from_place m)) e
        ∙ ap (lowered (eqb (get_or ts i 0) 0) (get_or xs i 0) (first + i)) (sym inv)

    pub empty_place : get_or ts i 0 ≡ 0 → s ≡ from_place i
    empty_place z = sym (step ∙ rw (eq-eqb _ _ z) refl)

    pub lower_place :
        (get_or ts i 0 ≡ 0 → ⊥) → get_or xs i 0 ≤ s.xmin →
        ◌≡◌ {A = Held} (record { xmin = get_or xs i 0; holder = first + i }) (from_place i)
    lower_place z b = sym (step ∙ rw (ne_eqb _ _ z, le-leb _ _ b) refl)

    pub higher_place : (get_or ts i 0 ≡ 0 → ⊥) → s.xmin < get_or xs i 0 → s ≡ from_place i
    higher_place z b = sym (step ∙ rw (ne_eqb _ _ z, lt-leb _ _ b) refl)
