-- The tallies over any columns: which bounds hold, who is active, which slot is the lowest empty one, how many are taken.
use Prim.Native.Nat.{ℕ, zero, suc, ◌+◌, ◌-◌, ◌≤◌, ◌<◌, min, max}
use mathlib.Core.Path.{◌≡◌, refl, sym, ◌∙◌, ap}
use mathlib.Core.Logic.{◌≢◌, ◌⊎◌, inl, inr}
use mathlib.Core.Bool.{Bool, true, false, cond, false≢true}
use mathlib.Core.List.{List, [], ◌∷◌}
use native.Mathlib.Nat.{le_refl, not-suc-le-zero, le_of_suc-le-suc, suc_inj, suc-ne-zero}
use native.Mathlib.Numerals.{add-one}
use native.Mathlib.Omega.{arith}
use lib.Dec.{eqb}
use lib.ListN.{length, get_or, set, take, replicate}
use lib.Seq.{take-append_seam}
use borrow.Author.Tests.{eqb-true, eqb-false, eq-eqb, ne_eqb}
use Rattle.listed.specs.Listed.{listed}
use Rattle.listed.proofs.Listed.{listed_none, listed-head, listed_tail, listed_cases}
use Rattle.model.specs.Tally.{cons_unless, active, retained, holder_from, lowest_empty, minimum, maximum, places}

-- the smallest is at most the number and each member, and at least what they all are
pub minimum_start : (a : ℕ) (xs : List ℕ) → minimum a xs ≤ a
unfolding minimum
minimum_start a [] = le_refl _
minimum_start a (x ∷ xs) = omega (arith, minimum_start (min a x) xs)

pub minimum_member : (a : ℕ) (xs : List ℕ) (x : ℕ) → listed x xs ≡ true → minimum a xs ≤ x
unfolding minimum
minimum_member a [] x e = absurd (listed_none x e)
minimum_member a (y ∷ ys) x e = go (listed_cases x y ys e) (λ p. minimum_member (min a y) ys x p)
  where
    go : (y ≡ x) ⊎ (listed x ys ≡ true) → (listed x ys ≡ true → minimum (min a y) ys ≤ x) → minimum (min a y) ys ≤ x
    go (inl p) ih = omega (arith, minimum_start (min a y) ys)
    go (inr p) ih = ih p

pub minimum_bound :
    (a : ℕ) (xs : List ℕ) (k : ℕ) → k ≤ a → ((x : ℕ) → listed x xs ≡ true → k ≤ x) → k ≤ minimum a xs
unfolding minimum
minimum_bound a [] k h f = h
minimum_bound a (y ∷ ys) k h f =
    minimum_bound (min a y) ys k (omega (arith, f y (listed-head y ys))) (λ x e. f x (listed_tail x y ys e))

-- the largest likewise
pub maximum_start : (a : ℕ) (xs : List ℕ) → a ≤ maximum a xs
unfolding maximum
maximum_start a [] = le_refl _
maximum_start a (x ∷ xs) = omega (arith, maximum_start (max a x) xs)

pub maximum_member : (a : ℕ) (xs : List ℕ) (x : ℕ) → listed x xs ≡ true → x ≤ maximum a xs
unfolding maximum
maximum_member a [] x e = absurd (listed_none x e)
maximum_member a (y ∷ ys) x e = go (listed_cases x y ys e) (λ p. maximum_member (max a y) ys x p)
  where
    go : (y ≡ x) ⊎ (listed x ys ≡ true) → (listed x ys ≡ true → x ≤ maximum (max a y) ys) → x ≤ maximum (max a y) ys
    go (inl p) ih = omega (arith, maximum_start (max a y) ys)
    go (inr p) ih = ih p

pub maximum_bound :
    (a : ℕ) (xs : List ℕ) (k : ℕ) → a ≤ k → ((x : ℕ) → listed x xs ≡ true → x ≤ k) → maximum a xs ≤ k
unfolding maximum
maximum_bound a [] k h f = h
maximum_bound a (y ∷ ys) k h f =
    maximum_bound (max a y) ys k (omega (arith, f y (listed-head y ys))) (λ x e. f x (listed_tail x y ys e))

-- a number that `cons_unless` puts in front, or a member, is listed
cons_unless-head : (b : Bool) (x : ℕ) (ys : List ℕ) → b ≡ false → listed x (cons_unless b x ys) ≡ true
cons_unless-head true x ys e = absurd (false≢true (sym e))
cons_unless-head false x ys e = listed-head x ys

cons_unless_tail : (b : Bool) (x y : ℕ) (ys : List ℕ) → listed x ys ≡ true → listed x (cons_unless b y ys) ≡ true
cons_unless_tail true x y ys e = e
cons_unless_tail false x y ys e = listed_tail x y ys e

-- the txid of a taken slot is active
pub taken-active : (txids : List ℕ) (i : ℕ) → get_or txids i 0 ≢ 0 → listed (get_or txids i 0) (active txids) ≡ true
unfolding active
taken-active [] zero h = absurd (h refl)
taken-active [] (suc i) h = absurd (h refl)
taken-active (x ∷ xs) zero h = cons_unless-head (eqb x 0) x (active xs) (ne_eqb x 0 h)
taken-active (x ∷ xs) (suc i) h = cons_unless_tail (eqb x 0) (get_or xs i 0) x (active xs) (taken-active xs i h)

-- an active id stands in a slot, and is not 0
pub active-taken : (txids : List ℕ) (x : ℕ) → listed x (active txids) ≡ true → (i : ℕ) × (get_or txids i 0 ≡ x) × (x ≢ 0)
unfolding active
active-taken [] x e = absurd (listed_none x e)
active-taken (y ∷ ys) x e = go (eqb y 0) refl e (active-taken ys x)
  where
    further : (i : ℕ) × (get_or ys i 0 ≡ x) × (x ≢ 0) → (i : ℕ) × (get_or (y ∷ ys) i 0 ≡ x) × (x ≢ 0)
    further (i, p, q) = (suc i, p, q)

    go : (b : Bool) → eqb y 0 ≡ b → listed x (cons_unless b y (active ys)) ≡ true →
        (listed x (active ys) ≡ true → (i : ℕ) × (get_or ys i 0 ≡ x) × (x ≢ 0)) →
        (i : ℕ) × (get_or (y ∷ ys) i 0 ≡ x) × (x ≢ 0)
    go true p e ih = further (ih e)
    go false p e ih = here (listed_cases x y (active ys) e)
      where
        here : (y ≡ x) ⊎ (listed x (active ys) ≡ true) → (i : ℕ) × (get_or (y ∷ ys) i 0 ≡ x) × (x ≢ 0)
        here (inl q) = (0, q, λ z. eqb-false y 0 p (q ∙ z))
        here (inr q) = further (ih q)

-- the snapshot_xmin of a taken slot is retained
pub taken-retained :
    (txids xmins : List ℕ) (i : ℕ) → length txids ≡ length xmins → get_or txids i 0 ≢ 0 →
    listed (get_or xmins i 0) (retained txids xmins) ≡ true
unfolding retained
taken-retained [] xmins zero e h = absurd (h refl)
taken-retained [] xmins (suc i) e h = absurd (h refl)
taken-retained (x ∷ xs) [] i e h = absurd (suc-ne-zero _ e)
taken-retained (x ∷ xs) (m ∷ ms) zero e h = cons_unless-head (eqb x 0) m (retained xs ms) (ne_eqb x 0 h)
taken-retained (x ∷ xs) (m ∷ ms) (suc i) e h =
    cons_unless_tail (eqb x 0) (get_or ms i 0) m (retained xs ms) (taken-retained xs ms i (suc_inj e) h)

-- a pin retains what it holds, so that pins are scanned as slots are
pub retained_self : (xs : List ℕ) → retained xs xs ≡ active xs
unfolding retained active
retained_self [] = refl
retained_self (x ∷ xs) = ap (cons_unless (eqb x 0) x) (retained_self xs)

-- where every place is 0, none is active
pub none_active : (xs : List ℕ) → ((i : ℕ) → get_or xs i 0 ≡ 0) → active xs ≡ []
unfolding active
none_active [] f = refl
none_active (x ∷ xs) f = rw (eq-eqb x 0 (f 0)) (none_active xs (λ i. f (suc i)))

-- the lowest empty slot is empty (a place past the end reads 0), and those below it are taken
pub lowest_empty_lem : (txids : List ℕ) → get_or txids (lowest_empty txids) 0 ≡ 0
unfolding lowest_empty
lowest_empty_lem [] = refl
lowest_empty_lem (x ∷ xs) = go (eqb x 0) refl (lowest_empty_lem xs)
  where
    go : (b : Bool) → eqb x 0 ≡ b → get_or xs (lowest_empty xs) 0 ≡ 0 → get_or (x ∷ xs) (lowest_empty (x ∷ xs)) 0 ≡ 0
    go true e ih = rw e (eqb-true x 0 e)
    go false e ih = rw (e, add-one) ih

pub below_lowest : (txids : List ℕ) (i : ℕ) → i < lowest_empty txids → get_or txids i 0 ≢ 0
unfolding lowest_empty
below_lowest [] i h = absurd (not-suc-le-zero h)
below_lowest (x ∷ xs) i h = go (eqb x 0) refl i h (below_lowest xs)
  where
    go : (b : Bool) → eqb x 0 ≡ b → (i : ℕ) → i < lowest_empty (x ∷ xs) →
        ((j : ℕ) → j < lowest_empty xs → get_or xs j 0 ≢ 0) → get_or (x ∷ xs) i 0 ≢ 0
    go true e i h ih = absurd (not-suc-le-zero (rw e at h))
    go false e zero h ih = eqb-false x 0 e
    go false e (suc i) h ih =
        let k : suc i < lowest_empty xs + 1 = rw e at h in
        ih i (omega arith)

-- how many slots are taken: at most all, one more or less where one slot changes
abbrev pub taken_one : ℕ → ℕ
taken_one txid = cond (eqb txid 0) 0 1

active_cons : (x : ℕ) (xs : List ℕ) → length (active (x ∷ xs)) ≡ taken_one x + length (active xs)
unfolding active
active_cons x xs = go (eqb x 0)
  where
    go : (b : Bool) → length (cons_unless b x (active xs)) ≡ cond {A = ℕ} b 0 1 + length (active xs)
    go true = omega arith
    go false = omega arith

pub taken-empty : (x : ℕ) → x ≡ 0 → taken_one x ≡ 0
taken-empty x e = rw (eq-eqb x 0 e)

pub taken-one : (x : ℕ) → x ≢ 0 → taken_one x ≡ 1
taken-one x e = rw (ne_eqb x 0 e)

pub active-set :
    (txids : List ℕ) (i a : ℕ) → i < length txids →
    length (active (set txids i a)) + taken_one (get_or txids i 0) ≡ length (active txids) + taken_one a
active-set [] i a h = absurd (not-suc-le-zero h)
active-set (x ∷ xs) zero a h = omega (arith, active_cons x xs, active_cons a xs)
active-set (x ∷ xs) (suc i) a h =
    omega (arith, active_cons x xs, active_cons x (set xs i a), active-set xs i a (le_of_suc-le-suc h))

pub active-length : (txids : List ℕ) → length (active txids) ≤ length txids
unfolding active
active-length [] = le_refl _
active-length (x ∷ xs) = go (eqb x 0) (active-length xs)
  where
    go : (b : Bool) → length (active xs) ≤ length xs → length (cons_unless b x (active xs)) ≤ suc (length xs)
    go true ih = omega arith
    go false ih = omega arith

-- where all slots are empty: nobody is active, nobody retains, and nobody holds
pub active-zeros : (n : ℕ) → active (replicate n 0) ≡ []
unfolding active
active-zeros zero = refl
active-zeros (suc n) = active-zeros n

pub retained-zeros : (n : ℕ) (xmins : List ℕ) → retained (replicate n 0) xmins ≡ []
unfolding retained
retained-zeros zero xmins = refl
retained-zeros (suc n) [] = refl
retained-zeros (suc n) (xmin ∷ xmins) = retained-zeros n xmins

pub holder-zeros :
    (n slot : ℕ) (xmins : List ℕ) (x otherwise : ℕ) → holder_from slot (replicate n 0) xmins x otherwise ≡ otherwise
unfolding holder_from
holder-zeros zero slot xmins x otherwise = refl
holder-zeros (suc n) slot [] x otherwise = refl
holder-zeros (suc n) slot (xmin ∷ xmins) x otherwise = holder-zeros n (slot + 1) xmins x otherwise

-- the used places of n places are the ids
pub used_places : (n : ℕ) (ids : List ℕ) → take (length ids) (places n ids) ≡ ids
used_places n ids = take-append_seam ids (replicate (n - length ids) 0)
