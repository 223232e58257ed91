-- Upstream's tallies, which read the slots from the last one back, are ours, which read them from the first one on.
-- Over any number of slots.
use Prim.Native.Nat.{ℕ, zero, suc, min, max}
use mathlib.Core.Path.{◌≡◌, refl, ap, ◌∙◌}
use mathlib.Core.Bool.{Bool, true, false, cond}
use mathlib.Core.List.{List, [], ◌∷◌}
use native.Mathlib.Nat.{suc-ne-zero, suc_inj}
use native.Mathlib.Omega.{arith}
use lib.Dec.{eqb, ltb}
use lib.ListN.{length}
use borrow.Author.Tests.{ltb-true, ltb-false, eqb-true}
use Rattle.model.specs.Tally.{cons_unless, active as ours, retained, minimum, maximum}
use Rattle.upstream.specs.States.{Slot, slot, at, pairs}
use Rattle.upstream.specs.Tallies.{pushed, lowered, raised, active, minimum_active, maximum_active, minimum_retention}

-- the conditionals are min and max
lower_min : (x m : ℕ) → cond (ltb x m) x m ≡ min m x
lower_min x m = go (ltb x m) refl
  where
    go : (b : Bool) → ltb x m ≡ b → cond b x m ≡ min m x
    go true e = let h = ltb-true x m e in omega arith
    go false e = let h = ltb-false x m e in omega arith

raise_max : (x m : ℕ) → raised x m ≡ max x m
raise_max x m = go (ltb m x) refl
  where
    go : (b : Bool) → ltb m x ≡ b → cond b x m ≡ max x m
    go true e = let h = ltb-true m x e in omega arith
    go false e = let h = ltb-false m x e in omega arith

-- upstream's tallies by the first slot
push-cons_unless : (a b : Bool) (x y : ℕ) (l : List ℕ) → pushed a x (cons_unless b y l) ≡ cons_unless b y (pushed a x l)
push-cons_unless true b x y l = refl
push-cons_unless false true x y l = refl
push-cons_unless false false x y l = refl

pushed_none : (b : Bool) (x : ℕ) → pushed b x [] ≡ cons_unless b x []
pushed_none true x = refl
pushed_none false x = refl

active-first :
    (s : Slot) (ss : List Slot) (n : ℕ) → active (s ∷ ss) (suc n) ≡ cons_unless (eqb s.txid 0) s.txid (active ss n)
unfolding active
active-first s ss zero = pushed_none (eqb s.txid 0) s.txid
active-first s ss (suc n) =
    ap (pushed (eqb (at ss n).txid 0) (at ss n).txid) (active-first s ss n)
    ∙ push-cons_unless (eqb (at ss n).txid 0) (eqb s.txid 0) (at ss n).txid s.txid (active ss n)

minimum-first :
    (s : Slot) (ss : List Slot) (n c : ℕ) → minimum_active (s ∷ ss) (suc n) c
    ≡ minimum_active ss n (lowered (eqb s.txid 0) s.txid c)
unfolding minimum_active
minimum-first s ss zero c = refl
minimum-first s ss (suc n) c =
    ap (lowered (eqb (at ss n).txid 0) (at ss n).txid) (minimum-first s ss n c)

retention_first :
    (s : Slot) (ss : List Slot) (n c : ℕ) → minimum_retention (s ∷ ss) (suc n) c
    ≡ minimum_retention ss n (lowered (eqb s.txid 0) s.snapshot_xmin c)
unfolding minimum_retention
retention_first s ss zero c = refl
retention_first s ss (suc n) c =
    ap (lowered (eqb (at ss n).txid 0) (at ss n).snapshot_xmin) (retention_first s ss n c)

maximum-first : (s : Slot) (ss : List Slot) (n : ℕ) → maximum_active (s ∷ ss) (suc n) ≡ max s.txid (maximum_active ss n)
unfolding maximum_active
maximum-first s ss zero = raise_max s.txid 0
maximum-first s ss (suc n) =
    let e = maximum-first s ss n in
    let p = raise_max (at ss n).txid (maximum_active (s ∷ ss) (suc n)) in
    let q = raise_max (at ss n).txid (maximum_active ss n) in
    omega arith

-- and so they are ours
pub active_same : (xs ys : List ℕ) → length xs ≡ length ys → active (pairs xs ys) (length xs) ≡ ours xs
unfolding active ours
active_same [] ys e = refl
active_same (x ∷ xs) [] e = absurd (suc-ne-zero _ e)
active_same (x ∷ xs) (y ∷ ys) e =
    active-first (slot x y) (pairs xs ys) (length xs) ∙ ap (cons_unless (eqb x 0) x) (active_same xs ys (suc_inj e))

-- the ceiling lowered by one slot is the least of both
lowered_same : (b : Bool) (x c : ℕ) (l : List ℕ) → minimum (lowered b x c) l ≡ minimum c (cons_unless b x l)
unfolding minimum
lowered_same true x c l = refl
lowered_same false x c l = ap (λ (k : ℕ). minimum k l) (lower_min x c)

pub minimum_same :
    (xs ys : List ℕ) (c : ℕ) → length xs ≡ length ys → minimum_active (pairs xs ys) (length xs) c ≡ minimum c (ours xs)
unfolding minimum_active ours minimum
minimum_same [] ys c e = refl
minimum_same (x ∷ xs) [] c e = absurd (suc-ne-zero _ e)
minimum_same (x ∷ xs) (y ∷ ys) c e =
    minimum-first (slot x y) (pairs xs ys) (length xs) c
    ∙ minimum_same xs ys (lowered (eqb x 0) x c) (suc_inj e)
    ∙ lowered_same (eqb x 0) x c (ours xs)

pub retention_same :
    (xs ys : List ℕ) (c : ℕ) → length xs ≡ length ys → minimum_retention (pairs xs ys) (length xs) c
    ≡ minimum c (retained xs ys)
unfolding minimum_retention retained minimum
retention_same [] ys c e = refl
retention_same (x ∷ xs) [] c e = absurd (suc-ne-zero _ e)
retention_same (x ∷ xs) (y ∷ ys) c e =
    retention_first (slot x y) (pairs xs ys) (length xs) c
    ∙ retention_same xs ys (lowered (eqb x 0) y c) (suc_inj e)
    ∙ lowered_same (eqb x 0) y c (retained xs ys)

-- the largest, taken on from a number
maximum-from : (a : ℕ) (l : List ℕ) → maximum a l ≡ max a (maximum 0 l)
unfolding maximum
maximum-from a [] = omega arith
maximum-from a (x ∷ l) = let p = maximum-from (max a x) l in let q = maximum-from (max 0 x) l in omega arith

raised_same : (x : ℕ) (l : List ℕ) → max x (maximum 0 l) ≡ maximum 0 (cons_unless (eqb x 0) x l)
unfolding maximum
raised_same x l = go (eqb x 0) refl
  where
    go : (b : Bool) → eqb x 0 ≡ b → max x (maximum 0 l) ≡ maximum 0 (cons_unless b x l)
    go true e = let z = eqb-true x 0 e in omega arith
    go false e = let p = maximum-from (max 0 x) l in omega arith

pub maximum_same :
    (xs ys : List ℕ) → length xs ≡ length ys → maximum_active (pairs xs ys) (length xs) ≡ maximum 0 (ours xs)
unfolding maximum_active ours maximum
maximum_same [] ys e = refl
maximum_same (x ∷ xs) [] e = absurd (suc-ne-zero _ e)
maximum_same (x ∷ xs) (y ∷ ys) e =
    maximum-first (slot x y) (pairs xs ys) (length xs)
    ∙ ap (max x) (maximum_same xs ys (suc_inj e))
    ∙ raised_same x (ours xs)
