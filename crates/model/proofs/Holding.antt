-- The holder over any columns: the lowest taken slot that retains a number, or none does; and the smallest of a number and a
-- list is one of them.
use Prim.Native.Nat.{ℕ, zero, suc, ◌+◌, ◌≤◌, ◌<◌, min}
use mathlib.Core.Path.{◌≡◌, refl, sym, ◌∙◌}
use mathlib.Core.Logic.{◌≢◌, ◌⊎◌, inl, inr}
use mathlib.Core.Bool.{Bool, true, false, not, ◌&&◌, cond, false≢true}
use mathlib.Core.List.{List, [], ◌∷◌}
use native.Mathlib.Decide.{dec_le}
use native.Mathlib.Nat.{not-suc-le-zero, le_of_suc-le-suc, suc_inj, suc-ne-zero}
use native.Mathlib.Omega.{arith}
use lib.Dec.{eqb}
use lib.ListN.{length, get_or}
use borrow.Author.Tests.{eqb-true, eqb-false, eq-eqb, ne_eqb}
use Rattle.listed.specs.Listed.{listed}
use Rattle.listed.proofs.Listed.{listed_none, listed-head, listed_tail, listed_cases}
use Rattle.model.specs.Tally.{cons_unless, retained, minimum, holds, holder_from}

-- a slot is a holder exactly if it is taken and retains x
holds-both : (a b : Bool) → (not a && b) ≡ true → (a ≡ false) × (b ≡ true)
holds-both true b e = absurd (false≢true e)
holds-both false b e = (refl, e)

not_held : (txid xmin x : ℕ) → holds txid xmin x ≡ false → txid ≢ 0 → xmin ≢ x
not_held txid xmin x e h q = false≢true (sym e ∙ rw (ne_eqb txid 0 h, eq-eqb xmin x q))

-- what is found of columns whose first slot has number `slot`: slot i of them, and none below it; or none
pub data Found (slot : ℕ) (txids xmins : List ℕ) (x otherwise answer : ℕ) : Type 0 where
  found :
      (i : ℕ) → answer ≡ slot + i → i < length txids → get_or txids i 0 ≢ 0 → get_or xmins i 0 ≡ x →
      ((j : ℕ) → j < i → get_or txids j 0 ≢ 0 → get_or xmins j 0 ≢ x) → Found slot txids xmins x otherwise answer
  nowhere :
      answer ≡ otherwise → ((j : ℕ) → get_or txids j 0 ≢ 0 → get_or xmins j 0 ≢ x) → Found slot txids xmins x otherwise answer

module _ (x otherwise : ℕ) where
  -- the first slot is none
  further :
      (slot txid xmin : ℕ) (txids xmins : List ℕ) {answer : ℕ} → holds txid xmin x ≡ false →
      Found (slot + 1) txids xmins x otherwise answer → Found slot (txid ∷ txids) (xmin ∷ xmins) x otherwise answer
  further slot txid xmin txids xmins e (found i p h t r low) = found (suc i) (omega arith) (omega arith) t r low'
    where
      low' : (j : ℕ) → j < suc i → get_or (txid ∷ txids) j 0 ≢ 0 → get_or (xmin ∷ xmins) j 0 ≢ x
      low' zero l = not_held txid xmin x e
      low' (suc j) l = low j (le_of_suc-le-suc l)
  further slot txid xmin txids xmins e (nowhere p none) = nowhere p none'
    where
      none' : (j : ℕ) → get_or (txid ∷ txids) j 0 ≢ 0 → get_or (xmin ∷ xmins) j 0 ≢ x
      none' zero = not_held txid xmin x e
      none' (suc j) = none j

  pub holder_found :
      (slot : ℕ) (txids xmins : List ℕ) → length txids ≡ length xmins →
      Found slot txids xmins x otherwise (holder_from slot txids xmins x otherwise)
  unfolding holder_from
  holder_found slot [] xmins e = nowhere refl (λ j h. absurd (h refl))
  holder_found slot (txid ∷ txids) [] e = absurd (suc-ne-zero _ e)
  holder_found slot (txid ∷ txids) (xmin ∷ xmins) e =
      go (holds txid xmin x) refl (holder_found (slot + 1) txids xmins (suc_inj e))
    where
      rest : ℕ
      rest = holder_from (slot + 1) txids xmins x otherwise

      go : (b : Bool) → holds txid xmin x ≡ b → Found (slot + 1) txids xmins x otherwise rest →
          Found slot (txid ∷ txids) (xmin ∷ xmins) x otherwise (cond b slot rest)
      go true q f =
          let p = holds-both (eqb txid 0) (eqb xmin x) q in
          found 0 (omega arith) (omega arith) (eqb-false txid 0 p.0) (eqb-true xmin x p.1)
          (λ j l. absurd (not-suc-le-zero l))
      go false q f = further slot txid xmin txids xmins q f

-- counting from a number further on tells numbers that are as much higher
pub holder_further :
    (by slot : ℕ) (txids xmins : List ℕ) (x otherwise : ℕ) →
    holder_from slot txids xmins x otherwise + by ≡ holder_from (slot + by) txids xmins x (otherwise + by)
unfolding holder_from
holder_further by slot [] xmins x otherwise = refl
holder_further by slot (txid ∷ txids) [] x otherwise = refl
holder_further by slot (txid ∷ txids) (xmin ∷ xmins) x otherwise =
    let next : slot + 1 + by ≡ slot + by + 1 = omega arith in
    go (holds txid xmin x) (rw next at (holder_further by (slot + 1) txids xmins x otherwise))
  where
    go :
        (b : Bool) →
        holder_from (slot + 1) txids xmins x otherwise + by ≡ holder_from (slot + by + 1) txids xmins x (otherwise + by) →
        cond b slot (holder_from (slot + 1) txids xmins x otherwise) + by
        ≡ cond b (slot + by) (holder_from (slot + by + 1) txids xmins x (otherwise + by))
    go true e = refl
    go false e = e

-- no number is told beyond the last one and what is answered otherwise
pub holder_bound : (xs : List ℕ) (x otherwise : ℕ) → holder_from 0 xs xs x otherwise ≤ length xs + otherwise
holder_bound xs x otherwise = go (holder_found x otherwise 0 xs xs refl)
  where
    go : Found 0 xs xs x otherwise (holder_from 0 xs xs x otherwise) → holder_from 0 xs xs x otherwise ≤ length xs + otherwise
    go (found i e l a b c) = omega arith
    go (nowhere e f) = omega arith

-- the smallest of a number and a list is the number, or listed
pub minimum_of : (a : ℕ) (xs : List ℕ) → (minimum a xs ≡ a) ⊎ (listed (minimum a xs) xs ≡ true)
unfolding minimum
minimum_of a [] = inl refl
minimum_of a (x ∷ xs) = go (minimum_of (min a x) xs)
  where
    first : Dec (a ≤ x) → minimum (min a x) xs ≡ min a x →
        (minimum (min a x) xs ≡ a) ⊎ (listed (minimum (min a x) xs) (x ∷ xs) ≡ true)
    first (yes h) e = inl (omega arith)
    first (no h) e = let p : minimum (min a x) xs ≡ x = omega arith in inr (rw p (listed-head x xs))

    go : (minimum (min a x) xs ≡ min a x) ⊎ (listed (minimum (min a x) xs) xs ≡ true) →
        (minimum (min a x) xs ≡ a) ⊎ (listed (minimum (min a x) xs) (x ∷ xs) ≡ true)
    go (inl e) = first (dec_le a x) e
    go (inr e) = inr (listed_tail _ x xs e)

-- a retained xmin is that of a taken slot
pub retained-taken :
    (txids xmins : List ℕ) (x : ℕ) → listed x (retained txids xmins) ≡ true →
    (i : ℕ) × (get_or txids i 0 ≢ 0) × (get_or xmins i 0 ≡ x)
unfolding retained
retained-taken [] xmins x e = absurd (listed_none x e)
retained-taken (txid ∷ txids) [] x e = absurd (listed_none x e)
retained-taken (txid ∷ txids) (xmin ∷ xmins) x e = go (eqb txid 0) refl e (retained-taken txids xmins x)
  where
    next : (i : ℕ) × (get_or txids i 0 ≢ 0) × (get_or xmins i 0 ≡ x) →
        (i : ℕ) × (get_or (txid ∷ txids) i 0 ≢ 0) × (get_or (xmin ∷ xmins) i 0 ≡ x)
    next (i, p, q) = (suc i, p, q)

    go : (b : Bool) → eqb txid 0 ≡ b → listed x (cons_unless b xmin (retained txids xmins)) ≡ true →
        (listed x (retained txids xmins) ≡ true → (i : ℕ) × (get_or txids i 0 ≢ 0) × (get_or xmins i 0 ≡ x)) →
        (i : ℕ) × (get_or (txid ∷ txids) i 0 ≢ 0) × (get_or (xmin ∷ xmins) i 0 ≡ x)
    go true p e ih = next (ih e)
    go false p e ih = here (listed_cases x xmin (retained txids xmins) e)
      where
        here : (xmin ≡ x) ⊎ (listed x (retained txids xmins) ≡ true) →
            (i : ℕ) × (get_or (txid ∷ txids) i 0 ≢ 0) × (get_or (xmin ∷ xmins) i 0 ≡ x)
        here (inl q) = (0, eqb-false txid 0 p, q)
        here (inr q) = next (ih q)
