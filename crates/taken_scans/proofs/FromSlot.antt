-- A scan that goes by places: what is still to be found from one slot on is found so far, or from a later slot on. Eight empty slots
-- are passed over whole. The scans go by turns now (Scan.antt); these laws say the same of any two places.
use mathlib.Core.Path.{◌≡◌, refl, sym, ap, ◌∙◌}
use mathlib.Core.Bool.{Bool, true, false, ◌&&◌}
use mathlib.Core.List.{List}
use Prim.Native.Nat.{ℕ, ◌+◌, ◌<◌, ◌≤◌, min}
use native.Mathlib.Omega.{arith}
use lib.ListN.{length, take, drop, get_or, length-take}
use lib.Seq.{sets, get_or-take}
use lib.Dec.{eqb}
use borrow.Author.Tests.{eq-eqb, eqb-true}
use Rattle.kinds.proofs.Lists.{from}
use Rattle.model.specs.Tally.{active, minimum, maximum}

-- what holds of two places, and of eight
abbrev pub both : (ℕ → Bool) → ℕ → Bool
both p i = p i && p (i + 1)

abbrev pub eight : (ℕ → Bool) → ℕ → Bool
eight p i = (both p i && both p (i + 2)) && (both p (i + 4) && both p (i + 6))

abbrev pub all_empty : List ℕ → ℕ → Bool
all_empty txids = eight (λ k. eqb (get_or txids k 0) 0)

left : (a b : Bool) → a && b ≡ true → a ≡ true
left true b e = refl
left false b e = e

right : (a b : Bool) → a && b ≡ true → b ≡ true
right true b e = e
right false true e = refl
right false false e = e

-- rest is what is left to do from a place on; one place where p holds adds nothing to it
module _
    {A : Type 0} (rest : ℕ → A) (p : ℕ → Bool) (end : ℕ) (past_one : (j : ℕ) → j < end → p j ≡ true → rest j ≡ rest (j + 1))
  where
    past_two : (j k : ℕ) → k ≡ j + 2 → k ≤ end → both p j ≡ true → rest j ≡ rest k
    past_two j k q h e =
        let last : j + 1 + 1 ≡ k = omega (arith, q) in
        past_one j (omega (arith, q, h)) (left (p j) (p (j + 1)) e)
        ∙ past_one (j + 1) (omega (arith, q, h)) (right (p j) (p (j + 1)) e)
        ∙ ap rest last

    pub past-eight : (i : ℕ) → i + 8 ≤ end → eight p i ≡ true → rest i ≡ rest (i + 8)
    past-eight i h e =
        let a = both p i in
        let b = both p (i + 2) in
        let c = both p (i + 4) in
        let d = both p (i + 6) in
        let low = left (a && b) (c && d) e in
        let high = right (a && b) (c && d) e in
        past_two i (i + 2) (omega arith) (omega (arith, h)) (left a b low)
        ∙ past_two (i + 2) (i + 4) (omega arith) (omega (arith, h)) (right a b low)
        ∙ past_two (i + 4) (i + 6) (omega arith) (omega (arith, h)) (left c d high)
        ∙ past_two (i + 6) (i + 8) (omega arith) (omega (arith, h)) (right c d high)

empty_passed : (txids : List ℕ) (i : ℕ) → i < length txids → get_or txids i 0 ≡ 0 → active (drop i txids) ≡ active (drop (i + 1) txids)
unfolding active
empty_passed txids i h e = rw (from txids i h, eq-eqb _ _ e)

-- from one place of a scan to another: what is still to be found from the former on is found so far, or from the latter on
pub record Scanned
    (txids start : List ℕ) (count₀ low₀ high₀ i₀ : ℕ) (ids : List ℕ) (count low high i : ℕ) : Type 0
  where
    pub within : i ≤ length txids
    pub fewer : count ≤ i
    pub filled : sets start count₀ (active (drop i₀ txids)) ≡ sets ids count (active (drop i txids))
    pub counted : count₀ + length (active (drop i₀ txids)) ≡ count + length (active (drop i txids))
    pub lowest : minimum low₀ (active (drop i₀ txids)) ≡ minimum low (active (drop i txids))
    pub highest : maximum high₀ (active (drop i₀ txids)) ≡ maximum high (active (drop i txids))

module _ {txids start : List ℕ} {count₀ low₀ high₀ i₀ : ℕ} where
  module _ {ids : List ℕ} {count low high i : ℕ} (s : Scanned txids start count₀ low₀ high₀ i₀ ids count low high i) where
    -- over slots that add no active id
    pub scanned_on :
        {j : ℕ} → i ≤ j → j ≤ length txids → active (drop i txids) ≡ active (drop j txids) →
        Scanned txids start count₀ low₀ high₀ i₀ ids count low high j
    scanned_on h l m =
        record {
          within = l;
          fewer = omega (arith, s.fewer, h);
          filled = rw m at s.filled;
          counted = rw m at s.counted;
          lowest = rw m at s.lowest;
          highest = rw m at s.highest;
        }

-- a scan of at most k slots, where k is the number of places
module _
    (k : ℕ) (txids : List ℕ) {start ids : List ℕ} {count₀ low₀ high₀ i₀ count low high i end : ℕ}
    (s : Scanned (take k txids) start count₀ low₀ high₀ i₀ ids count low high i) (bound : end ≡ min k (length txids))
  where
    short : length (take k txids) ≡ end
    short = length-take k txids ∙ sym bound

    pub scanned_eight :
        i + 8 ≤ end → all_empty txids i ≡ true →
        Scanned (take k txids) start count₀ low₀ high₀ i₀ ids count low high (i + 8)
    scanned_eight h e =
        let first = take k txids in
        let past : (j : ℕ) → j < end → eqb (get_or txids j 0) 0 ≡ true → active (drop j first) ≡ active (drop (j + 1) first) =
        λ j l q. empty_passed first j (omega (arith, short, l))
        (get_or-take k txids j 0 (omega (arith, bound, l)) ∙ eqb-true (get_or txids j 0) 0 q) in
        scanned_on s (omega arith) (omega (arith, short, h))
        (past-eight (λ j. active (drop j first)) (λ m. eqb (get_or txids m 0) 0) end past i h e)
