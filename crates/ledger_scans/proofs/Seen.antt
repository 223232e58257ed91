-- The numbers of a snapshot, as a walk up the slots has them: those of all slots are those of the slots left, taken up from the
-- present numbers. The xmax goes past each id in turn, where the model goes past the largest.
use Prim.Native.Nat.{ℕ, ◌+◌, ◌<◌, ◌≤◌, min, max}
use mathlib.Core.Path.{◌≡◌, refl, sym, ap, ◌∙◌}
use mathlib.Core.List.{List, [], ◌∷◌}
use native.Mathlib.Omega.{arith}
use lib.ListN.{length, drop, get_or}
use borrow.Author.Tests.{ne_eqb}
use Rattle.kinds.specs.Kinds.{saturating_next}
use Rattle.model.specs.Tally.{active, minimum, maximum, xmax_of}
use Rattle.ledger_scans.specs.declared.flight.Flight.{Flight}
use Rattle.ledger_scans.specs.Flight.{flight_of}
use Rattle.ledger_scans.proofs.Columns.{active_miss, active_hit, active_none}

unfoldable pub pasts : ℕ → List ℕ → ℕ
pasts a [] = a
pasts a (x ∷ xs) = pasts (max a (saturating_next x)) xs

next_larger : (m x : ℕ) → max (saturating_next m) (saturating_next x) ≡ saturating_next (max m x)
next_larger m x = omega arith

larger_last : (a p q : ℕ) → max (max a p) q ≡ max a (max p q)
larger_last a p q = omega arith

past_largest : (a m : ℕ) (xs : List ℕ) → pasts (max a (saturating_next m)) xs ≡ max a (saturating_next (maximum m xs))
unfolding pasts maximum
past_largest a m [] = refl
past_largest a m (x ∷ xs) =
    ap (λ (k : ℕ). pasts k xs)
    (larger_last a (saturating_next m) (saturating_next x) ∙ ap (max a) (next_larger m x))
    ∙ past_largest a (max m x) xs

xmax_is : (sample : ℕ) (ids : List ℕ) → xmax_of sample ids ≡ pasts sample ids
unfolding pasts maximum
xmax_is sample [] = refl
xmax_is sample (x ∷ xs) =
    let e : x ≡ max 0 x = omega arith in
    rw (ne_eqb (length (x ∷ xs)) 0 (λ z. omega arith))
    (sym (ap (λ (k : ℕ). pasts (max sample (saturating_next k)) xs) e ∙ past_largest sample (max 0 x) xs))

-- before slot i
pub record Seen (txids : List ℕ) (sample : ℕ) (flight : Flight) (i : ℕ) : Type 0 where
  pub within : i ≤ length txids
  pub fewer : flight.count ≤ i
  pub counted : length (active txids) ≡ flight.count + length (active (drop i txids))
  pub lowest : minimum sample (active txids) ≡ minimum flight.xmin (active (drop i txids))
  pub highest : pasts sample (active txids) ≡ pasts flight.xmax (active (drop i txids))

module _ {txids : List ℕ} {sample : ℕ} where
  pub seen_none : Seen txids sample (record { xmin = sample; xmax = sample; count = 0 }) 0
  seen_none = record { within = omega arith; fewer = omega arith; counted = omega arith; lowest = refl; highest = refl }

  module _ {flight : Flight} {i : ℕ} (s : Seen txids sample flight i) (h : i < length txids) where
    pub seen-empty : get_or txids i 0 ≡ 0 → Seen txids sample flight (i + 1)
    seen-empty e =
        let m = active_miss txids i h e in
        record {
          within = omega arith;
          fewer = omega arith;
          counted = rw m at s.counted;
          lowest = rw m at s.lowest;
          highest = rw m at s.highest;
        }

    pub seen-taken :
        {low past high : ℕ} → (get_or txids i 0 ≡ 0 → ⊥) → low ≡ min flight.xmin (get_or txids i 0) →
        past ≡ saturating_next (get_or txids i 0) → high ≡ max flight.xmax past →
        Seen txids sample (record { xmin = low; xmax = high; count = flight.count + 1 }) (i + 1)
    unfolding minimum pasts
    seen-taken e l p g =
        let m = active_hit txids i h e in
        record {
          within = omega arith;
          fewer = omega arith;
          counted = omega (arith, ap length m, s.counted);
          lowest = rw l (rw m at s.lowest);
          highest = rw (g, p) (rw m at s.highest);
        }

  pub seen_all : {flight : Flight} {i : ℕ} → Seen txids sample flight i → length txids ≤ i → flight ≡ flight_of txids sample
  unfolding flight_of minimum pasts
  seen_all {flight} {i} s h =
      let none = active_none txids i h in
      let n : flight.count ≡ length (active txids) = omega (arith, ap length none, s.counted) in
      let l : flight.xmin ≡ minimum sample (active txids) = sym (s.lowest ∙ ap (minimum flight.xmin) none) in
      let g : flight.xmax ≡ xmax_of sample (active txids) = sym (xmax_is sample (active txids) ∙ s.highest ∙ ap (pasts flight.xmax) none) in
      λ k. record { xmin = l k; xmax = g k; count = n k }
