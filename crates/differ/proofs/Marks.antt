-- Marks that say which ids may stand later: every taken id of a list has set the one of k that its lowest digits name. A search
-- goes from the last place on, so place i - 1 comes after place i.
use Prim.Native.Nat.{ℕ, zero, suc, ◌+◌, ◌-◌, ◌%◌, ◌<◌, ◌≤◌}
use mathlib.Core.Path.{◌≡◌, refl, sym, ap, ◌∙◌}
use mathlib.Core.Logic.{◌≢◌}
use Rattle.std.proofs.Common.{⊎_elim}
use Rattle.std.proofs.lemmas.Bool.{false_from_ne_true}
use Rattle.std.proofs.lemmas.Grind.{common_steps}
use mathlib.Core.List.{List, [], ◌∷◌}
use mathlib.Core.Bool.{Bool, true, false, ◌||◌, not, false≢true, and-false}
use native.Mathlib.Omega.{arith}
use lib.Dec.{eqb}
use lib.ListN.{length, take, drop, get_or, set, drop_of_length-le, length-drop, length-set}
use lib.Seq.{get_or-set_same, take_all}
use borrow.Author.Tests.{ne_eqb}
use Rattle.std.specs.List.{list_any}
use Rattle.kinds.proofs.Lists.{from}
use Rattle.listed.specs.Listed.{listed}
use Rattle.listed.proofs.Listed.{listed_none, listed_cases}
use Rattle.model.specs.Check.{differ}

-- from place i on the taken txids differ, and each has set its mark
pub record Seen (k : ℕ) (marks : List Bool) (l : List ℕ) (i : ℕ) : Type 0 where
  pub size : length marks ≡ k
  pub apart : differ (drop i l) ≡ true
  pub marked : (x : ℕ) → x ≢ 0 → listed x (drop i l) ≡ true → get_or marks (x % k) false ≡ true

pub seen_none : (k : ℕ) (marks : List Bool) (l : List ℕ) → length marks ≡ k → Seen k marks l (length l)
unfolding differ
seen_none k marks l h =
    let none : drop (length l) l ≡ [] = drop_of_length-le l (omega arith) in
    record { size = h; apart = rw none; marked = λ x z e. absurd (listed_none x (rw none at e)) }

-- what is found by comparing is what is listed
listed_any : (x : ℕ) (l : List ℕ) → list_any (λ y. eqb y x) l ≡ listed x l
unfolding listed
listed_any x [] = refl
listed_any x (y ∷ l) = ap (λ b. eqb y x || b) (listed_any x l)

-- what differs nowhere differs nowhere later
differ_part : (l : List ℕ) (i : ℕ) → differ (drop i l) ≡ false → differ l ≡ false
unfolding differ
differ_part l zero e = e
differ_part [] (suc i) e = e
differ_part (x ∷ l) (suc i) e = rw (differ_part l i e) (and-false (eqb x 0 || not (listed x l)))

module _ {k : ℕ} {marks : List Bool} {l : List ℕ} {i : ℕ} (s : Seen k marks l i) (h : 0 < i) (b : i ≤ length l) where
  abbrev pub here : ℕ
  here = get_or l (i - 1) 0

  inside : i - 1 < length l
  inside = omega (arith, h, b)

  front : drop (i - 1) l ≡ here ∷ drop i l
  front = let next : i - 1 + 1 ≡ i = omega (arith, h) in rw next at (from l (i - 1) inside)

  -- an empty slot
  pub seen-empty : here ≡ 0 → Seen k marks l (i - 1)
  unfolding differ
  seen-empty e = record {
    size = s.size;
    apart = rw (front, e) s.apart;
    marked = λ x z q. ⊎_elim (λ p. absurd (z (sym p ∙ e))) (s.marked x z) (listed_cases x here (drop i l) (rw front at q));
  }

  -- a taken one whose id stands nowhere later
  pub seen_once :
      0 < k → here ≢ 0 → listed here (drop i l) ≡ false → Seen k (set marks (here % k) true) l (i - 1)
  unfolding differ
  seen_once pos e n = record {
    size = length-set marks (here % k) true ∙ s.size;
    apart = rw (front, ne_eqb _ _ e, n) s.apart;
    marked = λ x z q. ⊎_elim
        (λ p. ap (λ y. get_or (set marks (here % k) true) (y % k) false) (sym p) ∙ get_or-set_same marks (here % k) true false (omega (arith, s.size)))
        (λ p. let m = s.marked x z p in grind (arith, common_steps))
        (listed_cases x here (drop i l) (rw front at q));
  }

  pub seen_twice : here ≢ 0 → listed here (drop i l) ≡ true → differ l ≡ false
  unfolding differ
  seen_twice e n = differ_part l (i - 1) (rw (front, ne_eqb _ _ e, n) refl)

  -- nothing stands later whose mark no one has set
  pub unmarked : here ≢ 0 → get_or marks (here % k) false ≡ false → listed here (drop i l) ≡ false
  unmarked e m = false_from_ne_true (listed here (drop i l)) (λ p. false≢true (sym m ∙ s.marked here e p))

  -- the later places, as the library searches them
  pub searched : list_any (λ y. eqb y here) (take (length l - (i - 1 + 1)) (drop (i - 1 + 1) l)) ≡ listed here (drop i l)
  searched =
      let next : i - 1 + 1 ≡ i = omega (arith, h) in
      rw (next, take_all (length l - i) (drop i l) (omega (arith, length-drop i l))) (listed_any here (drop i l))
