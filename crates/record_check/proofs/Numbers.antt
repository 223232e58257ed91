-- How a column is gathered place by place.
use Rattle.std.proofs.Common.{◌≡◌, ◌∙◌, ap, sym, subst, ℕ, ◌+◌, ◌<◌, List, [], ◌∷◌, ◌++◌, length, map, take, get_or, slice_set}
use Rattle.std.proofs.lemmas.List.{take_more, take_more_set, length-map, get_or-map}

-- one more number is in place
pub grows : (target l : List ℕ) (i x : ℕ) → i < length l → i < length target → take i l ≡ take i target → x ≡ get_or target i 0
    → take (i + 1) (slice_set l i x) ≡ take (i + 1) target
grows target l i x inside there same is =
    take_more_set l i x inside ∙ ap (λ (p : List ℕ). p ++ (x ∷ [])) same ∙ ap (λ (y : ℕ). take i target ++ (y ∷ [])) is
    ∙ sym (take_more target i 0 there)

-- one more record's number is, in the column that f reads
pub gathers : {R : Type 0} (f : R → ℕ) (run : List R) (none : R) (l : List ℕ) (i : ℕ) (r : R) → i < length run → length l ≡ length run
    → take i l ≡ take i (map f run) → r ≡ get_or run i none → take (i + 1) (slice_set l i (f r)) ≡ take (i + 1) (map f run)
gathers f run none l i r inside long same is =
    grows (map f run) l i (f r) (subst (λ (n : ℕ). i < n) (sym long) inside) (subst (λ (n : ℕ). i < n) (sym (length-map run f)) inside)
    same (ap f is ∙ sym (get_or-map f run i none 0 inside))
