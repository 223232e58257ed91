-- A column that the library makes place by place is that of the run.
use Prim.Native.Nat.{ℕ, zero, suc, ◌+◌, ◌<◌, ◌≤◌}
use mathlib.Core.Path.{◌≡◌, ◌∙◌, sym, ap, subst}
use mathlib.Core.List.{List, map}
use native.Mathlib.Omega.{arith}
use lib.ListN.{length, get_or}
use denote.Param.Members.{Mut}
use Rattle.std.specs.Array.{IsFromFnResultFrom, IsFromFnResult}
use Rattle.std.specs.Fn.{Called}
use Rattle.std.proofs.Common.{⊎_elim}
use Rattle.std.proofs.Math.Nat.{eq-or-lt_of_le}
use Rattle.std.proofs.lemmas.List.{length-map, get_or-map}
use Rattle.std.proofs.lemmas.List.FromFn.{fill_by_all}

-- what a call answers at place k stands at place k
made : {F : Type 0} (g : Mut F (ℕ × Unit {0}) ℕ) (h : ℕ → ℕ) (f : F) (ys : List ℕ) (n : ℕ) →
    ((k y : ℕ) (q : F) → k < n → Called g f (k, tt) y q → (q ≡ f) × (y ≡ h k)) →
    (i m : ℕ) → i + m ≡ n → IsFromFnResultFrom g f ys i m → (k : ℕ) → i ≤ k → k < n → get_or ys k 0 ≡ h k
made g h f ys n calls i zero e r k b t = absurd (omega arith)
made g h f ys n calls i (suc m) e (q, y, here, call, rest) k b t =
    let (stays, is) = calls i y q (omega arith) call in
    let later = made g h f ys n calls (i + 1) m (omega arith) (subst (λ p. IsFromFnResultFrom g p ys (i + 1) m) stays rest) k in
    ⊎_elim (λ e. ap (λ j. get_or ys j 0) (sym e) ∙ here.1 0 ∙ is ∙ ap h e) (λ e. later (omega arith) t) (eq-or-lt_of_le b)

pub column_made : {F R : Type 0} (g : Mut F (ℕ × Unit {0}) ℕ) (f : F) (ys : List ℕ) (n : ℕ) (of : R → ℕ) (run : List R) (none : R) →
    length run ≡ n → IsFromFnResult g f ys n →
    ((k y : ℕ) (q : F) → k < n → Called g f (k, tt) y q → (q ≡ f) × (y ≡ of (get_or run k none))) → ys ≡ map of run
column_made g f ys n of run none size r calls =
    let at : ℕ → ℕ = λ k. of (get_or run k none) in
    fill_by_all at ys n 0 r.long (λ k b. made g at f ys n calls 0 n (omega arith) r.each k (omega arith) b)
    ∙ sym (fill_by_all at (map of run) n 0 (length-map run of ∙ size) (λ k b. get_or-map of run k none 0 (omega (arith, size, b))))
