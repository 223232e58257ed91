-- A shape as a verdict has the number of the shape.
use mathlib.Core.Path.{◌≡◌, refl, sym, ap, ◌∙◌}
use Rattle.std.specs.Prelude.{Ok}
use mathlib.Core.Bool.{Bool, true, false, cond}
use Prim.Native.Nat.{ℕ}
use lib.Dec.{eqb, ltb}
use Rattle.kinds.specs.declared.refusal.Refusal.{Refusal}
use Rattle.kinds.specs.declared.refusal.Refusal.TheVariants.{BadImage, NoRoom}
use Rattle.kinds.specs.Verdicts.{Verdict, Pass, Refuse, then, tells}
use Rattle.kinds.specs.Refusals.{told}
use Rattle.kinds.proofs.Unique.{told_positive}
use borrow.Author.Tests.{ne_eqb}
use Rattle.place.specs.Words.{size_of}
use Rattle.place.specs.Shapes.{head, shape_of, list_shape, shape_verdict, list_verdict}

pub shape_number : (n table out : ℕ) → (tells (shape_verdict n table out)).number ≡ shape_of n table out
unfolding shape_of shape_verdict
shape_number n table out = go (eqb table (size_of n)) (ltb out head)
  where
    go : (a b : Bool) → (tells (cond a (cond b (Refuse NoRoom) Pass) (Refuse BadImage))).number ≡ cond a (cond b (told NoRoom).number 0) (told BadImage).number
    go true true = refl
    go true false = refl
    go false b = refl

pub list_number : (n table out ids : ℕ) → (tells (list_verdict n table out ids)).number ≡ list_shape n table out ids
unfolding list_shape list_verdict
list_number n table out ids = rw (← shape_number n table out) (go (shape_verdict n table out) (ltb ids n))
  where
    go : (v : Verdict) (b : Bool) →
        (tells (then v (cond b (Refuse NoRoom) Pass))).number
        ≡ cond (eqb (tells v).number 0) (cond b (told NoRoom).number 0) (tells v).number
    go Pass true = refl
    go Pass false = refl
    go (Refuse r) b = rw (ne_eqb (told r).number 0 (told_positive r))

-- runs whose verdict passes have a shape of 0, and a refusal's number is the shape
pub list_fits :
    (n table out ids : ℕ) {v : Verdict} {r : Unit {0}} → v ≡ list_verdict n table out ids → v ≡ Ok r →
    list_shape n table out ids ≡ 0
list_fits n table out ids e p = sym (list_number n table out ids) ∙ ap (λ (v : Verdict). (tells v).number) (sym e ∙ p)

pub list_refused :
    (n table out ids : ℕ) {v : Verdict} {r : Refusal} → v ≡ list_verdict n table out ids → v ≡ Refuse r → {k : ℕ} →
    k ≡ (told r).number → k ≡ list_shape n table out ids
list_refused n table out ids e p k = k ∙ ap (λ (v : Verdict). (tells v).number) (sym p ∙ e) ∙ list_number n table out ids

-- .. and is not 0
pub not_zero : (r : Refusal) {k : ℕ} → k ≡ (told r).number → k ≡ 0 → ⊥
not_zero r e z = told_positive r (sym e ∙ z)
