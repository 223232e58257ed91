-- At most one outcome fits what a replay into a buffer promises: both fields of `IntoFits` are equations (specs/Into.antt).
use Prim.Native.Nat.{ℕ}
use mathlib.Core.Path.{◌≡◌, sym, ◌∙◌}
use mathlib.Core.List.{List}
use Rattle.replay.specs.Replayed.{Replayed}
use Rattle.replay.specs.Into.{IntoFits}

pub into_unique :
    {n : ℕ} {s xs ys zs : List ℕ} {q r : Replayed} → IntoFits n s xs ys q → IntoFits n s xs zs r → (q ≡ r) × (ys ≡ zs)
into_unique f g = (f.says ∙ sym g.says, f.text ∙ sym g.text)
