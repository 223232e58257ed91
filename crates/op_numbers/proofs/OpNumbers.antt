-- An op has one number and a number at most one op.
use Prim.Native.Nat.{ℕ}
use native.Mathlib.Omega.{arith}
use mathlib.Core.Path.{◌≡◌, refl}
use mathlib.Core.List.{List, [], ◌∷◌}
use mathlib.Core.Bool.{Bool, true, false, cond}
use lib.Dec.{eqb}
use borrow.Author.Tests.{eqb-true}
use Rattle.trace.specs.Op.{ops}
use Rattle.trace.specs.declared.Op.{Op}
use Rattle.trace.specs.declared.Op.TheVariants.{Begin, End, Snap, Own, Oldest, Vacuum, Stamp, Finish, Pin, Unpin}
use Rattle.op_numbers.specs.Numbers.{op_number, try_number, first_numbered, op_numbered}
use Rattle.op_numbers.specs.OpNumbered.{Is, Unknown}

-- the number of an op names that op
pub op_of_number : (o : Op) → op_numbered (op_number o) ≡ Is o
unfolding op_numbered try_number
op_of_number Begin = refl
op_of_number End = refl
op_of_number Snap = refl
op_of_number Own = refl
op_of_number Oldest = refl
op_of_number Vacuum = refl
op_of_number Stamp = refl
op_of_number Finish = refl
op_of_number Pin = refl
op_of_number Unpin = refl

pub no_op : (o : Op) → Unknown ≡ Is o → ⊥
no_op o h = let z : ◌≡◌ {A = ℕ} 0 1 = cc in omega arith

-- and a number that names an op is that op's
pub number_of_op : (n : ℕ) (o : Op) → op_numbered n ≡ Is o → op_number o ≡ n
unfolding op_numbered
number_of_op n o = go ops
  where
    go : (os : List Op) → first_numbered os n ≡ Is o → op_number o ≡ n
    go [] h = absurd (no_op o h)
    go (p ∷ os) h = by (eqb n (op_number p)) refl (go os) (unfold try_number in h)
      where
        by : (b : Bool) → eqb n (op_number p) ≡ b → (first_numbered os n ≡ Is o → op_number o ≡ n)
            → cond b (Is p) (first_numbered os n) ≡ Is o → op_number o ≡ n
        by false q ih h = ih h
        by true q ih h =
            let same : p ≡ o = cc in
            rw (← same) (let e = eqb-true n (op_number p) q in cc)

-- zeros name none
pub zero_unknown : op_numbered 0 ≡ Unknown
unfolding op_numbered try_number
zero_unknown = refl
