-- An op as a number, and the op of a number.
use Rattle.std.specs.Prelude.{ℕ, cond, List, [], ◌∷◌, eqb}
use Rattle.trace.specs.Op.{ops}
use Rattle.trace.specs.declared.Op.{Op}
use Rattle.trace.specs.declared.Op.TheVariants.{Begin, End, Snap, Own, Oldest, Vacuum, Stamp, Finish, Pin, Unpin}
use Rattle.op_numbers.specs.OpNumbered.{OpNumbered, Is, Unknown}

-- from 1, in the order of SPEC 9.2
abbrev pub op_number : Op → ℕ
op_number Begin = 1
op_number End = 2
op_number Snap = 3
op_number Own = 4
op_number Oldest = 5
op_number Vacuum = 6
op_number Stamp = 7
op_number Finish = 8
op_number Pin = 9
op_number Unpin = 10

unfoldable pub try_number : ℕ → ℕ → Op → OpNumbered → OpNumbered
try_number n number o other = cond (eqb n number) (Is o) other

-- the first of some ops that has the number n
abbrev pub first_numbered : List Op → ℕ → OpNumbered
first_numbered [] n = Unknown
first_numbered (o ∷ os) n = try_number n (op_number o) o (first_numbered os n)

unfoldable pub op_numbered : ℕ → OpNumbered
op_numbered n = first_numbered ops n
