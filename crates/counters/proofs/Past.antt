-- Where a number was accepted the clock is past it by one.
use Prim.Native.Nat.{ℕ}
use mathlib.Core.Path.{◌≡◌, ap}
use native.Mathlib.Omega.{arith}
use Rattle.kinds.specs.declared.Stamp.{Stamp}
use Rattle.kinds.specs.Verdicts.{Pass}
use Rattle.model.specs.declared.Counters.{Counters}
use Rattle.model.specs.Tables.{counted}
use Rattle.model.specs.Changes.{past_number}
use Rattle.model.specs.Tests.{reservation_test}
use Rattle.model.proofs.Tests.{reserves}
use Rattle.counters.specs.Reserved.{reserved_from}

pub reserved-past :
    (clock : ℕ) (number : Stamp) (was : Counters) → reservation_test clock number ≡ Pass →
    reserved_from number was ≡ past_number number.0 was
reserved-past clock number was e =
    let r = reserves clock number e in
    ap (λ (k : ℕ). counted k was.sampled_clock was.vacuum_line) (omega arith)
