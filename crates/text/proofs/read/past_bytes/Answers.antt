-- `past_bytes` meets its contract: a key that stands at `at` ends within the text.
use Prim.Native.Nat.{◌-◌, ◌^◌}
use mathlib.Core.Path.{sym, ◌∙◌}
use native.Mathlib.Omega.{arith}
use Rattle.text.proofs.Bytes.{starts_within}
use Rattle.text.proofs.read.past_bytes.Goals as goal

pub overflow_add-result : goal.overflow_add-result
overflow_add-result c =
    let a = c.args in
    let there = sym c.bytes_at.ensures ∙ c.if-bytes_at.true in
    omega (arith, starts_within a.key.now a.s.now a.at (2 ^ 64 - 1) (omega arith) (omega arith) there)
