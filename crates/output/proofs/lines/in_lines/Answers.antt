use Prim.Native.Nat.{◌≤◌}
use mathlib.Core.Path.{sym, ap, ◌∙◌}
use mathlib.Core.List.{map, [], ◌∷◌}
use native.Mathlib.Omega.{arith}
use lib.ListN.{length, length-take}
use Rattle.std.proofs.lemmas.List.{length_push, map-append}
use Rattle.std.proofs.lemmas.Iterator.{YieldsList-from_slice, YieldsList-from_take}
use Rattle.std.proofs.lemmas.Iterator.Consumers.{YieldsList-turn, YieldsList-end}
use Rattle.output.specs.Output.{in_lines}
use Rattle.output.proofs.Wrote.{wrote_none, wrote_then, wrote_at-most, wrote_same, in_lines_push}
use Rattle.output.proofs.lines.in_lines.Goals as goal

pub loop-id-init : goal.loop-id-init
unfolding in_lines
loop-id-init c = wrote_none _ _

pub line-past-requires : goal.line-past-requires
line-past-requires c =
    let l = c.loop-id in
    let a = c.args in
    let ids = YieldsList-from_take a.count (YieldsList-from_slice a.ids.now cc) cc in
    let turn = YieldsList-turn ids l.yielded _ l.yielded_by _ _ c.in-Some.field-0 c.in-Some.is c.next.ensures.steps in
    omega (arith, l.invariant.size, l.invariant.short, c.requires, turn.0, length-take a.count a.ids.now)

pub loop-id-preserved : goal.loop-id-preserved
loop-id-preserved c =
    let l = c.loop-id in
    let id = c.in-Some.field-0 in
    let start : c.args.at ≤ length c.args.buf.now = omega (arith, c.requires) in
    let both = wrote_then start l.invariant c.line-past.ensures in
    let more = map-append (λ x. x.now) l.yielded (id ∷ []) in
    wrote_at-most (omega (arith, length_push l.yielded id))
    (wrote_same (sym (ap in_lines more ∙ in_lines_push (map (λ x. x.now) l.yielded) id.now)) both)

pub returns : goal.returns
returns c =
    let l = c.loop-id in
    let a = c.args in
    let ids = YieldsList-from_take a.count (YieldsList-from_slice a.ids.now cc) cc in
    let end = YieldsList-end ids l.yielded _ l.yielded_by _ _ c.in-None.is c.next.ensures.steps in
    wrote_at-most (omega (arith, end.1, length-take a.count a.ids.now)) (wrote_same (ap in_lines end.0) l.invariant)
