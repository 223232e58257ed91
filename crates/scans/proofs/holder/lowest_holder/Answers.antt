-- A turn is passed over where no slot of it retains the xmin (`holder_step`, `none_retains`); what the library finds in a turn, and in the
-- slots that are left, is the holder (`holder_rest`).
use Rattle.std.proofs.Common.{◌≡◌, ◌∙◌, ◌*◌, sym, arith, drop, length}
use Rattle.std.proofs.lemmas.List.{take_rest}
use Rattle.scans.proofs.Slots.{holder_start, holder_step, holder_rest, none_retains}
use Rattle.scans.proofs.holder.lowest_holder.Goals as goal

pub loop-turn-init : goal.loop-turn-init
loop-turn-init c = holder_start _ _ _ _ _ c.shorter-end.ensures

pub loop-turn-preserved-then-not-holds : goal.loop-turn-preserved-then-not-holds
loop-turn-preserved-then-not-holds c =
    let a = c.args in
    let j = c.loop-turn.turn in
    let step = holder_step a.xmin a.otherwise a.txids.now a.xmins.now _ c.shorter-end.ensures 8 _ c.as_chunks.ensures.front j (omega arith) in
    let none = none_retains a.xmin (drop (8 * j) a.txids.now) _ (sym c.holds.ensures ∙ c.if-not-holds.true) in
    c.loop-turn.invariant ∙ rw none at step

pub loop-turn-preserved : goal.loop-turn-preserved
loop-turn-preserved c =
    let a = c.args in
    let step = holder_step a.xmin a.otherwise a.txids.now a.xmins.now _ c.shorter-end.ensures 8 _ c.as_chunks.ensures.front c.loop-turn.turn (omega arith) in
    let none = rw take_rest at (sym c.holder_among.ensures.found ∙ c.in_default.is) in
    c.loop-turn.invariant ∙ rw none at step

pub returns-in-loop-turn : goal.returns-in-loop-turn
returns-in-loop-turn c =
    let a = c.args in
    let step = holder_step a.xmin a.otherwise a.txids.now a.xmins.now _ c.shorter-end.ensures 8 _ c.as_chunks.ensures.front c.loop-turn.turn (omega arith) in
    let some = rw take_rest at (sym c.holder_among.ensures.found ∙ c.in-Some.is) in
    sym (c.loop-turn.invariant ∙ rw some at step)

pub returns-in-Some-holder_among : goal.returns-in-Some-holder_among
returns-in-Some-holder_among c =
    let a = c.args in
    let over : c.loop-turn.turn ≡ length c.as_chunks.result.0.now = omega arith in
    let rest = holder_rest a.xmin a.otherwise a.txids.now a.xmins.now _ c.shorter-end.ensures 8 _ c.as_chunks.ensures.front _ c.as_chunks.ensures.back in
    let some = rw take_rest at (sym c.holder_among-2.ensures.found ∙ c.in-Some-holder_among.is) in
    sym (rw over at c.loop-turn.invariant ∙ rw some at rest)

pub returns-in-None : goal.returns-in-None
returns-in-None c =
    let a = c.args in
    let over : c.loop-turn.turn ≡ length c.as_chunks.result.0.now = omega arith in
    let rest = holder_rest a.xmin a.otherwise a.txids.now a.xmins.now _ c.shorter-end.ensures 8 _ c.as_chunks.ensures.front _ c.as_chunks.ensures.back in
    let none = rw take_rest at (sym c.holder_among-2.ensures.found ∙ c.in-None.is) in
    sym (rw over at c.loop-turn.invariant ∙ rw none at rest)
