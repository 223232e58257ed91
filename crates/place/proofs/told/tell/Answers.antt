-- The eight words stand in front of what was behind them.
use mathlib.Core.Path.{sym}
use lib.Seq.{sets-eq}
use borrow.Author.Tests.{lt-ltb, le-ltb}
use Rattle.place.specs.Shapes.{answer_words, told_in}
use Rattle.place.proofs.told.tell.Goals as goal

pub returns-then-out-lt-HEAD-clause-out_after : goal.returns-then-out-lt-HEAD-clause-out_after
unfolding told_in
returns-then-out-lt-HEAD-clause-out_after c = rw (lt-ltb _ _ c.if-out-lt-HEAD.true)

pub returns-clause-out_after : goal.returns-clause-out_after
unfolding told_in
returns-clause-out_after c =
    let a = c.args in
    let room = c.if-out-lt-HEAD.false in
    rw (le-ltb _ _ room, c.copy_from_slice.ensures.after) (sym (sets-eq (answer_words a.numbers) a.out.now 0 room))
