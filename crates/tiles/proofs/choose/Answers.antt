-- Each exit is one case of the choice, in its order (crate's proofs/Choices.antt).
use Rattle.std.proofs.Common.{Err, ap, ◌∙◌}
use Rattle.std.proofs.lemmas.Result.{err_from_is_err_and}
use Rattle.tiles.proofs.Choices.{choice_yes, choice_no, choice-refused}
use Rattle.tiles.proofs.choose.Goals as goal

pub returns-in_err-is_usable : goal.returns-in_err-is_usable
returns-in_err-is_usable c =
    let p = err_from_is_err_and c.from_residual.result c.from_residual.ensures.1 in
    rw (p.1 ∙ ap Err p.2) (choice-refused _ _ _ _ _ _ _ _ _ c.in_err-is_usable.ensures)

pub returns-then-branch : goal.returns-then-branch
returns-then-branch c =
    let said = rw c.if-branch.true at c.in_ok-is_usable.ensures in
    choice_yes _ _ _ _ _ _ _ _ _ said c.fitting.ensures

pub returns : goal.returns
returns c =
    let said = rw c.if-branch.false at c.in_ok-is_usable.ensures in
    search (choice_no, said, c.fitting-2.ensures)
