use Rattle.std.proofs.Common.{rules, ◌==◌, ◌&&◌, true, ◌∙◌}
use Rattle.std.proofs.lemmas.Iterator.{YieldsList-from_slice}
use Rattle.std.proofs.lemmas.Iterator.Consumers.{fold_from_yields_List}
use Rattle.turns.proofs.Turns.{all_by_fold}
use Rattle.turns.proofs.holds_only.Goals as goal

pub returns : goal.returns
returns c =
    let x = c.args.x in
    let turn = c.args.turn.now in
    fold_from_yields_List _ (λ all y. all && (y == x)) _ _ c.fold.ensures.ran (YieldsList-from_slice turn cc) (λ a y b q k. search rules)
    ∙ all_by_fold (λ y. y == x) true turn
