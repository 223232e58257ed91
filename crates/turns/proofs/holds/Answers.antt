use Rattle.std.proofs.Common.{rules, ◌==◌, ◌||◌, false, ◌∙◌}
use Rattle.std.proofs.lemmas.Iterator.{YieldsList-from_slice}
use Rattle.std.proofs.lemmas.Iterator.Consumers.{fold_from_yields_List}
use Rattle.turns.proofs.Turns.{found_by_fold}
use Rattle.turns.proofs.holds.Goals as goal

pub returns : goal.returns
returns c =
    let x = c.args.x in
    let turn = c.args.turn.now in
    fold_from_yields_List _ (λ found y. found || (y == x)) _ _ c.fold.ensures.ran (YieldsList-from_slice turn cc) (λ a y b q k. search rules)
    ∙ found_by_fold (λ y. y == x) false turn
