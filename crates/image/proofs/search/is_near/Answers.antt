use mathlib.Core.Path.{◌∙◌}
use mathlib.Core.Bool.{false, ◌||◌}
use borrow.Author.Rules.{rules}
use Rattle.std.proofs.lemmas.Iterator.{YieldsList-from_slice}
use Rattle.std.proofs.lemmas.Iterator.Consumers.{fold_from_yields_List}
use Rattle.image.proofs.Chunks.{reads, fold_any}
use Rattle.image.proofs.search.is_near.Goals as goal

pub returns : goal.returns
returns c =
    let a = c.args in
    fold_from_yields_List _ (λ found word. found || reads a.x word) false c.fold.result c.fold.ensures.ran (YieldsList-from_slice a.words.now cc) (λ b x r q h. search rules)
    ∙ fold_any (reads a.x) false a.words.now
