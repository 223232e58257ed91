-- The first place that is 0 is the lowest that nobody has (crate's proofs/Columns.antt).
use mathlib.Core.Path.{◌∙◌}
use lib.Dec.{eqb}
use borrow.Author.Tests.{tests}
use Rattle.std.proofs.Common.{rules}
use Rattle.std.proofs.lemmas.Iterator.{YieldsList-from_slice}
use Rattle.std.proofs.lemmas.Iterator.Search.{position_from_yields_List}
use Rattle.ledger_scans.proofs.Columns.{first_free}
use Rattle.ledger_scans.proofs.free.lowest_free.Goals as goal

pub returns : goal.returns
returns c =
    let first =
    position_from_yields_List (λ x. eqb x 0) _ _ c.position.result c.position.ensures.ran
    (YieldsList-from_slice c.args.column.now cc) (λ x b q k. search (rules, tests)) in
    c.unwrap_or.ensures ∙ first_free c.args.column.now c.position.result first
