-- `name_at` meets its contract. The invariant: none of the kinds that were tried is named at the place, so what is named there is
-- the first of those that are left.
use mathlib.Core.Path.{◌≡◌}
use lib.ListN.{drop}
use Rattle.grammar.specs.Names.{first_named}
use Rattle.items.proofs.item.name_at.Given as goal

abbrev pub invariant-loop-kind : goal.invariant-loop-kind
invariant-loop-kind g l =
    let name = g.T.Items.shape.names.name in
    first_named name l.kind-items l.s l.at ≡ first_named name (drop l.kind-index l.kind-items) l.s l.at
