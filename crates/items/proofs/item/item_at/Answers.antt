-- `item_at` meets its contract: a kind that is unknown, and one whose five numbers follow.
use mathlib.Core.Path.{refl, sym, ◌∙◌}
use Rattle.std.proofs.Common.{rules}
use Rattle.grammar.proofs.Named.{item_named, item_unknown}
use Rattle.grammar.specs.Grammar.{every_kind}
use Rattle.items.proofs.Said.{kind_is}
use Rattle.items.proofs.item.item_at.Goals as goal

pub returns-in_err-kind : goal.returns-in_err-kind
returns-in_err-kind g c =
    let named = kind_is g.T.Items.shape _ _ (sym c.kind_at.ensures ∙ c.in_err-kind.ensures.ok_part) in
    rw (item_unknown g.T.Items.shape every_kind _ _ named) (search rules)

pub returns : goal.returns
returns g c =
    let named = kind_is g.T.Items.shape _ _ (sym c.kind_at.ensures ∙ c.in_ok-kind.ensures.ok_part) in
    rw (item_named g.T.Items.shape every_kind _ _ named refl) c.item_after.ensures
