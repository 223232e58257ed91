-- `kind_at` meets its contract: the key, and past it a name.
use mathlib.Core.Path.{sym}
use Rattle.std.proofs.Common.{rules}
use Rattle.grammar.specs.Names.{name_at}
use Rattle.items.proofs.Names.{past_some, past_none}
use Rattle.items.proofs.item.kind_at.Goals as goal

pub returns-in_err-past : goal.returns-in_err-past
unfolding name_at
returns-in_err-past g c =
    rw (past_none _ _ (rw c.key.ensures at (sym c.in_err-past.ensures))) (search rules)

pub returns : goal.returns
unfolding name_at
returns g c =
    let there = past_some _ _ (rw c.key.ensures at (sym c.in_ok-past.ensures)) in
    rw (there.0, there.1) c.name_at.ensures
