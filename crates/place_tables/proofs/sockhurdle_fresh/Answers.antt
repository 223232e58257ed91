-- Zeros with the three counters in their places are the fresh table's words.
use borrow.Author.Tests.{eq-eqb}
use Rattle.place_tables.specs.Tables.{fresh_after}
use Rattle.place_tables.proofs.Cleared.{fresh_words}
use Rattle.place_tables.proofs.sockhurdle_fresh.Goals as goal

pub returns-clause-table_after : goal.returns-clause-table_after
unfolding fresh_after
returns-clause-table_after c =
    let size = c.if-table-ne-WORDS.false in
    rw (eq-eqb _ _ size) (fresh_words _ c.args.table.now size (c.fill.ensures.after (λ y e. e)))
