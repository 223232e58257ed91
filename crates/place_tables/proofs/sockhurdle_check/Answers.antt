-- The columns that the words lend are their table's.
use mathlib.Core.Path.{◌∙◌}
use Rattle.place_tables.proofs.Checked.{checks, yes_is_1}
use Rattle.place_tables.proofs.sockhurdle_check.Goals as goal

pub returns : goal.returns
returns c = c.from.ensures ∙ yes_is_1 _ ∙ checks _ c.args.table.now c.if-table-ne-WORDS.false c.columns_in.ensures c.check_columns-passes.ensures
