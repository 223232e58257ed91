use mathlib.Core.Path.{◌∙◌, sym}
use borrow.Author.Rules.{rules}
use borrow.Author.Tests.{tests, ne_eqb}
use Rattle.std.proofs.lemmas.Iterator.{YieldsList-from_slice, YieldsList-from_zip}
use Rattle.std.proofs.lemmas.Iterator.Search.{all_from_yields_List}
use Rattle.table_check.proofs.Columns.{passes_here, slots_all, slots_uneven}
use Rattle.table_check.proofs.slots.slots_pass.Goals as goal

pub returns-then-txids-xmins : goal.returns-then-txids-xmins
returns-then-txids-xmins c =
    let a = c.args in
    let pairs = YieldsList-from_zip {s = c.zip.result} (YieldsList-from_slice a.txids.now cc) (YieldsList-from_slice a.xmins.now cc) in
    let all = all_from_yields_List (passes_here a.counters.clock a.counters.vacuum_line) c.all.new.self _ c.all.result c.all.ensures.ran pairs (λ x b q k. search (rules, tests)) in
    all ∙ slots_all a.counters.clock a.counters.vacuum_line a.txids.now a.xmins.now c.if-txids-xmins.true

pub returns-else-txids-xmins : goal.returns-else-txids-xmins
returns-else-txids-xmins c =
    let a = c.args in
    rw (ne_eqb _ _ c.if-txids-xmins.false) (sym (slots_uneven a.counters.clock a.counters.vacuum_line a.txids.now a.xmins.now c.if-txids-xmins.false))
