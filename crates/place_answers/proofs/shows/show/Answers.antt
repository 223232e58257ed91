-- The call tested and scanned on the words as they lie, its change stored, its answer told (proofs/Listed.antt).
use mathlib.Core.Path.{sym, ap, ◌∙◌}
use Rattle.kinds.specs.declared.TheConstants.{SLOTS}
use Rattle.model.specs.declared.Table.{Table}
use Rattle.model.specs.Calls.{refusal}
use Rattle.place.proofs.Shaping.{list_fits, list_refused, not_zero}
use Rattle.place.proofs.Called.{listing_shaped, unfit, unfit_ids}
use Rattle.place_answers.proofs.Listed.{refused, passed}
use Rattle.place_answers.proofs.shows.show.Goals as goal

pub returns-in-Err : goal.returns-in-Err
returns-in-Err g c =
    let a = c.args in
    let e = list_refused _ _ _ _ c.list_shape.ensures c.in-Err.is c.number_of.ensures in
    let some = not_zero c.in-Err.refusal c.number_of.ensures in
    let same = unfit _ _ a.table.now _ e some a.out.now in
    record { result_value = same.result_value; table_after = same.table_after; out_after = same.out_after; ids_after = unfit_ids _ _ a.table.now _ e some a.ids.now }

pub returns-in-Ok : goal.returns-in-Ok
returns-in-Ok g c =
    let a = c.args in
    let fit = list_fits _ _ _ _ c.list_shape.ensures c.in_default.is in
    let taken = c.take_into-taken.ensures in
    let told = c.give.ensures in
    passed _ _ a.table.now _ a.out.now a.ids.now fit (listing_shaped _ _ _ _ fit) c.columns_in-columns.ensures c.in-Ok.ensures taken.value c.decided.ensures told.value told.table_after told.out_after taken.ids_after

pub returns-in-Err-test : goal.returns-in-Err-test
returns-in-Err-test g c =
    let a = c.args in
    let fit = list_fits _ _ _ _ c.list_shape.ensures c.in_default.is in
    let same = c.columns_in-columns.ensures in
    let call = g.C.Shows.call a.call in
    let tested = ap (λ (t : Table). refusal SLOTS t call) (sym same) ∙ c.in-Err-test.ensures in
    let told = c.refuse.ensures in
    refused _ _ a.table.now _ a.out.now a.ids.now fit (listing_shaped _ _ _ _ fit) (g.met.C.Shows.registers _) tested (ap (λ (t : Table). t.counters) same) told.value told.table_after told.out_after
