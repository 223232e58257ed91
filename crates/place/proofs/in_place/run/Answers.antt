-- The call decided on the words as they lie, its change stored, its answer told (proofs/Called.antt).
use mathlib.Core.Path.{sym, ap, ◌∙◌}
use Rattle.kinds.specs.Verdicts.{Verdict, tells}
use Rattle.kinds.proofs.Unique.{told_positive}
use Rattle.place.proofs.Shaping.{shape_number}
use Rattle.place.proofs.Called.{shaped, unfit, decided_on, called}
use Rattle.place.proofs.in_place.run.Goals as goal

pub returns-in-Err : goal.returns-in-Err
returns-in-Err g c =
    let a = c.args in
    let said = ap (λ (v : Verdict). (tells v).number) (sym c.in-Err.is ∙ c.shape_test.ensures) in
    unfit _ _ a.table.now _ (c.number_of.ensures ∙ said ∙ shape_number _ _ _)
    (λ z. told_positive c.in-Err.refusal (sym c.number_of.ensures ∙ z)) a.out.now

pub returns : goal.returns
returns g c =
    let a = c.args in
    let said = ap (λ (v : Verdict). (tells v).number) (sym c.shape_test.ensures ∙ c.in_default.is) in
    let fit = sym (shape_number _ _ _) ∙ said in
    let decided = decided_on _ _ c.columns_in.ensures c.decide-decided.ensures in
    let told = c.tell_plain.ensures in
    called _ _ a.table.now _ a.out.now fit (shaped _ _ _ fit) decided (g.met.C.InPlace.plain _ _ _) told.value c.store.ensures told.out_after
