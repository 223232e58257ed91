-- The change is stored, then the numbers of the answer are told.
use mathlib.Core.Path.{ap, ◌∙◌}
use Rattle.model.specs.declared.answer.Numbers.{Numbers}
use Rattle.place.specs.Shapes.{told_in}
use Rattle.place_answers.proofs.give.Goals as goal

pub returns : goal.returns
returns c =
    let numbers = c.numbers_of-numbers.ensures in
    let told = c.tell.ensures in
    let out = c.args.out.now in
    let number = told.value ∙ ap (λ (a : Numbers). a.told.number) numbers in
    record { value = number; table_after = c.store.ensures; out_after = told.out_after ∙ ap (λ (a : Numbers). told_in out a) numbers }
