use mathlib.Core.Path.{◌∙◌, sym, ap}
use mathlib.Core.Bool.{◌||◌}
use lib.Dec.{eqb}
use borrow.Author.Rules.{rules}
use Rattle.host_calls.proofs.Decoded.{mapped, number, settled_of, usable_answered}
use Rattle.host_calls.proofs.sockhurdle_usable.Goals as goal

pub returns : goal.returns
returns c =
    let a = c.args in
    c.answered.ensures ∙ ap number (mapped c.asked.result c.map.result (λ _. eqb a.own a.id || settled_of a.xmax a.list.now a.id) (λ x y h. search rules) c.map.ensures.cases ∙ rw c.asked.ensures) ∙ sym (usable_answered _ a.xmax a.list.now a.id a.own)
