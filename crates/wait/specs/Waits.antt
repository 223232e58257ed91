-- A whole wait: which tests it goes through, in their order, and the table at its end.
use Rattle.std.specs.Prelude.{ℕ, ◌+◌, cond, List, [], ◌∷◌, Result, Ok, Err}
use Rattle.kinds.specs.declared.refusal.Refusal.{Refusal}
use Rattle.kinds.specs.declared.refusal.Refusal.TheVariants.{BadTrace, BadEntry, BadStep}
use Rattle.kinds.specs.Verdicts.{Verdict, Pass, Refuse, then}
use Rattle.model.specs.declared.Table.{Table}
use Rattle.model.specs.Tests.{owner_test}
use Rattle.model.specs.Check.{table_passes}
use Rattle.grammar.specs.Texts.{Read, Whole, Broken}
use Rattle.events.specs.Wait.{Header, events_of}
use Rattle.events.specs.declared.Event.{Event}
use Rattle.wait_rules.specs.Owner.{Owner, Nobody, HeldBy}
use Rattle.wait.specs.declared.WaitAnswer.{WaitAnswer}
use Rattle.wait_rules.specs.Steps.{event_test, event_after}

-- 21: the entry table doesn't pass the table check
abbrev pub entry_test : ℕ → Table → Verdict
entry_test n t = cond (table_passes n t) Pass (Refuse BadEntry)

-- 2, 4, 3: the owner, if there is one, holds its slot
abbrev pub holder_test : ℕ → Table → Owner → Verdict
holder_test n t Nobody = Pass
holder_test n t (HeldBy own) = owner_test n t.txids own.slot own.id

-- 22: the first step that breaks its rule; the next one has the number `step`
unfoldable pub steps_from : ℕ → Owner → Table → ℕ → List Event → Verdict
steps_from n owner t step [] = Pass
steps_from n owner t step (e ∷ es) =
    cond (event_test n t owner e) (steps_from n owner (event_after t e) (step + 1) es) (Refuse (BadStep step))

-- the table after some events
unfoldable pub ended : Table → List Event → Table
ended t [] = t
ended t (e ∷ es) = ended (event_after t e) es

-- the tests of events that were read, in their order; steps are counted from 1
unfoldable pub verdict_on : ℕ → Table → Owner → List Event → Verdict
verdict_on n t owner es = then (entry_test n t) (then (holder_test n t owner) (steps_from n owner t 1 es))

-- the end table beside an acceptance, the entry table beside a refusal
abbrev pub answered : Verdict → Table → List Event → WaitAnswer
answered Pass t es = record { table = ended t es; verdict = Pass }
answered (Refuse r) t es = record { table = t; verdict = Refuse r }

-- the same of what a wait came to: the table at its end, or what refuses it
abbrev pub answer_by : Table → Result Table Refusal → WaitAnswer
answer_by t (Ok end) = record { table = end; verdict = Pass }
answer_by t (Err r) = record { table = t; verdict = Refuse r }

-- the answer to the steps alone
abbrev pub stepped_of : ℕ → Owner → Table → List Event → WaitAnswer
stepped_of n owner t es = answered (steps_from n owner t 1 es) t es

-- 9, with its line, comes before every other
abbrev pub on_text : ℕ → Table → Owner → Read Header Event → WaitAnswer
on_text n t owner (Whole h es) = answered (verdict_on n t owner es) t es
on_text n t owner (Broken line) = record { table = t; verdict = Refuse (BadTrace line) }

-- what a wait is answered
unfoldable pub wait_of : ℕ → Table → Owner → List ℕ → WaitAnswer
wait_of n t owner s = on_text n t owner (events_of s)
