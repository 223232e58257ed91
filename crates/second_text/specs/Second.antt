-- The text of what the second engine says.
use Rattle.std.specs.Prelude.{ℕ, List, take}
use Rattle.trace.specs.declared.Version.{Version}
use Rattle.output.specs.Output.{answer_text}
use Rattle.ledger.specs.declared.answer.Said.{Said}
use Rattle.ledger.specs.Said.{worked_out}

-- an answer's numbers, and the ids that it lists
abbrev pub said_text : Version → Said → List ℕ
said_text v s = answer_text v s.numbers (take s.numbers.count s.ids)

abbrev pub second_text : Version → ℕ → List (List ℕ) → List ℕ → List ℕ
second_text v n rows row = said_text v (worked_out n rows row)
