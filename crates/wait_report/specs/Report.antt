-- What the check of a wait prints: five lines, and a table (SPEC 16.5).
use Rattle.std.specs.Prelude.{ℕ, List, ◌++◌, Ok, Err}
use Rattle.kinds.specs.declared.told.Told.{Told}
use Rattle.kinds.specs.declared.refusal.Refusal.TheVariants.{BadTrace}
use Rattle.kinds.specs.Refusals.{told}
use Rattle.kinds.specs.Verdicts.{tells}
use Rattle.text.specs.Keys.{answer_key, slot_key, id_key, seen_key, at_key}
use Rattle.text.specs.Line.{line_text}
use Rattle.table_text.specs.TableText.{TableRead, table_text, table_of}
use Rattle.wait.specs.Waits.{wait_of}
use Rattle.wait_rules.specs.Owner.{Owner}
use Rattle.wait.specs.declared.WaitAnswer.{WaitAnswer}

-- the five numbers of a verdict (SPEC 3.1)
unfoldable pub verdict_lines : Told → List ℕ
verdict_lines t =
    line_text answer_key t.number
    ++ line_text slot_key t.slot
    ++ line_text id_key t.id
    ++ line_text seen_key t.seen
    ++ line_text at_key t.at

-- then the table that is answered: at the end of an accepted wait, or at the entry
unfoldable pub answer_text : WaitAnswer → List ℕ
answer_text a = verdict_lines (tells a.verdict) ++ table_text a.table

-- where the table's own text breaks a rule: refusal 9 with its line, and no table
unfoldable pub on_table : ℕ → Owner → List ℕ → TableRead → List ℕ
on_table n owner wait (Ok t) = answer_text (wait_of n t owner wait)
on_table n owner wait (Err line) = verdict_lines (told (BadTrace line))

-- the report on the text of a table of n slots, an owner and the text of a wait
unfoldable pub report_of : ℕ → List ℕ → Owner → List ℕ → List ℕ
report_of n table owner wait = on_table n owner wait (table_of n table)
