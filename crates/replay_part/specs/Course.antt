-- A run from a place of a text on, whatever stands there: as many records as have room in a buffer.
use Rattle.std.specs.Prelude.{ℕ, zero, suc, ◌+◌, ◌-◌, cond, List, [], ◌++◌, eqb, length}
use Rattle.model.specs.declared.Table.{Table}
use Rattle.model.specs.Calls.{after, shown}
use Rattle.trace.specs.declared.Record.{Record}
use Rattle.trace.specs.RecordAt.{RecordAt, Is, Broken}
use Rattle.trace.specs.declared.Version.{Version}
use Rattle.trace.specs.Record.{record_at}
use Rattle.output.specs.Output.{printed, fits}
use Rattle.step.specs.Named.{call_of}
use Rattle.replay_part.specs.declared.Progress.{Progress}

-- what a run prints, the table after it, and the place where it stopped
pub record Course : Type 0 where
  pub text : List ℕ
  pub table : Table
  pub at : ℕ

abbrev pub printing : List ℕ → Course → Course
printing t c = record { text = t ++ c.text; table = c.table; at = c.at }

-- a run that stops where it stands
abbrev pub staying : ℕ → Table → Course
staying at t = record { text = []; table = t; at = at }

abbrev pub on_record : RecordAt → Course → (Record → ℕ → Course) → Course
on_record (Is r e) stop go = go r e
on_record (Broken k) stop go = stop

-- the records from `at` on, where `filled` bytes are taken: until the text is over, what follows is no record, or the next one has no
-- room in size bytes. The first number bounds how many are tried
unfoldable pub course_in : ℕ → Version → ℕ → ℕ → List ℕ → ℕ → ℕ → Table → Course
course_in zero v n size s at filled t = staying at t
course_in (suc more) v n size s at filled t =
    cond (eqb at (length s))
    (staying at t)
    (on_record (record_at s at) (staying at t) (λ r e.
    cond (fits v n size filled (shown n t (call_of r)).count)
    (printing (printed v n t (call_of r))
    (course_in more v n size s e (filled + length (printed v n t (call_of r))) (after n t (call_of r))))
    (staying at t)))

-- no more records than bytes are left, and one more try finds the end
unfoldable pub course_of : Version → ℕ → ℕ → List ℕ → ℕ → ℕ → Table → Course
course_of v n size s at filled t = course_in (length s - at + 1) v n size s at filled t

-- what the code answers of it
abbrev pub progress_of : Course → Progress
progress_of c = record { table = c.table; at = c.at; filled = length c.text }
