-- A part of a run: as many records as have room in a buffer.
use Rattle.std.specs.Prelude.{ℕ, ◌+◌, ◌≤◌, ◌≡◌, cond, List, [], ◌∷◌, ◌++◌, length}
use Rattle.model.specs.declared.Table.{Table}
use Rattle.model.specs.Calls.{after, shown}
use Rattle.text.specs.Write.{spliced}
use Rattle.trace.specs.declared.Record.{Record}
use Rattle.trace.specs.declared.Version.{Version}
use Rattle.trace.specs.Trace.{records_from, Boundary}
use Rattle.output.specs.Output.{printed, fits}
use Rattle.step.specs.Named.{call_of}
use Rattle.replay_part.specs.declared.Progress.{Progress}

-- what the records print that have room in size bytes from `at` on, the table after them, and the records left
pub record Part : Type 0 where
  pub text : List ℕ
  pub table : Table
  pub left : List Record

abbrev pub with_text : List ℕ → Part → Part
with_text t p = record { text = t ++ p.text; table = p.table; left = p.left }

unfoldable pub part_of : Version → ℕ → ℕ → ℕ → Table → List Record → Part
part_of v n size at t [] = record { text = []; table = t; left = [] }
part_of v n size at t (r ∷ rs) =
    cond (fits v n size at (shown n t (call_of r)).count)
    (with_text (printed v n t (call_of r))
    (part_of v n size (at + length (printed v n t (call_of r))) (after n t (call_of r)) rs))
    (record { text = []; table = t; left = r ∷ rs })

-- what a part of a run leaves: its text at the buffer's start, its table, and the place of the records left
pub record PartFits (v : Version) (n : ℕ) (s : List ℕ) (from : ℕ) (t : Table) (xs ys : List ℕ) (r : Progress) : Type 0 where
  pub text : ys ≡ spliced xs 0 (part_of v n (length xs) 0 t (records_from s from)).text
  pub filled : r.filled ≡ length (part_of v n (length xs) 0 t (records_from s from)).text
  pub table : r.table ≡ (part_of v n (length xs) 0 t (records_from s from)).table
  pub left : records_from s r.at ≡ (part_of v n (length xs) 0 t (records_from s from)).left
  pub boundary : Boundary s r.at
  pub inside : r.filled ≤ length xs
