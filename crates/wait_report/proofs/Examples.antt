-- Reports, computed, on a table of two slots of which slot 0 holds 4, and pin 0 holds 2.
use Prim.Native.Nat.{ℕ, zero, suc}
use mathlib.Core.Path.{◌≡◌, refl}
use mathlib.Core.List.{List, [], ◌∷◌, ◌++◌}
use Rattle.kinds.specs.Kinds.{slot, txid, free_pins}
use Rattle.kinds.specs.Refusals.{told}
use Rattle.listed.specs.Listed.{listed}
use Rattle.model.specs.Tally.{active, minimum}
use Rattle.model.specs.Check.{slots_pass, differ, pins_pass, passes}
use Rattle.text.specs.Decimal.{decimal_in, decimal, number_text, number_tail, number_from, number_at}
use Rattle.text.specs.Bytes.{bytes, starts}
use Rattle.text.specs.Line.{line_text, line_texts, joined, field_at, lines_at}
use Rattle.text.specs.FiveLines.{limit, field_rules, fields_at}
use Rattle.grammar.specs.Names.{name_line, first_named, name_at}
use Rattle.grammar.specs.Items.{found_in, found_from}
use Rattle.grammar.specs.Named.{item_at}
use Rattle.grammar.specs.Texts.{read_text}
use Rattle.table_text.specs.TableText.{pin_rules, table_rules, pin_numbers, numbers_of, lines_under, table_text, table_from}
use Rattle.table_text.specs.TableText.{table_of}
use Rattle.wait_rules.specs.Owner.{Nobody, Holds}
use Rattle.wait_rules.specs.Steps.{register_rule, end_rule, horizon_rule, rule_of, event_test, change_by, event_change}
use Rattle.wait.specs.Waits.{steps_from, ended, verdict_on, wait_of}
use Rattle.wait_report.specs.Report.{verdict_lines, answer_text, on_table, report_of}

abbrev free : ℕ → List ℕ
free zero = []
free (suc n) = bytes "pin=0\n" ++ free n

-- the text of a table by its slots and its counters
abbrev pinned : List ℕ → List ℕ → List ℕ
pinned slots counters = bytes "table=proc-1\n" ++ slots ++ bytes "pin=2\n" ++ free 63 ++ counters

abbrev entry : List ℕ
entry = pinned (bytes "txid=4\nxmin=3\ntxid=0\nxmin=0\n") (bytes "clock=9\nsample=6\nline=2\n")

abbrev register : List ℕ
register = bytes "wait=proc-1\nevent=register\nslot=1\nid=9\nxmin=0\nclock=0\nsample=0\n"

abbrev end : List ℕ
end = bytes "wait=proc-1\nevent=end\nslot=0\nid=0\nxmin=0\nclock=0\nsample=0\n"

record Reports : Type 0 where
  -- the table at the end
  accepted : report_of 2 entry (Holds (slot 0) (txid 4)) register
      ≡ bytes "answer=0\nslot=0\nid=0\nseen=0\nat=0\n"
      ++ pinned (bytes "txid=4\nxmin=3\ntxid=9\nxmin=9\n") (bytes "clock=10\nsample=6\nline=2\n")
  -- the entry table: event 1 ends the owner's slot; nobody's may go
  refused : report_of 2 entry (Holds (slot 0) (txid 4)) end ≡ bytes "answer=22\nslot=0\nid=0\nseen=0\nat=1\n" ++ entry
  nobody : report_of 2 entry Nobody end
      ≡ bytes "answer=0\nslot=0\nid=0\nseen=0\nat=0\n"
      ++ pinned (bytes "txid=0\nxmin=0\ntxid=0\nxmin=0\n") (bytes "clock=9\nsample=6\nline=2\n")
  -- another owner than the slot's
  mismatch : report_of 2 entry (Holds (slot 0) (txid 5)) register ≡ bytes "answer=3\nslot=0\nid=5\nseen=4\nat=0\n" ++ entry
  -- the wait's text breaks a rule: its line, and the entry table
  no_wait : report_of 2 entry Nobody (bytes "wait=proc-1\nevent=end\n") ≡ bytes "answer=9\nslot=0\nid=0\nseen=0\nat=3\n" ++ entry
  -- the table's does: its line, and no table, whatever the wait is
  no_table : report_of 2 (bytes "table=proc-1\ntxid=4\n") Nobody [] ≡ bytes "answer=9\nslot=0\nid=0\nseen=0\nat=3\n"

reports : Reports
unfolding
    free_pins pin_rules pin_numbers report_of on_table answer_text verdict_lines table_text lines_under table_rules numbers_of line_texts joined
    line_text number_text decimal decimal_in table_of table_from told
    wait_of verdict_on steps_from ended event_test rule_of register_rule end_rule horizon_rule event_change change_by passes slots_pass differ
    pins_pass listed active minimum read_text name_at first_named name_line found_from found_in item_at fields_at field_rules limit
    lines_at field_at number_at number_from number_tail starts
reports = record { accepted = refl; refused = refl; nobody = refl; mismatch = refl; no_wait = refl; no_table = refl }
