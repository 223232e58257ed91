-- Texts and what they are read as, computed.
use mathlib.Core.Path.{◌≡◌, refl}
use mathlib.Core.List.{[], ◌++◌}
use Rattle.text.specs.Decimal.{number_tail, number_from, number_at}
use Rattle.text.specs.Bytes.{bytes, starts}
use Rattle.text.specs.Line.{field_at, lines_at}
use Rattle.text.specs.FiveLines.{limit, field_rules, fields_at}
use Rattle.grammar.specs.Names.{name_line, first_named, name_at}
use Rattle.grammar.specs.Items.{found_in, found_from}
use Rattle.grammar.specs.Named.{item_at}
use Rattle.grammar.specs.Texts.{read_text, count_text}
use Rattle.events.specs.Wait.{header, reading}
use Rattle.events.specs.Reading.{Whole, Broken}

record Read : Type 0 where
  -- one of each: number 7 is registered in slot 2, its horizon falls to 5, it ends; 9 is reserved, and clock 12 with sample 11 is observed
  each-once :
      reading
      (bytes "wait=proc-1\n"
      ++ bytes "event=register\nslot=2\nid=7\nxmin=0\nclock=0\nsample=0\n"
      ++ bytes "event=horizon\nslot=2\nid=0\nxmin=5\nclock=0\nsample=0\n"
      ++ bytes "event=end\nslot=2\nid=0\nxmin=0\nclock=0\nsample=0\n"
      ++ bytes "event=reserve\nslot=0\nid=9\nxmin=0\nclock=0\nsample=0\n"
      ++ bytes "event=observe\nslot=0\nid=0\nxmin=0\nclock=12\nsample=11\n")
      ≡ Whole 5
  -- a header with no event: nothing happened
  header_only : reading header ≡ Whole 0
  -- the header of a trace
  header_other : reading (bytes "trace=proc-1\n") ≡ Broken 1
  -- a header that isn't known
  header_later : reading (bytes "wait=proc-2\n") ≡ Broken 1
  -- a header without its newline
  header_open : reading (bytes "wait=proc-1") ≡ Broken 1
  -- a carriage return before the newline
  header_crlf : reading (bytes "wait=proc-1\r\n") ≡ Broken 1
  -- nothing at all
  empty : reading [] ≡ Broken 1
  -- slot 65536 is out of range: line 3
  slot_too_large : reading (header ++ bytes "event=end\nslot=65536\n") ≡ Broken 3
  -- end names a slot and no id: line 4
  unread_id : reading (header ++ bytes "event=end\nslot=65535\nid=7\n") ≡ Broken 4
  -- an op of a trace is no event: line 2
  op_of_a_trace : reading (header ++ bytes "op=end\nslot=9\n") ≡ Broken 2
  -- a name that only begins as an event's: line 2
  unknown_event : reading (header ++ bytes "event=registers\nslot=9\n") ≡ Broken 2
  -- a number that ends in CRLF: line 3
  number_crlf : reading (header ++ bytes "event=end\nslot=9\r\n") ≡ Broken 3
  -- an event that stops after three lines: its fourth
  missing_line : reading (header ++ bytes "event=horizon\nslot=0\nid=0\n") ≡ Broken 5
  -- an empty line after the last event is the next event's first
  blank_line : reading (header ++ bytes "event=reserve\nslot=0\nid=1\nxmin=0\nclock=0\nsample=0\n\n") ≡ Broken 8

read : Read
unfolding
    reading count_text read_text name_at first_named name_line found_from found_in item_at fields_at field_rules limit
    lines_at field_at number_at number_from number_tail starts
read = record {
  each-once = refl;
  header_only = refl;
  header_other = refl;
  header_later = refl;
  header_open = refl;
  header_crlf = refl;
  empty = refl;
  slot_too_large = refl;
  unread_id = refl;
  op_of_a_trace = refl;
  unknown_event = refl;
  number_crlf = refl;
  missing_line = refl;
  blank_line = refl;
}
