-- Texts and what they are read as, computed.
use mathlib.Core.Path.{◌≡◌, refl}
use mathlib.Core.List.{[], ◌++◌}
use Rattle.text.specs.Decimal.{number_tail, number_from, number_at}
use Rattle.text.specs.Bytes.{bytes, starts}
use Rattle.text.specs.Line.{field_at, lines_at}
use Rattle.text.specs.FiveLines.{limit, field_rules, fields_at}
use Rattle.grammar.specs.Names.{name_line, first_named, name_at}
use Rattle.grammar.specs.Items.{found_in, found_from}
use Rattle.grammar.specs.Named.{item_at}
use Rattle.grammar.specs.Texts.{read_text, count_text}
use Rattle.trace.specs.Version.{header_of, allowed}
use Rattle.trace.specs.Trace.{reading}
use Rattle.trace.specs.declared.Version.TheVariants.{Proc1, Proc2, Proc3}
use Rattle.trace.specs.Reading.{Whole, Broken}

record Read : Type 0 where
  -- the input of the whole case (SPEC 10.7): two records
  whole-case :
      reading
      (bytes "trace=proc-1\n"
      ++ bytes "op=begin\nslot=0\nid=0\nstamp=5\nclock=0\nsample=0\n"
      ++ bytes "op=snap\nslot=0\nid=0\nstamp=0\nclock=9\nsample=3\n")
      ≡ Whole Proc1 2
  -- a header with no record
  header_only : reading (header_of Proc1) ≡ Whole Proc1 0
  -- the other header, which allows the same ops
  header_second : reading (bytes "trace=proc-2\nop=begin\nslot=0\nid=0\nstamp=5\nclock=0\nsample=0\n") ≡ Whole Proc2 1
  -- the third, with the two ops of pins; they are unknown under the others
  header-third :
      reading
      (bytes "trace=proc-3\n"
      ++ bytes "op=pin\nslot=0\nid=0\nstamp=0\nclock=9\nsample=3\n"
      ++ bytes "op=unpin\nslot=64\nid=0\nstamp=0\nclock=0\nsample=0\n")
      ≡ Whole Proc3 2
  pin_second : reading (bytes "trace=proc-2\nop=pin\nslot=0\nid=0\nstamp=0\nclock=9\nsample=3\n") ≡ Broken 2
  unpin_first : reading (bytes "trace=proc-1\nop=unpin\nslot=0\nid=0\nstamp=0\nclock=0\nsample=0\n") ≡ Broken 2
  -- pin reads no slot, and unpin no id
  pin_no_slot : reading (bytes "trace=proc-3\nop=pin\nslot=1\n") ≡ Broken 3
  unpin_no_id : reading (bytes "trace=proc-3\nop=unpin\nslot=1\nid=1\n") ≡ Broken 4
  -- a header that isn't known
  header_other : reading (bytes "trace=proc-4\n") ≡ Broken 1
  -- a header without its newline
  header_open : reading (bytes "trace=proc-1") ≡ Broken 1
  -- nothing at all
  empty : reading [] ≡ Broken 1
  -- slot 65536 is out of range: line 3
  slot_too_large : reading (header_of Proc1 ++ bytes "op=end\nslot=65536\n") ≡ Broken 3
  -- end doesn't read `stamp`: line 5
  unread_stamp : reading (header_of Proc1 ++ bytes "op=end\nslot=65535\nid=7\nstamp=1\n") ≡ Broken 5
  -- an op that is none: line 2, whatever follows
  unknown_op : reading (header_of Proc1 ++ bytes "op=begins\nslot=9\n") ≡ Broken 2
  -- a record that stops after four lines: its fifth
  missing_line : reading (header_of Proc1 ++ bytes "op=own\nslot=0\nid=1\nstamp=0\n") ≡ Broken 6
  -- an empty line after the last record is the next record's first
  blank_line : reading (header_of Proc1 ++ bytes "op=snap\nslot=0\nid=0\nstamp=0\nclock=1\nsample=1\n\n") ≡ Broken 8

read : Read
unfolding
    reading count_text read_text name_at first_named name_line found_from found_in item_at allowed fields_at field_rules limit
    lines_at field_at number_at number_from number_tail starts
read = record {
  whole-case = refl;
  header_only = refl;
  header_second = refl;
  header-third = refl;
  pin_second = refl;
  unpin_first = refl;
  pin_no_slot = refl;
  unpin_no_id = refl;
  header_other = refl;
  header_open = refl;
  empty = refl;
  slot_too_large = refl;
  unread_stamp = refl;
  unknown_op = refl;
  missing_line = refl;
  blank_line = refl;
}
