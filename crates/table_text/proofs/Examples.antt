-- Tables of two slots, their texts, and what texts are read as, computed.
use mathlib.Core.Path.{◌≡◌, refl}
use Prim.Native.Nat.{ℕ, zero, suc}
use mathlib.Core.List.{List, [], ◌∷◌, ◌++◌}
use lib.ListN.{set}
use Rattle.kinds.specs.Kinds.{free_pins}
use Rattle.model.specs.declared.Table.{Table}
use Rattle.model.specs.Tables.{counted, lent}
use Rattle.text.specs.Bytes.{bytes, starts}
use Rattle.text.specs.Decimal.{decimal_in, decimal, number_text, number_tail, number_from, number_at}
use Rattle.text.specs.Line.{line_text, line_texts, joined, field_at, lines_at}
use Rattle.table_text.specs.TableText.{header, pin_rules, table_rules, pin_numbers, numbers_of, lines_under, table_text, table_from, broken_at, whole}
use Rattle.table_text.specs.TableText.{table_of}

-- the lines of pins, all free, and with the first and the last taken
abbrev repeated : ℕ → List ℕ → List ℕ
repeated zero l = []
repeated (suc n) l = l ++ repeated n l

abbrev free : ℕ → List ℕ
free n = repeated n (bytes "pin=0\n")

abbrev pinned : List ℕ
pinned = bytes "pin=5\n" ++ free 62 ++ bytes "pin=6\n"

-- slot 0 holds 12 and keeps xmin 7, slot 1 is empty; pin 0 holds 5 and pin 63 holds 6; clock 20, sample 15, line 3
abbrev two : Table
two = lent (12 ∷ 0 ∷ []) (7 ∷ 0 ∷ []) (set (set free_pins 0 5) 63 6) (counted 20 15 3)

-- line 1 and two slots
abbrev slots : List ℕ
slots = header ++ bytes "txid=1\nxmin=1\ntxid=2\nxmin=1\n"

record Read : Type 0 where
  text : table_text two ≡ (bytes "table=proc-1\ntxid=12\nxmin=7\ntxid=0\nxmin=0\n" ++ pinned ++ bytes "clock=20\nsample=15\nline=3\n")
  good : table_of 2 (bytes "table=proc-1\ntxid=12\nxmin=7\ntxid=0\nxmin=0\n" ++ pinned ++ bytes "clock=20\nsample=15\nline=3\n") ≡ whole two
  -- nothing at all is line 1
  empty : table_of 2 [] ≡ broken_at 2 1
  -- the header of a trace, a later version, no newline
  header_other : table_of 2 (bytes "trace=proc-1\n") ≡ broken_at 2 1
  header_later : table_of 2 (bytes "table=proc-2\n") ≡ broken_at 2 1
  header_open : table_of 2 (bytes "table=proc-1") ≡ broken_at 2 1
  -- the header alone: the first slot's txid is missing
  no_slot : table_of 2 header ≡ broken_at 2 2
  -- a slot's lines in the other order; its xmin is missing
  other_order : table_of 2 (header ++ bytes "xmin=7\ntxid=12\n") ≡ broken_at 2 2
  no_xmin : table_of 2 (header ++ bytes "txid=12\n") ≡ broken_at 2 3
  -- a leading zero, a sign, 2^64, a number without its newline
  leading_zero : table_of 2 (header ++ bytes "txid=012\nxmin=7\n") ≡ broken_at 2 2
  sign : table_of 2 (header ++ bytes "txid=12\nxmin=+7\n") ≡ broken_at 2 3
  too_large : table_of 2 (header ++ bytes "txid=12\nxmin=18446744073709551616\n") ≡ broken_at 2 3
  open_line : table_of 2 (header ++ bytes "txid=12\nxmin=7\ntxid=0") ≡ broken_at 2 4
  -- one slot less: line 4 has a pin; one more: line 6 has a txid
  slot_less : table_of 2 (header ++ bytes "txid=12\nxmin=7\n" ++ free 64 ++ bytes "clock=20\nsample=15\nline=3\n") ≡ broken_at 2 4
  slot_more : table_of 2 (header ++ bytes "txid=1\nxmin=1\ntxid=2\nxmin=1\ntxid=3\nxmin=1\n") ≡ broken_at 2 6
  -- no pin; one pin less, and one more
  no_pins : table_of 2 (header ++ bytes "txid=1\nxmin=1\ntxid=2\nxmin=1\nclock=20\nsample=15\nline=3\n") ≡ broken_at 2 6
  pin_less : table_of 2 (slots ++ free 63 ++ bytes "clock=20\nsample=15\nline=3\n") ≡ broken_at 2 69
  pin_more : table_of 2 (slots ++ free 65 ++ bytes "clock=20\nsample=15\nline=3\n") ≡ broken_at 2 70
  -- a counter that is missing
  no_sample : table_of 2 (slots ++ free 64 ++ bytes "clock=20\nline=3\n") ≡ broken_at 2 71
  no_line : table_of 2 (slots ++ free 64 ++ bytes "clock=20\nsample=15\n") ≡ broken_at 2 72
  -- a byte after the last line
  more : table_of 2 (slots ++ free 64 ++ bytes "clock=20\nsample=15\nline=3\n\n") ≡ broken_at 2 73

read : Read
unfolding
    free_pins pin_rules pin_numbers table_text lines_under table_rules numbers_of line_texts joined line_text number_text decimal decimal_in
    table_of table_from lines_at field_at number_at number_from number_tail starts
read = record {
  text = refl;
  good = refl;
  empty = refl;
  header_other = refl;
  header_later = refl;
  header_open = refl;
  no_slot = refl;
  other_order = refl;
  no_xmin = refl;
  leading_zero = refl;
  sign = refl;
  too_large = refl;
  open_line = refl;
  slot_less = refl;
  slot_more = refl;
  no_pins = refl;
  pin_less = refl;
  pin_more = refl;
  no_sample = refl;
  no_line = refl;
  more = refl;
}
