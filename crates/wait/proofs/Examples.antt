-- Waits and what they are answered, computed, on a table of three slots of which slot 0 holds 4 and slot 1 holds 7.
use Prim.Native.Nat.{ℕ}
use mathlib.Core.Path.{◌≡◌, refl}
use mathlib.Core.List.{List, [], ◌∷◌, ◌++◌}
use lib.ListN.{set}
use Rattle.kinds.specs.Kinds.{free_pins, slot, txid}
use Rattle.kinds.specs.declared.refusal.Refusal.TheVariants.{InvalidSlot, SlotOwnershipMismatch, ZeroTxid, BadTrace, BadEntry, BadStep}
use Rattle.kinds.specs.Verdicts.{Verdict, Pass, Refuse}
use Rattle.listed.specs.Listed.{listed}
use Rattle.model.specs.declared.Table.{Table}
use Rattle.model.specs.Tally.{active, minimum}
use Rattle.model.specs.Tables.{counted, lent}
use Rattle.model.specs.Check.{slots_pass, differ, pins_pass, passes}
use Rattle.text.specs.Decimal.{number_tail, number_from, number_at}
use Rattle.text.specs.Bytes.{bytes, starts}
use Rattle.text.specs.Line.{field_at, lines_at}
use Rattle.text.specs.FiveLines.{limit, field_rules, fields_at}
use Rattle.grammar.specs.Names.{name_line, first_named, name_at}
use Rattle.grammar.specs.Items.{found_in, found_from}
use Rattle.grammar.specs.Named.{item_at}
use Rattle.grammar.specs.Texts.{read_text}
use Rattle.events.specs.Wait.{header}
use Rattle.wait_rules.specs.Owner.{Owner, Nobody, Holds}
use Rattle.wait.specs.declared.WaitAnswer.{WaitAnswer}
use Rattle.wait_rules.specs.Steps.{register_rule, end_rule, horizon_rule, rule_of, event_test, change_by, event_change}
use Rattle.wait.specs.Waits.{steps_from, ended, verdict_on, wait_of}

-- pin 5 holds 3, the others are free
abbrev pins : List ℕ
pins = set free_pins 5 3

abbrev entry : Table
entry = lent (4 ∷ 7 ∷ 0 ∷ []) (3 ∷ 5 ∷ 0 ∷ []) pins (counted 8 6 2)

-- a clock that a taken slot has passed
abbrev torn : Table
torn = lent (4 ∷ 7 ∷ 0 ∷ []) (3 ∷ 5 ∷ 0 ∷ []) pins (counted 7 6 2)

abbrev first : Owner
first = Holds (slot 0) (txid 4)

abbrev answer : Table → Owner → List ℕ → WaitAnswer
answer t owner events = wait_of 3 t owner (header ++ events)

abbrev accepted : Table → WaitAnswer
accepted t = record { table = t; verdict = Pass }

abbrev refused : Table → Verdict → WaitAnswer
refused t v = record { table = t; verdict = v }

abbrev end_of_slot1 : List ℕ
end_of_slot1 = bytes "event=end\nslot=1\nid=0\nxmin=0\nclock=0\nsample=0\n"

abbrev end_of_slot0 : List ℕ
end_of_slot0 = bytes "event=end\nslot=0\nid=0\nxmin=0\nclock=0\nsample=0\n"

record Answers : Type 0 where
  -- nothing happened
  nothing : answer entry first [] ≡ accepted entry
  -- the last slot, not the lowest empty one after the end, takes 9; then 4 is retained, 12 reserved, and clock 20 observed
  each-once :
      answer entry first
      (end_of_slot1
      ++ bytes "event=register\nslot=2\nid=9\nxmin=0\nclock=0\nsample=0\n"
      ++ bytes "event=horizon\nslot=2\nid=0\nxmin=4\nclock=0\nsample=0\n"
      ++ bytes "event=reserve\nslot=0\nid=12\nxmin=0\nclock=0\nsample=0\n"
      ++ bytes "event=observe\nslot=0\nid=0\nxmin=0\nclock=20\nsample=11\n")
      ≡ accepted (lent (4 ∷ 0 ∷ 9 ∷ []) (3 ∷ 0 ∷ 4 ∷ []) pins (counted 20 11 2))
  -- the bound of a horizon is the least active id, 4, not the slot's own, 7
  above-the-least :
      answer entry Nobody (bytes "event=horizon\nslot=1\nid=0\nxmin=5\nclock=0\nsample=0\n") ≡ refused entry (Refuse (BadStep 1))
  -- the owner's slot is named, in the second step; the entry table comes back
  owner_named : answer entry first (end_of_slot1 ++ end_of_slot0) ≡ refused entry (Refuse (BadStep 2))
  -- .. which is an end as any other where nobody waits
  nobody_waits : answer entry Nobody end_of_slot0 ≡ accepted (lent (0 ∷ 7 ∷ 0 ∷ []) (0 ∷ 5 ∷ 0 ∷ []) pins (counted 8 6 2))
  -- a slot that the table doesn't have breaks a step
  no_such_slot : answer entry Nobody (bytes "event=end\nslot=3\nid=0\nxmin=0\nclock=0\nsample=0\n") ≡ refused entry (Refuse (BadStep 1))
  -- .. but one above 65,535 breaks the text, at its line
  slot_too_large :
      answer entry Nobody (bytes "event=end\nslot=70000\nid=0\nxmin=0\nclock=0\nsample=0\n") ≡ refused entry (Refuse (BadTrace 3))
  -- the order: 9 before 21, 21 before the owner, 2 before 4, 4 before 3, the owner before a step
  text_first : answer torn (Holds (slot 3) (txid 0)) (bytes "event=fork\n") ≡ refused torn (Refuse (BadTrace 2))
  entry_next : answer torn (Holds (slot 3) (txid 0)) [] ≡ refused torn (Refuse BadEntry)
  slot_next : answer entry (Holds (slot 3) (txid 0)) end_of_slot0 ≡ refused entry (Refuse (InvalidSlot (slot 3)))
  zero_next : answer entry (Holds (slot 0) (txid 0)) end_of_slot0 ≡ refused entry (Refuse ZeroTxid)
  holder-next :
      answer entry (Holds (slot 0) (txid 5)) end_of_slot0 ≡ refused entry (Refuse (SlotOwnershipMismatch (slot 0) (txid 5) (txid 4)))

answers : Answers
unfolding
    wait_of verdict_on steps_from ended event_test rule_of register_rule end_rule horizon_rule event_change change_by passes slots_pass differ
    free_pins pins_pass listed active minimum read_text name_at first_named name_line found_from found_in item_at fields_at field_rules limit
    lines_at field_at number_at number_from number_tail starts
answers = record {
  nothing = refl;
  each-once = refl;
  above-the-least = refl;
  owner_named = refl;
  nobody_waits = refl;
  no_such_slot = refl;
  slot_too_large = refl;
  text_first = refl;
  entry_next = refl;
  slot_next = refl;
  zero_next = refl;
  holder-next = refl;
}
