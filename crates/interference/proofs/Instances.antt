-- Waits and calls that meet the hypotheses of the theorems beside this file, so that none of them speaks of nothing. All are computed:
-- three slots, of which 0 and 1 were begun with 4 and 7 on a fresh table; who waits is the transaction 4 in slot 0.
use Prim.Native.Nat.{ℕ}
use mathlib.Core.Path.{◌≡◌, refl}
use mathlib.Core.List.{List, [], ◌∷◌, ◌++◌}
use Rattle.kinds.specs.Kinds.{free_pins, number, slot, txid}
use Rattle.kinds.specs.Verdicts.{Pass}
use Rattle.listed.specs.Listed.{listed}
use Rattle.model.specs.declared.Table.{Table}
use Rattle.model.specs.Tally.{active, minimum, lowest_empty}
use Rattle.model.specs.Tables.{counted, lent, fresh_table}
use Rattle.model.specs.Calls.{Call, begin, end, snap, own, oldest, vacuum, stamp, finish, refusal, change_accepted, change_of, after}
use Rattle.model.specs.History.{run, reached}
use Rattle.model.specs.Reservations.{reservations_from}
use Rattle.model.specs.Check.{slots_pass, differ, pins_pass, passes}
use Rattle.text.specs.Decimal.{number_tail, number_from, number_at}
use Rattle.text.specs.Bytes.{bytes, starts}
use Rattle.text.specs.Line.{field_at, lines_at}
use Rattle.text.specs.FiveLines.{limit, field_rules, fields_at}
use Rattle.grammar.specs.Names.{name_line, first_named, name_at}
use Rattle.grammar.specs.Items.{found_in, found_from}
use Rattle.grammar.specs.Named.{item_at}
use Rattle.grammar.specs.Texts.{read_text}
use Rattle.upstream.specs.States.{state_of}
use Rattle.upstream.specs.Relations.{HistoryOf}
use Rattle.upstream.proofs.Fresh.{from-fresh}
use Rattle.events.specs.Wait.{header}
use Rattle.wait_rules.specs.Owner.{Owner, Nobody, Holds}
use Rattle.wait_rules.specs.Steps.{register_rule, end_rule, rule_of, event_test, change_by, event_change}
use Rattle.wait.specs.Waits.{holder_test, steps_from, ended, verdict_on, wait_of}
use Rattle.wait.proofs.Told.{Tells, begin-told, full-told, end-told, own-told, stamp-told, finish-told, snap-told, oldest-told}
use Rattle.wait.proofs.Told.{registers, ends, retains, reserves_number, observes_clock}
use Rattle.interference.specs.Meanwhile.{Meanwhile, nothing, then}

abbrev two_begins_lem : List Call
two_begins_lem = begin (number 4) ∷ begin (number 7) ∷ []

abbrev entry : Table
entry = lent (4 ∷ 7 ∷ 0 ∷ []) (4 ∷ 7 ∷ 0 ∷ []) free_pins (counted 8 1 1)

pub entry_reached : reached 3 two_begins_lem ≡ entry
unfolding run refusal change_accepted change_of after free_pins fresh_table lowest_empty
entry_reached = refl

-- the history that fits it
pub entry_history : HistoryOf (state_of entry (4 ∷ 7 ∷ []))
unfolding run refusal change_accepted change_of after free_pins fresh_table lowest_empty reservations_from
entry_history = (from-fresh 3 two_begins_lem).history

-- the transaction 7 ended, 9 entered slot 2
abbrev text : List ℕ
text =
    header
    ++ bytes "event=end\nslot=1\nid=0\nxmin=0\nclock=0\nsample=0\n"
    ++ bytes "event=register\nslot=2\nid=9\nxmin=0\nclock=0\nsample=0\n"

abbrev first : Owner
first = Holds (slot 0) (txid 4)

-- an owner's wait, and nobody's, are accepted, with the table at their end ..
pub owner-accepted :
    wait_of 3 entry first text ≡ record { table = lent (4 ∷ 0 ∷ 9 ∷ []) (4 ∷ 0 ∷ 9 ∷ []) free_pins (counted 10 1 1); verdict = Pass }
unfolding
    wait_of verdict_on steps_from ended event_test rule_of register_rule end_rule event_change change_by passes slots_pass differ free_pins pins_pass
    listed read_text name_at first_named name_line found_from found_in item_at fields_at field_rules limit
    lines_at field_at number_at number_from number_tail starts
owner-accepted = refl

pub nobody-accepted :
    wait_of 3 entry Nobody text ≡ record { table = lent (4 ∷ 0 ∷ 9 ∷ []) (4 ∷ 0 ∷ 9 ∷ []) free_pins (counted 10 1 1); verdict = Pass }
unfolding
    wait_of verdict_on steps_from ended event_test rule_of register_rule end_rule event_change change_by passes slots_pass differ free_pins pins_pass
    listed read_text name_at first_named name_line found_from found_in item_at fields_at field_rules limit
    lines_at field_at number_at number_from number_tail starts
nobody-accepted = refl

-- .. and so are the calls after it: a begin with 12, an end, a transaction snapshot
abbrev over : Table
over = lent (4 ∷ 0 ∷ 9 ∷ []) (4 ∷ 0 ∷ 9 ∷ []) free_pins (counted 10 1 1)

record After : Type 0 where
  begins : refusal 3 over (begin (number 12)) ≡ Pass
  is_ended : refusal 3 over (end (slot 0) (txid 4)) ≡ Pass
  is_shown : refusal 3 over (own (slot 0) (txid 4) 12 11) ≡ Pass

after_it : After
unfolding refusal lowest_empty
after_it = record { begins = refl; is_ended = refl; is_shown = refl }

-- each call of another is told by its events, while 4 waits; on the full table, where slot 2 holds 9, a begin is a reserve
abbrev full : Table
full = lent (4 ∷ 7 ∷ 9 ∷ []) (4 ∷ 7 ∷ 9 ∷ []) free_pins (counted 10 1 1)

record EachTold : Type 0 where
  begun : Tells 3 first entry (begin (number 9)) (registers 2 9 ∷ [])
  not_begun : Tells 3 first full (begin (number 12)) (reserves_number 12 ∷ [])
  is_ended : Tells 3 first entry (end (slot 1) (txid 7)) (ends 1 ∷ [])
  is_shown : Tells 3 first entry (own (slot 1) (txid 7) 9 3) (observes_clock 9 3 ∷ retains 1 3 ∷ [])
  stamped : Tells 3 first entry (stamp (number 9)) (reserves_number 9 ∷ [])
  finished : Tells 3 first entry (finish (slot 1) (txid 7) (number 9)) (ends 1 ∷ reserves_number 9 ∷ [])
  seen : Tells 3 first entry (snap 9 3) (observes_clock 9 3 ∷ [])
  asked : Tells 3 first entry (oldest 9 3) (observes_clock 9 3 ∷ [])

each_told : EachTold
unfolding refusal lowest_empty active minimum
each_told =
    record {
      begun = begin-told 3 first entry (number 9) refl refl;
      not_begun = full-told 3 first full (number 12) refl;
      is_ended = end-told 3 first entry (slot 1) (txid 7) refl refl;
      is_shown = own-told 3 first entry (slot 1) (txid 7) 9 3 refl refl;
      stamped = stamp-told 3 first entry (number 9) refl;
      finished = finish-told 3 first entry (slot 1) (txid 7) (number 9) refl refl;
      seen = snap-told 3 first entry 9 3 refl;
      asked = oldest-told 3 first entry 9 3 refl;
    }

-- a wait of 4 in which others ended 7, began 9, raised the line and asked for an end that was refused
pub meanwhile :
    Meanwhile 3 first entry (end (slot 1) (txid 7) ∷ begin (number 9) ∷ vacuum 13 13 ∷ end (slot 1) (txid 7) ∷ [])
meanwhile = then (λ a. refl) (then (λ a. tt) (then (λ a. tt) (then (λ a. refl) nothing)))

pub owner-holds : holder_test 3 entry first ≡ Pass
owner-holds = refl
