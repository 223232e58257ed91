-- States that meet the hypotheses of the proofs beside this file, so that none of them speaks of nothing; and tables of the
-- right shape on which a clause fails, so that its condition is needed. All are computed.
use Prim.Native.Nat.{ℕ}
use mathlib.Core.Path.{◌≡◌, refl}
use mathlib.Core.Bool.{true, false}
use mathlib.Core.List.{List, [], ◌∷◌, map}
use native.Mathlib.Omega.{arith}
use Rattle.kinds.specs.Kinds.{top, free_pins, number, slot, txid}
use Rattle.kinds.specs.Refusals.{told}
use Rattle.kinds.specs.declared.refusal.Refusal.TheVariants.{NoFreeSlot, InvalidSlot, SlotOwnershipMismatch, WildJump}
use Rattle.kinds.specs.Verdicts.{Pass, Refuse}
use Rattle.model.specs.declared.Table.{Table}
use Rattle.model.specs.Tally.{active, lowest_empty, minimum, maximum, snapshot_of}
use Rattle.model.specs.Tables.{fresh_table, counted, txid_at, lent}
use Rattle.model.specs.Calls.{Call, begin, end, snap, own, oldest, stamp, finish}
use Rattle.model.specs.Calls.{refusal, change_accepted, change_of, after, answer, shown_accepted, shown}
use Rattle.model.specs.Answers.{tells_of}
use Rattle.model.specs.History.{run, reached}
use Rattle.model.specs.Reservations.{reservations_from, reservations}
use Rattle.model.specs.Check.{slots_pass, differ, pins_pass, passes, table_passes}
use Rattle.listed.specs.Listed.{listed}
use Rattle.upstream.specs.States.{state_of, state_after}
use Rattle.upstream.specs.Clauses.{ReservePublicationClock}

-- two slots, taken by 4 and by 7
abbrev two_begins : List Call
two_begins = begin (number 4) ∷ begin (number 7) ∷ []

abbrev both-taken : Table
both-taken = reached 2 two_begins

-- with the numbers 4, 7
pub both-reserved : reservations 2 two_begins ≡ 4 ∷ 7 ∷ []
unfolding reservations_from refusal change_accepted change_of after fresh_table lowest_empty
both-reserved = refl

-- the check says yes of it
pub both_pass : table_passes 2 both-taken ≡ true
unfolding run refusal change_accepted change_of after free_pins fresh_table lowest_empty passes slots_pass differ pins_pass listed
both_pass = refl

-- every verdict that upstream foresees is given there: a begin on the full table, an end of a slot outside and of another's, and
-- each call accepted. The sample is below both ids
pub both_foreseen :
    map (refusal 2 both-taken)
    (begin (number 9)
    ∷ end (slot 2) (txid 4)
    ∷ end (slot 0) (txid 7)
    ∷ end (slot 0) (txid 4)
    ∷ snap 9 3
    ∷ own (slot 1) (txid 7) 9 3
    ∷ oldest 9 3
    ∷ stamp (number 9)
    ∷ finish (slot 0) (txid 4) (number 9)
    ∷ [])
    ≡ Refuse (NoFreeSlot (txid 9))
    ∷ Refuse (InvalidSlot (slot 2))
    ∷ Refuse (SlotOwnershipMismatch (slot 0) (txid 7) (txid 4))
    ∷ Pass
    ∷ Pass
    ∷ Pass
    ∷ Pass
    ∷ Pass
    ∷ Pass
    ∷ []
unfolding run refusal change_accepted change_of after fresh_table lowest_empty
both_foreseen = refl

pub stale_xmax : shown 2 both-taken (own (slot 1) (txid 7) 9 3) ≡ record { xmin = 3; xmax = 8; ids = 4 ∷ 7 ∷ []; count = 2 }
unfolding run refusal change_accepted change_of after fresh_table lowest_empty shown_accepted shown snapshot_of active minimum maximum
stale_xmax = refl

-- the clock there is 8: the number 2^32 above it is stamped. Upstream would stamp the next one too; ours is refusal 13, and
-- upstream's clause on the number fails
pub farthest-stamped : refusal 2 both-taken (stamp (number 4294967304)) ≡ Pass
unfolding run refusal change_accepted change_of after fresh_table lowest_empty
farthest-stamped = refl

pub past-farthest : refusal 2 both-taken (stamp (number 4294967305)) ≡ Refuse WildJump
unfolding run refusal change_accepted change_of after fresh_table lowest_empty
past-farthest = refl

pub past-farthest_fails :
    (history : List ℕ) →
    ReservePublicationClock 2 (state_of both-taken history) (state_after 2 both-taken history (stamp (number 4294967305)))
    (tells_of (answer 2 both-taken (stamp (number 4294967305)))) →
    ⊥
unfolding run refusal change_accepted change_of after fresh_table lowest_empty answer tells_of told
past-farthest_fails history r = omega (arith, r.l_stamp_e2.from_clock)

-- two slots hold 5: the check says no, a finish of 5 in slot 0 is accepted, and slot 1 holds 5 after it
abbrev twice : Table
twice = lent (5 ∷ 5 ∷ []) (5 ∷ 5 ∷ []) free_pins (counted 6 1 1)

pub twice_fails : table_passes 2 twice ≡ false
unfolding passes slots_pass differ listed
twice_fails = refl

pub twice_finished : refusal 2 twice (finish (slot 0) (txid 5) (number 6)) ≡ Pass
unfolding refusal
twice_finished = refl

pub twice_held : txid_at (after 2 twice (finish (slot 0) (txid 5) (number 6))) 1 ≡ 5
unfolding refusal change_accepted change_of after
twice_held = refl

-- a slot holds 2^64 − 1: xmax is held there, and is not the largest txid plus 1
abbrev at_top : Table
at_top = lent (top ∷ []) (1 ∷ []) free_pins (counted top 1 1)

pub top-held : (shown 1 at_top (snap top 1)).xmax ≡ top
unfolding refusal shown_accepted shown snapshot_of active maximum
top-held = refl
