-- Histories worked out by computing: what the promise does not cover, and that no theorem here supposes the impossible.
use Prim.Native.Nat.{ℕ}
use mathlib.Core.Path.{◌≡◌, refl, sym}
use mathlib.Core.Bool.{true, true≢false}
use mathlib.Core.List.{List, [], ◌∷◌, ◌++◌}
use mathlib.Core.Option.{none, some}
use native.Mathlib.Omega.{arith}
use Rattle.kinds.specs.Kinds.{top, free_pins, number, slot, pin_no, txid}
use Rattle.kinds.specs.declared.told.Told.{Told}
use Rattle.kinds.specs.declared.refusal.Refusal.TheVariants.{NoFreeSlot, SlotOwnershipMismatch, BadReservation, InvalidPin}
use Rattle.kinds.specs.Verdicts.{Refuse}
use Rattle.settled.specs.declared.Snapshot.{Snapshot}
use Rattle.listed.specs.Listed.{listed}
use Rattle.settled.specs.Settled.{settled_in}
use Rattle.kinds.specs.Refusals.{told, consumed}
use Rattle.model.specs.Tally.{active, retained, holder_from, holder_of, no_holder, lowest_empty, minimum, maximum, snapshot_of}
use Rattle.model.specs.Answer.{Begun, Done, Pinned, Oldest, Line, Stamped, Refused}
use Rattle.model.specs.Answers.{tells_of, xmin_told, holder_told, numbers_of, numbers_beside}
use Rattle.model.specs.Tables.{fresh_table, clock_of}
use Rattle.model.specs.Calls.{Call, begin, end, snap, own, oldest, vacuum, stamp, finish, pin, unpin, refusal}
use Rattle.model.specs.Calls.{change_accepted, change_of, spent, after, answer_accepted, answer, shown_accepted, shown}
use Rattle.model.specs.Check.{slots_pass, differ, pins_pass, passes, table_passes}
use Rattle.model.specs.Accepted.{Registered}
use Rattle.model.specs.History.{run, reached, Accepts, Never, last_from, last_own}
use Rattle.model.specs.Observing.{observing}
use Rattle.model.specs.Reservations.{reservations_from, reservations}
use Rattle.model.specs.Counts.{accepted_from, begins, ends_and_finishes, taken_slots}
use Rattle.model.specs.Rows.{seen_from, seen_in, said, RowsHold, pin_rows}
use Rattle.model.specs.Pins.{held_from, held_snapshot}
use Rattle.model.specs.Promise.{SettledBelow, line_after, Covered, of_transaction, of_pin, Gives}
use Rattle.model.proofs.Never.{never_nil, never_cons}
use Rattle.model.proofs.Promise.{covered_settled, own_covered, pin_covered}

-- a snapshot at two slots
abbrev snapshot : ℕ → ℕ → List ℕ → ℕ → Snapshot
snapshot xmin xmax ids count = record { xmin = xmin; xmax = xmax; ids = ids; count = count }

-- Not covered: a plain snapshot. The table is empty and the line 100; plain snap 100/50 is accepted, and 60 is not settled in it

abbrev empty_at100 : List Call
empty_at100 = vacuum 100 100 ∷ []

abbrev plain_snapshot_lem : Snapshot
plain_snapshot_lem = snapshot 50 50 (0 ∷ 0 ∷ []) 0

pub plain_snapshot :
    (line_after 2 empty_at100 ≡ 100)
    × Accepts 2 (reached 2 empty_at100) (snap 100 50)
    × (shown 2 (reached 2 empty_at100) (snap 100 50) ≡ plain_snapshot_lem)
unfolding free_pins fresh_table run active retained minimum maximum refusal change_accepted change_of after
    snapshot_of shown_accepted shown
plain_snapshot = (refl, refl, refl)

pub plain_not_covered : SettledBelow (line_after 2 empty_at100) plain_snapshot_lem → ⊥
unfolding listed
plain_not_covered h = true≢false (sym (h 60 (omega arith) (rw plain_snapshot.0 (omega arith))))

-- Not covered: a replaced snapshot. Transaction 2 takes a snapshot that lists 1; 1 ends; 2 takes another, and the line rises to 2

abbrev until_first : List Call
until_first = begin (number 1) ∷ begin (number 2) ∷ own (slot 1) (txid 2) 3 3 ∷ []

abbrev until_second : List Call
until_second = until_first ++ end (slot 0) (txid 1) ∷ own (slot 1) (txid 2) 3 3 ∷ vacuum 3 3 ∷ []

abbrev first_snapshot : Snapshot
first_snapshot = snapshot 1 3 (1 ∷ 2 ∷ []) 2

abbrev second_snapshot : Snapshot
second_snapshot = snapshot 2 3 (2 ∷ 0 ∷ []) 1

pub replaced_snapshot :
    (last_own 2 (slot 1) (txid 2) until_first ≡ some first_snapshot)
    × (last_own 2 (slot 1) (txid 2) until_second ≡ some second_snapshot)
    × (line_after 2 until_second ≡ 2)
unfolding free_pins fresh_table run active retained holder_from lowest_empty minimum maximum refusal change_accepted change_of after snapshot_of
    shown_accepted shown last_from
replaced_snapshot = (refl, refl, refl)

pub replaced_not_covered : SettledBelow (line_after 2 until_second) first_snapshot → ⊥
unfolding listed
replaced_not_covered h = true≢false (sym (h 1 (omega arith) (rw replaced_snapshot.2 (omega arith))))

-- Covered, with a line above 1: the one that took its place

pub second_registered : Registered (reached 2 until_second) (slot 1) (txid 2)
unfolding free_pins fresh_table run active retained holder_from lowest_empty minimum maximum refusal change_accepted change_of after
second_registered = record { not_zero = λ e. omega arith; holds = refl }

pub second_covered : Covered 2 until_second second_snapshot
second_covered = of_transaction (slot 1) (txid 2) second_registered replaced_snapshot.1

pub second_settled : settled_in second_snapshot.xmax second_snapshot.ids second_snapshot.count 1 ≡ true
second_settled = covered_settled 2 until_second second_snapshot second_covered 1 (omega arith) (rw replaced_snapshot.2 (omega arith))

-- Covered, with a stale sample: the line is 100, the transaction samples 50, so that its xmin 50 is below the line

abbrev until_stale : List Call
until_stale = vacuum 100 100 ∷ begin (number 100) ∷ []

pub stale_snapshot :
    (line_after 2 until_stale ≡ 100)
    × Accepts 2 (reached 2 until_stale) (own (slot 0) (txid 100) 101 50)
    × (shown 2 (reached 2 until_stale) (own (slot 0) (txid 100) 101 50) ≡ snapshot 50 101 (100 ∷ 0 ∷ []) 1)
    × (line_after 2 (until_stale ++ own (slot 0) (txid 100) 101 50 ∷ vacuum 101 50 ∷ []) ≡ 100)
unfolding free_pins fresh_table run active retained holder_from lowest_empty minimum maximum refusal change_accepted change_of after
    snapshot_of shown_accepted shown
stale_snapshot = (refl, refl, refl, refl)

pub stale_covered :
    Covered 2 (until_stale ++ own (slot 0) (txid 100) 101 50 ∷ [])
    (shown 2 (reached 2 until_stale) (own (slot 0) (txid 100) 101 50))
stale_covered = own_covered 2 until_stale (slot 0) (txid 100) 101 50 stale_snapshot.1

-- Covered, with a stale sample: the line is 100 and nobody registered, and a pinned snapshot samples 50; it uses 100

pub pinned_snapshot :
    (line_after 2 empty_at100 ≡ 100)
    × Accepts 2 (reached 2 empty_at100) (pin 100 50)
    × (shown 2 (reached 2 empty_at100) (pin 100 50) ≡ snapshot 100 100 (0 ∷ 0 ∷ []) 0)
    × (line_after 2 (empty_at100 ++ pin 100 50 ∷ []) ≡ 100)
    × (line_after 2 (empty_at100 ++ pin 100 50 ∷ vacuum 200 200 ∷ []) ≡ 100)
    × (line_after 2 (empty_at100 ++ pin 100 50 ∷ unpin (pin_no 0) ∷ vacuum 200 200 ∷ []) ≡ 200)
unfolding free_pins fresh_table run active retained holder_from lowest_empty minimum maximum refusal change_accepted change_of after
    snapshot_of shown_accepted shown
pinned_snapshot = (refl, refl, refl, refl, refl, refl)

pub pinned_covered : Covered 2 (empty_at100 ++ pin 100 50 ∷ []) (shown 2 (reached 2 empty_at100) (pin 100 50))
pinned_covered = pin_covered 2 empty_at100 100 50 pinned_snapshot.1

pub pinned_settled : settled_in 100 (0 ∷ 0 ∷ []) 0 60 ≡ true
pinned_settled =
    rw pinned_snapshot.2
    at (covered_settled 2 (empty_at100 ++ pin 100 50 ∷ []) _ pinned_covered 60 (omega arith)
    (rw pinned_snapshot.3 (omega arith)))

-- Not covered: a snapshot whose pin was released, also where another one took the pin. The first lists 1, which then ends

abbrev until_pinned : List Call
until_pinned = begin (number 1) ∷ pin 2 2 ∷ []

abbrev until_released : List Call
until_released = until_pinned ++ end (slot 0) (txid 1) ∷ unpin (pin_no 0) ∷ vacuum 2 2 ∷ []

abbrev until_taken_again : List Call
until_taken_again = until_pinned ++ end (slot 0) (txid 1) ∷ unpin (pin_no 0) ∷ pin 2 2 ∷ vacuum 2 2 ∷ []

abbrev first_pinned : Snapshot
first_pinned = snapshot 1 2 (1 ∷ 0 ∷ []) 1

abbrev second_pinned : Snapshot
second_pinned = snapshot 2 2 (0 ∷ 0 ∷ []) 0

pub released_snapshot :
    (held_snapshot 2 (pin_no 0) until_pinned ≡ some first_pinned)
    × (held_snapshot 2 (pin_no 0) until_released ≡ none)
    × (line_after 2 until_released ≡ 2)
    × (held_snapshot 2 (pin_no 0) until_taken_again ≡ some second_pinned)
    × (line_after 2 until_taken_again ≡ 2)
unfolding free_pins fresh_table run active retained holder_from lowest_empty minimum maximum refusal change_accepted change_of after
    snapshot_of shown_accepted shown held_from
released_snapshot = (refl, refl, refl, refl, refl)

pub first-pinned_covered : Covered 2 until_pinned first_pinned
first-pinned_covered = of_pin (pin_no 0) released_snapshot.0

unsettled : (line : ℕ) → line ≡ 2 → SettledBelow line first_pinned → ⊥
unfolding listed
unsettled line e h = true≢false (sym (h 1 (omega arith) (rw e (omega arith))))

pub released_not_covered : Covered 2 until_released first_pinned → ⊥
released_not_covered c = unsettled _ released_snapshot.2 (covered_settled 2 until_released first_pinned c)

pub retaken_not_covered : Covered 2 until_taken_again first_pinned → ⊥
retaken_not_covered c = unsettled _ released_snapshot.4 (covered_settled 2 until_taken_again first_pinned c)

pub second_pinned_covered : Covered 2 until_taken_again second_pinned
second_pinned_covered = of_pin (pin_no 0) released_snapshot.3

-- A full table: refusal 1 consumes its number, and later numbers are above it

abbrev full : List Call
full = begin (number 1) ∷ begin (number 2) ∷ []

abbrev full_refused : List Call
full_refused = full ++ begin (number 3) ∷ []

pub full-table :
    (table_passes 2 (reached 2 full) ≡ true)
    × (taken_slots (reached 2 full) ≡ 2)
    × (refusal 2 (reached 2 full) (begin (number 3)) ≡ Refuse (NoFreeSlot (txid 3)))
    × ((reached 2 full_refused).counters.clock ≡ 4)
    × (reservations 2 full_refused ≡ 1 ∷ 2 ∷ 3 ∷ [])
unfolding free_pins fresh_table run active lowest_empty refusal consumed change_accepted change_of spent after slots_pass differ pins_pass listed passes
    reservations_from
full-table = (refl, refl, refl, refl, refl)

pub full-next :
    (refusal 2 (reached 2 full_refused) (finish (slot 1) (txid 2) (number 3)) ≡ Refuse BadReservation)
    × Accepts 2 (reached 2 full_refused) (finish (slot 1) (txid 2) (number 4))
    × Accepts 2 (reached 2 full_refused) (stamp (number 4))
    × Accepts 2 (reached 2 (full_refused ++ end (slot 0) (txid 1) ∷ [])) (begin (number 4))
    × (listed 3 (reservations 2 full_refused) ≡ true)
unfolding free_pins fresh_table run active lowest_empty refusal consumed change_accepted change_of spent after listed reservations_from
full-next = (refl, refl, refl, refl, refl)

-- Ends and finishes on a table that passes the check, and what the counts say of them

abbrev until_gone : List Call
until_gone = full ++ end (slot 0) (txid 1) ∷ finish (slot 1) (txid 2) (number 3) ∷ begin (number 4) ∷ []

pub gone :
    Accepts 2 (reached 2 full) (end (slot 0) (txid 1))
    × Accepts 2 (reached 2 full) (finish (slot 0) (txid 1) (number 3))
    × (begins 2 until_gone ≡ 3)
    × (ends_and_finishes 2 until_gone ≡ 2)
    × (taken_slots (reached 2 until_gone) ≡ 1)
unfolding free_pins fresh_table run active lowest_empty refusal change_accepted change_of after accepted_from
gone = (refl, refl, refl, refl, refl)

-- A vacuum that answers a line above 1, and one that a stale sample cannot lower

pub vacuums :
    Accepts 2 (reached 2 until_second) (vacuum 3 1)
    × Gives 2 (until_first ++ end (slot 0) (txid 1) ∷ own (slot 1) (txid 2) 3 3 ∷ []) 3 3 2
    × Gives 2 until_second 3 1 2
unfolding free_pins fresh_table run active retained holder_from lowest_empty minimum maximum refusal change_accepted change_of after answer_accepted answer
vacuums = (refl, (1, refl), (65535, refl))

-- The holder: the lowest of two that retain it; no empty slot; a slot also where the sample is as low; and of a vacuum that
-- keeps the line 5, the holder of what oldest finds: nobody's sample 3, and then a snapshot_xmin of 3

pub holders :
    (holder_of (9 ∷ 4 ∷ 7 ∷ []) (8 ∷ 3 ∷ 3 ∷ []) 3 no_holder ≡ 1)
    × (holder_of (0 ∷ 4 ∷ []) (0 ∷ 4 ∷ []) 0 no_holder ≡ 65535)
    × (answer 2 (reached 2 (begin (number 5) ∷ [])) (oldest 9 5) ≡ Oldest 5 0)
    × (answer 2 (reached 2 (begin (number 5) ∷ vacuum 9 5 ∷ [])) (vacuum 9 3) ≡ Line 5 65535)
    × (answer 2 (reached 2 (begin (number 5) ∷ vacuum 9 5 ∷ own (slot 0) (txid 5) 9 3 ∷ [])) (vacuum 9 9) ≡ Line 5 0)
unfolding free_pins fresh_table run active retained holder_from lowest_empty minimum maximum refusal change_accepted change_of after answer_accepted answer
holders = (refl, refl, refl, refl, refl)

-- The bound on the clock is reached: two stamps, each at the farthest number, take it to 1 + 2·(2^32 + 1). An observation may
-- take it to its end in one call

abbrev farthest_stamps_lem : List Call
farthest_stamps_lem = stamp (number 4294967297) ∷ stamp (number 8589934594) ∷ []

pub farthest_stamps : clock_of (reached 2 farthest_stamps_lem) ≡ 8589934595
unfolding free_pins fresh_table run refusal change_accepted change_of after
farthest_stamps = refl

pub farthest_unobserved : Never 2 (fresh_table 2) observing farthest_stamps_lem
farthest_unobserved =
    never_cons 2 _ observing _ _ (λ a. refl) (never_cons 2 _ observing _ _ (λ a. refl) (never_nil 2 _ observing))

pub observation_jumps :
    Accepts 2 (reached 2 []) (snap top 1) × (clock_of (reached 2 (snap top 1 ∷ [])) ≡ 18446744073709551615)
unfolding free_pins fresh_table run refusal change_accepted change_of after
observation_jumps = (refl, refl)

-- What pins do, at four slots

pub pins-at_four : RowsHold 4 (pin_rows 4)
unfolding consumed free_pins active retained holder_from lowest_empty minimum maximum snapshot_of fresh_table refusal change_accepted change_of
    spent after answer_accepted answer shown_accepted shown seen_from seen_in said pin_rows
pins-at_four = refl

-- What each case of an answer tells, in numbers; a snapshot's xmin and xmax stand in their places

abbrev told-numbers : ℕ → ℕ → ℕ → ℕ → Told
told-numbers k slot id seen = record { number = k; slot = slot; id = id; seen = seen; at = 0 }

abbrev beside : ℕ → ℕ → Snapshot
beside xmin xmax = snapshot xmin xmax (9 ∷ 0 ∷ []) 1

pub answers_in_numbers :
    (numbers_beside (Begun (slot 3) (txid 5)) (snapshot 0 0 [] 0) 7
    ≡ record { told = told-numbers 0 3 5 0; xmin = 0; xmax = 0; vacuum_line = 7; count = 0; holder = 0 })
    × (numbers_beside Done (beside 4 6) 7
    ≡ record { told = told-numbers 0 0 0 0; xmin = 4; xmax = 6; vacuum_line = 7; count = 1; holder = 0 })
    × (numbers_beside (Oldest 8 3) (snapshot 0 0 [] 0) 7
    ≡ record { told = told-numbers 0 0 0 0; xmin = 8; xmax = 0; vacuum_line = 7; count = 0; holder = 3 })
    × (numbers_beside (Line 9 4) (snapshot 0 0 [] 0) 9
    ≡ record { told = told-numbers 0 0 0 0; xmin = 0; xmax = 0; vacuum_line = 9; count = 0; holder = 4 })
    × (numbers_beside (Stamped (number 6)) (snapshot 0 0 [] 0) 7
    ≡ record { told = told-numbers 0 0 6 0; xmin = 0; xmax = 0; vacuum_line = 7; count = 0; holder = 0 })
    × (numbers_beside (Pinned (pin_no 5)) (beside 4 6) 7
    ≡ record { told = told-numbers 0 5 0 0; xmin = 4; xmax = 6; vacuum_line = 7; count = 1; holder = 0 })
    × (numbers_beside (Refused (InvalidPin (pin_no 64))) (snapshot 0 0 [] 0) 7
    ≡ record { told = told-numbers 15 64 0 0; xmin = 0; xmax = 0; vacuum_line = 7; count = 0; holder = 0 })
    × (numbers_beside (Refused (SlotOwnershipMismatch (slot 3) (txid 5) (txid 2))) (snapshot 0 0 [] 0) 7
    ≡ record { told = told-numbers 3 3 5 2; xmin = 0; xmax = 0; vacuum_line = 7; count = 0; holder = 0 })
unfolding told tells_of xmin_told holder_told numbers_of
answers_in_numbers = (refl, refl, refl, refl, refl, refl, refl, refl)
