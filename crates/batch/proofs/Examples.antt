-- Histories worked out by computing: that the rule is not too narrow, that it is not wider than it may be, and what comes of an aborted ender.
use Prim.Native.Nat.{ℕ}
use native.Mathlib.Omega.{arith}
use mathlib.Core.Path.{◌≡◌, refl}
use mathlib.Core.Bool.{true}
use mathlib.Core.List.{List, [], ◌∷◌}
use mathlib.Core.Option.{some}
use Rattle.kinds.specs.Kinds.{free_pins, number, slot, txid}
use Rattle.settled.specs.declared.Snapshot.{Snapshot}
use Rattle.listed.specs.Listed.{listed}
use Rattle.settled.specs.Settled.{settled_in}
use Rattle.usable.specs.Usable.{usable_in}
use Rattle.model.specs.Tally.{active, retained, holder_from, lowest_empty, minimum, maximum, snapshot_of}
use Rattle.model.specs.Tables.{fresh_table}
use Rattle.model.specs.Calls.{Call, begin, end, own, vacuum, refusal, change_accepted, change_of, after, shown_accepted, shown}
use Rattle.model.specs.Accepted.{Registered}
use Rattle.model.specs.History.{run, reached, last_from, last_own}
use Rattle.model.specs.Promise.{line_after, Covered, of_transaction}
use Rattle.batch.specs.Batch.{judged_from, batch_of, decision_of, decisions, decisions_left}
use Rattle.batch.specs.Removal.{Removes, Needs}

abbrev version : ℕ → ℕ → List ℕ
version maker ender = maker ∷ ender ∷ []

-- Not wider. Transaction 1 makes a tile, 2 replaces it and is at work, and page 3 takes its snapshot, in which 2 is in flight.
-- The line is 2: a version whose ender equals the line is usable by that page, and its ender is not settled

abbrev until_page : List Call
until_page = begin (number 1) ∷ end (slot 0) (txid 1) ∷ begin (number 2) ∷ begin (number 3) ∷ own (slot 1) (txid 3) 4 4 ∷ vacuum 4 4 ∷ []

abbrev page_snapshot : Snapshot
page_snapshot = record { xmin = 2; xmax = 4; ids = 2 ∷ 3 ∷ []; count = 2 }

pub page-taken : (last_own 2 (slot 1) (txid 3) until_page ≡ some page_snapshot) × (line_after 2 until_page ≡ 2)
unfolding free_pins fresh_table run active retained holder_from lowest_empty minimum maximum refusal change_accepted change_of after snapshot_of
    shown_accepted shown last_from
page-taken = (refl, refl)

page_registered : Registered (reached 2 until_page) (slot 1) (txid 3)
unfolding free_pins fresh_table run active retained holder_from lowest_empty minimum maximum refusal change_accepted change_of after
page_registered = record { not_zero = λ e. omega arith; holds = refl }

pub page_covered : Covered 2 until_page page_snapshot
page_covered = of_transaction (slot 1) (txid 3) page_registered page-taken.0

-- by the page itself, and by a reader without an id; so it may not go, and does not
pub line_itself_needed : Needs page_snapshot 3 (version 1 2) × Needs page_snapshot 0 (version 1 2) × (decision_of 2 2 ≡ 0)
unfolding listed
line_itself_needed = (record { usable = refl; not_ended = refl }, record { usable = refl; not_ended = refl }, refl)

-- Not too narrow. The version that 1 made and ended itself goes, although the page may use it: its ender is settled

pub own-ender_goes :
    Removes 2 (version 1 2 ∷ version 1 1 ∷ []) (9 ∷ 9 ∷ []) 1
    × (usable_in page_snapshot.xmax page_snapshot.ids page_snapshot.count 3 1 ≡ true)
    × (settled_in page_snapshot.xmax page_snapshot.ids page_snapshot.count 1 ≡ true)
unfolding listed judged_from batch_of decisions decisions_left
own-ender_goes = (record { decided = refl; inside = omega arith; goes = refl }, refl, refl)

-- Settled is not committed. 1 makes a tile; 2 means to replace it and gives up; page 3 then takes its snapshot, and the line is 3.
-- An end is the same call whether the work was kept or not, so that 2 is settled. Passed as 2's, the tile that every page shows goes;
-- passed as still alive, with ender 0, it stays

abbrev until_given_up : List Call
until_given_up =
    begin (number 1) ∷ end (slot 0) (txid 1) ∷ begin (number 2) ∷ end (slot 0) (txid 2) ∷ begin (number 3)
    ∷ own (slot 0) (txid 3) 4 4 ∷ vacuum 4 4 ∷ []

abbrev later_snapshot : Snapshot
later_snapshot = record { xmin = 3; xmax = 4; ids = 3 ∷ 0 ∷ []; count = 1 }

pub given_up_taken : (last_own 2 (slot 0) (txid 3) until_given_up ≡ some later_snapshot) × (line_after 2 until_given_up ≡ 3)
unfolding free_pins fresh_table run active retained holder_from lowest_empty minimum maximum refusal change_accepted change_of after snapshot_of
    shown_accepted shown last_from
given_up_taken = (refl, refl)

pub given_up_lost :
    (usable_in later_snapshot.xmax later_snapshot.ids later_snapshot.count 3 1 ≡ true)
    × (settled_in later_snapshot.xmax later_snapshot.ids later_snapshot.count 2 ≡ true)
    × (decisions_left 3 (version 1 2 ∷ []) (9 ∷ []) ≡ 1 ∷ [])
    × (decisions_left 3 (version 1 0 ∷ []) (9 ∷ []) ≡ 0 ∷ [])
unfolding listed judged_from batch_of decisions decisions_left
given_up_lost = (refl, refl, refl, refl)
