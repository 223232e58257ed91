-- Where our rules differ from upstream's (docs/DIFFERENCES.md, D10): states and tables that show it, computed.
use Prim.Native.Nat.{ℕ}
use native.Mathlib.Omega.{arith}
use mathlib.Core.Path.{◌≡◌, refl}
use mathlib.Core.Logic.{◌≢◌}
use mathlib.Core.Bool.{false}
use mathlib.Core.List.{List, [], ◌∷◌}
use Rattle.kinds.specs.Kinds.{free_pins}
use Rattle.listed.specs.Listed.{listed}
use Rattle.model.specs.declared.Table.{Table}
use Rattle.model.specs.Tally.{active, minimum, retained}
use Rattle.model.specs.Tables.{counted, lent}
use Rattle.model.specs.Calls.{vacuum, refusal, after}
use Rattle.model.specs.Check.{slots_pass, differ, pins_pass, passes, table_passes}
use Rattle.upstream.specs.States.{State, state_of}
use Rattle.upstream.specs.Relations.{TableOf}
use Rattle.upstream.proofs.Yes.{from_yes}
use Rattle.events.specs.declared.Event.{Event}
use Rattle.wait_rules.specs.Owner.{Nobody}
use Rattle.wait_rules.specs.Steps.{register_rule, horizon_rule, rule_of, event_test, change_by, event_change, event_after}
use Rattle.wait.specs.Waits.{ended}
use Rattle.wait.proofs.Told.{registers, retains}
use Rattle.interference.specs.Interference.{Register, End, Horizon, Observe, WaitStep}
use Rattle.interference.proofs.Others.{vacuum_untold}

abbrev entry : Table
entry = lent (1 ∷ 2 ∷ []) (1 ∷ 1 ∷ []) free_pins (counted 3 3 1)

-- slot 1 may retain 2, its own id, by upstream's rule; by ours no more than 1, the least active id
pub own_id_allowed : WaitStep (state_of entry []) (state_of (event_after entry (retains 1 2)) []) (Horizon 1 2)
unfolding event_change change_by
own_id_allowed =
    record {
      inside = omega arith;
      positive = omega arith;
      within = omega arith;
      onward = omega arith;
      sample_positive = omega arith;
      sample_within = omega arith;
      slots = refl;
      reservations = refl;
    }

pub own_id_refused : event_test 2 entry Nobody (retains 1 2) ≡ false
unfolding event_test rule_of horizon_rule active minimum
own_id_refused = refl

-- upstream's horizon may move clock and sample, here from 3 and 3 to 9 and 7; ours moves neither, on any table
pub horizon_and_clock : WaitStep (state_of entry []) (state_of (lent (1 ∷ 2 ∷ []) (1 ∷ 1 ∷ []) free_pins (counted 9 7 1)) []) (Horizon 1 1)
horizon_and_clock =
    record {
      inside = omega arith;
      positive = omega arith;
      within = omega arith;
      onward = omega arith;
      sample_positive = omega arith;
      sample_within = omega arith;
      slots = refl;
      reservations = refl;
    }

pub horizon_alone : (t : Table) (i xmin : ℕ) → (event_after t (retains i xmin)).counters ≡ t.counters
unfolding event_change change_by
horizon_alone t i xmin = refl

-- upstream's observe says neither clock nor sample: two ends of one step
abbrev observed_at : ℕ → State
observed_at clock = state_of (lent (1 ∷ 2 ∷ []) (1 ∷ 1 ∷ []) free_pins (counted clock 3 1)) []

pub observe_stays : WaitStep (state_of entry []) (observed_at 3) Observe
observe_stays =
    record { slots = refl; reservations = refl; clock = omega arith; sample_positive = omega arith; sample_within = omega arith }

pub observe_moves : WaitStep (state_of entry []) (observed_at 9) Observe
observe_moves =
    record { slots = refl; reservations = refl; clock = omega arith; sample_positive = omega arith; sample_within = omega arith }

-- number 0 on a table of clock 0, which passes no check: upstream registers it, ours doesn't
abbrev unset : Table
unset = lent (0 ∷ []) (0 ∷ []) free_pins (counted 0 0 0)

pub zero_allowed : WaitStep (state_of unset []) (state_of (event_after unset (registers 0 0)) (0 ∷ [])) (Register 0 0)
unfolding event_change change_by
zero_allowed =
    record {
      inside = omega arith;
      empty = refl;
      from_clock = omega arith;
      below_top = omega arith;
      slots = refl;
      clock = refl;
      sample = refl;
      reservations = refl;
    }

pub zero_refused : event_test 1 unset Nobody (registers 0 0) ≡ false
unfolding event_test rule_of register_rule
zero_refused = refl

-- a slot above 65,535 is a step that upstream doesn't allow; ours breaks the text (wait's `slot-too-large`)
pub outside_disallowed : (b : State) → WaitStep (state_of entry []) b (End 70000) → ⊥
outside_disallowed b s = let h = s.inside in omega arith

-- slot 0 holds 1 and the line is 2: upstream has no line and its part on slots and clocks holds; the entry table is refused by 21
abbrev past_line : Table
past_line = lent (1 ∷ []) (1 ∷ []) free_pins (counted 3 3 2)

pub past-line_formed : TableOf 1 (state_of past_line [])
unfolding passes slots_pass differ free_pins pins_pass listed
past-line_formed = (from_yes 1 (lent (1 ∷ []) (1 ∷ []) free_pins (counted 3 3 1)) refl).table

pub past-line-refused : table_passes 1 past_line ≡ false
unfolding passes slots_pass differ free_pins pins_pass listed
past-line-refused = refl

-- a vacuum that raises the line from 1 to 2: no events leave its table
abbrev behind : Table
behind = lent (2 ∷ []) (2 ∷ []) free_pins (counted 3 3 1)

pub raised_untold : (es : List Event) → ended behind es ≢ after 1 behind (vacuum 3 3)
unfolding refusal retained free_pins active minimum
raised_untold es = vacuum_untold 1 behind 3 3 es refl (λ e. omega arith)
