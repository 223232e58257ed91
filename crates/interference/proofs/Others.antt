-- What our calls do during a wait is upstream's trace too; and a vacuum that raises the line is told by no events at all, nor is
-- a pinned snapshot or a release, but an observe tells all of a vacuum but the line, and of a pinned snapshot all but the pin.
use Prim.Native.Nat.{ℕ}
use mathlib.Core.Path.{◌≡◌, sym, ap, ◌∙◌}
use mathlib.Core.Logic.{◌≢◌}
use mathlib.Core.List.{List, [], ◌∷◌}
use Rattle.model.specs.declared.Table.{Table}
use Rattle.model.specs.Tables.{line_of}
use Rattle.model.specs.Calls.{Call, vacuum, raised_line, change_accepted, change_of, after}
use Rattle.model.specs.Facts.{Good}
use Rattle.model.specs.History.{Accepts}
use Rattle.upstream.specs.States.{state_of}
use Rattle.upstream.proofs.Yes.{beside}
use Rattle.events.specs.declared.Event.{Event}
use Rattle.wait_rules.specs.Owner.{Owner}
use Rattle.wait_rules.specs.Steps.{change_by, event_change}
use Rattle.wait.specs.Waits.{ended}
use Rattle.wait.proofs.Waits.{line-ended}
use Rattle.wait.proofs.Told.{Tells, observes_clock}
use Rattle.interference.specs.Interference.{Valid, events_told_by, history_after}
use Rattle.interference.proofs.Steps.{steps_valid}

-- events that tell of a call, on a table that passes the check, are a valid trace to the table that the call leaves
pub told_traced : (n : ℕ) (owner : Owner) (t : Table) (c : Call) (es : List Event) (h : List ℕ) → Good n t → Tells n owner t c es
    → Valid owner (state_of t h) (state_of (after n t c) (history_after h es)) (events_told_by es)
told_traced n owner t c es h g w = rw (sym w.leave) (steps_valid n owner t 1 h es g (w.keep 1))

-- no events leave what a vacuum leaves that raises the line
pub vacuum_untold : (n : ℕ) (t : Table) (clock sample : ℕ) (es : List Event) → Accepts n t (vacuum clock sample)
    → raised_line t sample ≢ line_of t → ended t es ≢ after n t (vacuum clock sample)
unfolding after change_of change_accepted
vacuum_untold n t clock sample es a d e =
    let raised : line_of (after n t (vacuum clock sample)) ≡ raised_line t sample = rw a in
    d (sym raised ∙ ap line_of (sym e) ∙ line-ended t es)

-- .. but an observe leaves it, with the former line
pub vacuum-observed : (n : ℕ) (t : Table) (clock sample : ℕ) → Accepts n t (vacuum clock sample)
    → ended t (observes_clock clock sample ∷ []) ≡ beside t.pins (line_of t) (after n t (vacuum clock sample))
unfolding ended event_change change_by after change_of change_accepted
vacuum-observed n t clock sample a = rw a
