-- What the walk has found before a place is what `held_from` finds from there on; one place a turn (`Walk.antt`).
use Prim.Native.Nat.{◌+◌}
use mathlib.Core.Path.{◌≡◌}
use lib.ListN.{drop}
use Rattle.ledger_scans.specs.Held.{held_from}
use Rattle.ledger_scans.proofs.held.held_among.Given as goal

abbrev pub invariant-loop-place : goal.invariant-loop-place
invariant-loop-place l =
    l.held ≡ held_from (l.first + l.place) (drop l.place l.taken) (drop l.place l.xmins) l.initial.held
