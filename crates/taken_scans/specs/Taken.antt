-- A snapshot of these txids without its ids.
use Rattle.std.specs.Prelude.{ℕ, List, length}
use Rattle.model.specs.Tally.{active, xmin_of, xmax_of}
use Rattle.taken_scans.specs.declared.snapshot.Taken.{Taken}

unfoldable pub taken_of : List ℕ → ℕ → Taken
taken_of txids sample =
    record { xmin = xmin_of sample (active txids); xmax = xmax_of sample (active txids); count = length (active txids) }
