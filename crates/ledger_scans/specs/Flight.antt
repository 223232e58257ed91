-- The numbers of a snapshot.
use Rattle.std.specs.Prelude.{ℕ, List, length}
use Rattle.model.specs.Tally.{active, xmin_of, xmax_of}
use Rattle.ledger_scans.specs.declared.flight.Flight.{Flight}

unfoldable pub flight_of : List ℕ → ℕ → Flight
flight_of txids sample =
    record { xmin = xmin_of sample (active txids); xmax = xmax_of sample (active txids); count = length (active txids) }
