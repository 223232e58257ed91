-- What a scan has found once it has read these slots too.
use Rattle.std.specs.Prelude.{ℕ, ◌+◌, List, length}
use Rattle.model.specs.Tally.{active, minimum, maximum}
use Rattle.taken_scans.specs.declared.snapshot.Found.{Found}

abbrev pub found_in : List ℕ → Found → Found
found_in slots before =
    record {
      count = before.count + length (active slots);
      low = minimum before.low (active slots);
      high = maximum before.high (active slots);
    }
