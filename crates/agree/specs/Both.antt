-- A record run by both engines: they print the same, and the table takes its next step.
use Rattle.std.specs.Prelude.{ℕ, ◌≡◌, Option, IsSomeAnd}
use Rattle.model.specs.declared.Table.{Table}
use Rattle.model.specs.declared.change.Change.{Change}
use Rattle.model.specs.Changes.{applied}
use Rattle.model.specs.Calls.{Call, after}

abbrev pub BothFits : ℕ → Table → Call → Option Change → Type 0
BothFits n t c same = IsSomeAnd same (λ change. applied t change ≡ after n t c)
