-- Each part lies inside its run (crate's proofs/Choices.antt).
use Rattle.std.proofs.Common.{refl}
use Rattle.tiles.proofs.Choices.{newer_is, older_is, newer_within, older_within}
use lib.ListN.{length-take}
use native.Mathlib.Omega.{arith}
use Rattle.tiles.proofs.used.Goals as goal

pub slice_bounds-result-end : goal.slice_bounds-result-end
slice_bounds-result-end c =
    let fits = newer_within _ _ _ _ _ _ _ _ _ c.in_ok-coding.ensures (newer_is refl c.in-Newer.is) in
    rw length-take (omega (arith, fits))

pub slice_bounds-result-end-in-Older : goal.slice_bounds-result-end-in-Older
slice_bounds-result-end-in-Older c =
    let fits = older_within _ _ _ _ _ _ _ _ _ c.in_ok-coding.ensures (older_is refl c.in-Older.is) in
    rw length-take (omega (arith, fits))
