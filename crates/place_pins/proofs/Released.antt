-- A release reads the pins alone: what is decided on the words' pins is decided on their table.
use Prim.Native.Nat.{ℕ}
use mathlib.Core.Path.{◌≡◌}
use mathlib.Core.List.{List}
use lib.ListN.{take, drop}
use Rattle.kinds.specs.declared.PinNo.{PinNo}
use Rattle.kinds.specs.Kinds.{pin_count}
use Rattle.model.specs.declared.Counters.{Counters}
use Rattle.model.specs.Tables.{lent_pins}
use Rattle.model.specs.Calls.{unpin, decision}
use Rattle.model.proofs.Lent.{lent_releases}
use Rattle.place.specs.Words.{pins_from, table_of}

pub release_words :
    (n : ℕ) (ws : List ℕ) (k : PinNo) {was : Counters} → was ≡ (table_of n ws).counters →
    decision n (lent_pins (take pin_count (drop (pins_from n) ws)) was) (unpin k) ≡ decision n (table_of n ws) (unpin k)
unfolding table_of
release_words n ws k e = rw e (lent_releases n (table_of n ws) k)
