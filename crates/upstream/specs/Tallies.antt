-- Upstream's tallies (L:55-87), by recursion on the number of slots read, as upstream defines them.
use Rattle.std.specs.Prelude.{ℕ, zero, suc, List, [], Bool, true, false, cond, eqb, ltb}
use Rattle.upstream.specs.States.{Slot, at, push}

-- x pushed, unless the slot is empty
abbrev pub pushed : Bool → ℕ → List ℕ → List ℕ
pushed true x ids = ids
pushed false x ids = push ids x

-- x where it is below m, unless the slot is empty
abbrev pub lowered : Bool → ℕ → ℕ → ℕ
lowered true x m = m
lowered false x m = cond (ltb x m) x m

unfoldable pub active : List Slot → ℕ → List ℕ
active slots zero = []
active slots (suc n) = pushed (eqb (at slots n).txid 0) (at slots n).txid (active slots n)

unfoldable pub minimum_active : List Slot → ℕ → ℕ → ℕ
minimum_active slots zero ceiling = ceiling
minimum_active slots (suc n) ceiling =
    lowered (eqb (at slots n).txid 0) (at slots n).txid (minimum_active slots n ceiling)

-- x where it is above m
abbrev pub raised : ℕ → ℕ → ℕ
raised x m = cond (ltb m x) x m

unfoldable pub maximum_active : List Slot → ℕ → ℕ
maximum_active slots zero = 0
maximum_active slots (suc n) = raised (at slots n).txid (maximum_active slots n)

unfoldable pub minimum_retention : List Slot → ℕ → ℕ → ℕ
minimum_retention slots zero ceiling = ceiling
minimum_retention slots (suc n) ceiling =
    lowered (eqb (at slots n).txid 0) (at slots n).snapshot_xmin (minimum_retention slots n ceiling)
