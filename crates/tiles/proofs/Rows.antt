-- The tile's definition at values worked out by hand from SPEC 7.4: four slots, xmax 20, the ids 10 and 14 listed.
-- The older run is 1, 2, 3 at block 7, the newer 4, 5 at block 8.
use Prim.Native.Nat.{ℕ}
use mathlib.Core.Path.{◌≡◌, refl}
use mathlib.Core.List.{List, [], ◌∷◌}
use Rattle.kinds.specs.Kinds.{txid, top}
use Rattle.kinds.specs.Refusals.{told}
use Rattle.settled.specs.declared.Snapshot.{Snapshot}
use Rattle.listed.specs.Listed.{listed}
use Rattle.tiles.specs.Tiles.{Bytes, Tile, choice, tile_of}

abbrev shown : ℕ → Snapshot
shown count = record { xmin = 10; xmax = 20; ids = 10 ∷ 14 ∷ 0 ∷ 0 ∷ []; count = count }

abbrev run : ℕ → List ℕ → Bytes
run block bytes = record { ref_ptr = (block, 0); now = bytes }

-- a count, the reader's own id, a maker, and the two used lengths
abbrev read : ℕ → ℕ → ℕ → ℕ → ℕ → Tile
read count own maker olderUsed newerUsed =
    tile_of 4 (shown count) (txid own) (txid maker) (run 7 (1 ∷ 2 ∷ 3 ∷ [])) olderUsed (run 8 (4 ∷ 5 ∷ [])) newerUsed

-- by a reader with no id
abbrev asked : ℕ → ℕ → ℕ → ℕ → Tile
asked count maker olderUsed newerUsed = read count 0 maker olderUsed newerUsed

abbrev of_older : List ℕ → Tile
of_older bytes = record { refusal = 0; part = record { bytes = bytes; start = (7, 0) } }

abbrev of_newer : List ℕ → Tile
of_newer bytes = record { refusal = 0; part = record { bytes = bytes; start = (8, 0) } }

abbrev refused : ℕ → Tile
refused number = record { refusal = number; part = record { bytes = []; start = (7, 0) } }

-- settled, listed, at xmax, and an id that the list holds past its count
pub who :
    asked 2 9 3 2 ∷ asked 2 14 3 2 ∷ asked 2 20 3 2 ∷ asked 1 14 3 2 ∷ []
    ≡ of_newer (4 ∷ 5 ∷ []) ∷ of_older (1 ∷ 2 ∷ 3 ∷ []) ∷ of_older (1 ∷ 2 ∷ 3 ∷ []) ∷ of_newer (4 ∷ 5 ∷ []) ∷ []
unfolding choice listed
who = refl

-- used lengths within the run, and none used: an empty part is still a part of the run that is chosen
pub lengths :
    asked 2 9 0 1 ∷ asked 2 10 2 0 ∷ asked 2 9 3 0 ∷ asked 2 10 0 2 ∷ []
    ≡ of_newer (4 ∷ []) ∷ of_older (1 ∷ 2 ∷ []) ∷ of_newer [] ∷ of_older [] ∷ []
unfolding choice listed
lengths = refl

-- 11 for either run, whichever would be chosen; one beyond, and the largest
pub beyond :
    asked 2 9 3 3 ∷ asked 2 9 4 2 ∷ asked 2 10 4 2 ∷ asked 2 10 3 3 ∷ asked 2 9 top 2 ∷ asked 2 10 3 top ∷ []
    ≡ refused 11 ∷ refused 11 ∷ refused 11 ∷ refused 11 ∷ refused 11 ∷ refused 11 ∷ []
unfolding choice listed told
beyond = refl

-- the order: 10 before 4 and 11, 4 before 11
pub order :
    asked 5 9 3 2 ∷ asked 5 0 3 2 ∷ asked 5 9 4 3 ∷ asked 5 0 4 3 ∷ asked 4 0 3 2 ∷ asked 4 0 4 3 ∷ []
    ≡ refused 10 ∷ refused 10 ∷ refused 10 ∷ refused 10 ∷ refused 4 ∷ refused 4 ∷ []
unfolding choice listed told
order = refl

-- a transaction reads its own coding back: in flight, at xmax, beside others, and never where a refusal is given
pub own :
    read 2 14 14 3 2 ∷ read 2 20 20 3 2 ∷ read 2 10 14 3 2 ∷ read 2 14 9 3 2 ∷ read 2 14 14 4 2 ∷ read 5 14 14 3 2 ∷ []
    ≡ of_newer (4 ∷ 5 ∷ []) ∷ of_newer (4 ∷ 5 ∷ []) ∷ of_older (1 ∷ 2 ∷ 3 ∷ []) ∷ of_newer (4 ∷ 5 ∷ []) ∷ refused 11
    ∷ refused 10 ∷ []
unfolding choice listed told
own = refl
