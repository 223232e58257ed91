-- The table check (SPEC 6.1), computed.
use Rattle.std.specs.Prelude.{ℕ, List, [], ◌∷◌, Bool, true, false, cond, ◌&&◌, ◌||◌, not, ltb, leb, eqb, length}
use Rattle.kinds.specs.Kinds.{pin_count}
use Rattle.listed.specs.Listed.{listed}
use Rattle.model.specs.declared.Table.{Table}
use Rattle.model.specs.Tables.{clock_of, sample_of, line_of}

-- an empty slot has snapshot_xmin 0; a taken one has 1 ≤ snapshot_xmin ≤ txid < clock, and line ≤ txid
abbrev pub slot_passes : ℕ → ℕ → ℕ → ℕ → Bool
slot_passes clock line txid xmin =
    cond (eqb txid 0) (eqb xmin 0) (leb 1 xmin && (leb xmin txid && (ltb txid clock && leb line txid)))

-- every slot passes, and both columns have the same number of slots
unfoldable pub slots_pass : ℕ → ℕ → List ℕ → List ℕ → Bool
slots_pass clock line [] [] = true
slots_pass clock line [] (xmin ∷ xmins) = false
slots_pass clock line (txid ∷ txids) [] = false
slots_pass clock line (txid ∷ txids) (xmin ∷ xmins) =
    slot_passes clock line txid xmin && slots_pass clock line txids xmins

-- taken txids differ
unfoldable pub differ : List ℕ → Bool
differ [] = true
differ (txid ∷ txids) = (eqb txid 0 || not (listed txid txids)) && differ txids

-- a taken pin is from the line to the clock
abbrev pub pin_passes : ℕ → ℕ → ℕ → Bool
pin_passes clock line xmin = eqb xmin 0 || (leb line xmin && leb xmin clock)

unfoldable pub pins_pass : ℕ → ℕ → List ℕ → Bool
pins_pass clock line [] = true
pins_pass clock line (xmin ∷ pins) = pin_passes clock line xmin && pins_pass clock line pins

-- .. and there are as many pins as a table has
abbrev pub pin_column_passes : ℕ → ℕ → List ℕ → Bool
pin_column_passes clock line pins = eqb (length pins) pin_count && pins_pass clock line pins

-- there are n slots; 1 ≤ sample ≤ clock; 1 ≤ line ≤ clock
abbrev pub numbers_pass : ℕ → ℕ → ℕ → ℕ → ℕ → Bool
numbers_pass n size clock sample line =
    eqb size n && (leb 1 sample && (leb sample clock && (leb 1 line && leb line clock)))

unfoldable pub passes : ℕ → List ℕ → List ℕ → List ℕ → ℕ → ℕ → ℕ → Bool
passes n txids xmins pins clock sample line =
    numbers_pass n (length txids) clock sample line
    && (slots_pass clock line txids xmins && (differ txids && pin_column_passes clock line pins))

abbrev pub table_passes : ℕ → Table → Bool
table_passes n t = passes n t.txids t.snapshot_xmins t.pins (clock_of t) (sample_of t) (line_of t)
