-- The table check as named facts.
use Rattle.std.specs.Prelude.{ℕ, ◌≤◌, ◌<◌, ◌≡◌, ◌≢◌, length}
use Rattle.model.specs.declared.Table.{Table}
use Rattle.kinds.specs.Kinds.{pin_count}
use Rattle.model.specs.Tables.{txid_at, xmin_at, pin_at, clock_of, sample_of, line_of}

-- an empty slot has snapshot_xmin 0; a taken one has 1 ≤ snapshot_xmin ≤ txid < clock, and line ≤ txid
pub data SlotGood (clock line txid xmin : ℕ) : Type 0 where
  empty : txid ≡ 0 → xmin ≡ 0 → SlotGood clock line txid xmin
  taken : 1 ≤ xmin → xmin ≤ txid → txid < clock → line ≤ txid → SlotGood clock line txid xmin

-- a taken pin is from the line to the clock
pub data PinGood (clock line xmin : ℕ) : Type 0 where
  pin_free : xmin ≡ 0 → PinGood clock line xmin
  pin_held : line ≤ xmin → xmin ≤ clock → PinGood clock line xmin

-- what a yes of the check says; a place past the last slot counts as empty, one past the last pin as free
pub record Good (n : ℕ) (t : Table) : Type 0 where
  pub txid_column : length t.txids ≡ n
  pub xmin_column : length t.snapshot_xmins ≡ n
  pub pin_column : length t.pins ≡ pin_count
  pub sample_from_1 : 1 ≤ sample_of t
  pub sample_to_clock : sample_of t ≤ clock_of t
  pub line_from_1 : 1 ≤ line_of t
  pub line_to_clock : line_of t ≤ clock_of t
  pub each : (i : ℕ) → SlotGood (clock_of t) (line_of t) (txid_at t i) (xmin_at t i)
  pub each_pin : (k : ℕ) → PinGood (clock_of t) (line_of t) (pin_at t k)
  pub differ : (i j : ℕ) → txid_at t i ≢ 0 → txid_at t i ≡ txid_at t j → i ≡ j
