-- Upstream's state, and how a table with the numbers reserved so far is one.
-- Names are upstream's (L:18-40); the flag `lifecycle_held` is left out.
use Rattle.std.specs.Prelude.{ℕ, ◌<◌, ◌≤◌, List, [], ◌∷◌, ◌++◌, ◌≡◌, Bool, true, false, length, get_or}
use Rattle.kinds.specs.Verdicts.{Verdict, tells}
use Rattle.model.specs.declared.Table.{Table}
use Rattle.model.specs.Tables.{clock_of, sample_of, pin_at}
use Rattle.model.specs.Calls.{Call, begin, end, snap, own, oldest, vacuum, stamp, finish, pin, unpin, refusal, after}
use Rattle.model.specs.Accepted.{Reserves, Observes}
use Rattle.model.specs.Reservations.{reserves_by}

pub record Slot : Type 0 where
  pub txid : ℕ
  pub snapshot_xmin : ℕ

pub record State : Type 0 where
  pub slots : List Slot
  pub clock : ℕ
  pub sampled_clock : ℕ
  pub reservations : List ℕ

abbrev pub slot : ℕ → ℕ → Slot
slot txid xmin = record { txid = txid; snapshot_xmin = xmin }

-- what slot i holds; past the last slot, what an empty one holds
abbrev pub at : List Slot → ℕ → Slot
at slots i = get_or slots i (slot 0 0)

-- our two columns as one run of slots
abbrev pub pairs : List ℕ → List ℕ → List Slot
pairs [] xmins = []
pairs (txid ∷ txids) [] = []
pairs (txid ∷ txids) (xmin ∷ xmins) = slot txid xmin ∷ pairs txids xmins

-- one more at the end
abbrev pub push : List ℕ → ℕ → List ℕ
push ids id = ids ++ id ∷ []

abbrev pub state_of : Table → List ℕ → State
state_of t history =
    record {
      slots = pairs t.txids t.snapshot_xmins;
      clock = clock_of t;
      sampled_clock = sample_of t;
      reservations = history;
    }

-- both columns of the table have n places, as every table of the code has
pub record Shaped (n : ℕ) (t : Table) : Type 0 where
  pub txids_size : length t.txids ≡ n
  pub xmins_size : length t.snapshot_xmins ≡ n

-- no pin is taken: upstream's oldest knows none
abbrev pub PinsFree : Table → Type 0
PinsFree t = (k : ℕ) → pin_at t k ≡ 0

-- the ids pushed, one after the other
abbrev pub pushes : List ℕ → List ℕ → List ℕ
pushes history [] = history
pushes history (id ∷ ids) = pushes (push history id) ids

-- the history after a call: what the call reserves is pushed
abbrev pub history_by : Verdict → List ℕ → Call → List ℕ
history_by v history c = pushes history (reserves_by v c)

-- upstream's state after one of our calls
abbrev pub state_after : ℕ → Table → List ℕ → Call → State
state_after n t history c = state_of (after n t c) (history_by (refusal n t c) history c)

-- upstream's outcomes by their numbers: 0, accepted, or one of its errors 1 to 3. So none of refusals 4 to 8, nor 13, nor another
abbrev pub Foreseen : Verdict → Type 0
Foreseen v = (tells v).number ≤ 3

-- upstream has no pins: a pinned snapshot and a release are none of its calls
abbrev pub pinning : Call → Bool
pinning (begin number) = false
pinning (end slot id) = false
pinning (snap clock sample) = false
pinning (own slot id clock sample) = false
pinning (oldest clock sample) = false
pinning (vacuum clock sample) = false
pinning (stamp number) = false
pinning (finish slot id number) = false
pinning (pin clock sample) = true
pinning (unpin k) = true

-- what upstream asks of a call's arguments, itself or by its trait, in our words: a number that may be reserved, a txid above 0,
-- a clock and a sample that may be observed. That the number is near the clock upstream does not ask; our refusal 13 does
abbrev pub Asked : Table → Call → Type 0
Asked t (begin number) = Reserves (clock_of t) number.0
Asked t (end slot id) = 0 < id.0
Asked t (snap clock sample) = Observes (clock_of t) clock sample
Asked t (own slot id clock sample) = (0 < id.0) × Observes (clock_of t) clock sample
Asked t (oldest clock sample) = Observes (clock_of t) clock sample
Asked t (vacuum clock sample) = Observes (clock_of t) clock sample
Asked t (stamp number) = Reserves (clock_of t) number.0
Asked t (finish slot id number) = (0 < id.0) × Reserves (clock_of t) number.0
-- .. and these it does not ask
Asked t (pin clock sample) = ⊥
Asked t (unpin k) = ⊥
