-- Who holds the tiles: what may be concluded from the holder that oldest and vacuum name. docs/PROMISE.md has it in words.
use Rattle.std.specs.Prelude.{ℕ, ◌+◌, ◌≤◌, ◌<◌, ◌≡◌, ◌≢◌, List, [], ◌∷◌, ◌++◌}
use Rattle.model.specs.declared.Table.{Table}
use Rattle.model.specs.Answer.{Oldest, Line}
use Rattle.model.specs.Tally.{no_holder, first_pin}
use Rattle.model.specs.Tables.{txid_at, xmin_at, pin_at}
use Rattle.model.specs.Calls.{Call, oldest, vacuum, answer}
use Rattle.model.specs.History.{reached}
use Rattle.model.specs.Promise.{line_after}

-- slot i is taken and retains x, and no lower taken slot retains it
pub record Holds (t : Table) (x i : ℕ) : Type 0 where
  pub taken : txid_at t i ≢ 0
  pub retains : xmin_at t i ≡ x
  pub lowest : (j : ℕ) → j < i → txid_at t j ≢ 0 → xmin_at t j ≢ x

-- pin k is taken and holds x, and no lower pin does; no taken slot retains it
pub record PinHolds (t : Table) (x k : ℕ) : Type 0 where
  pub taken : pin_at t k ≢ 0
  pub retains : pin_at t k ≡ x
  pub lowest : (j : ℕ) → j < k → pin_at t j ≢ 0 → pin_at t j ≢ x
  pub no_slot : (i : ℕ) → txid_at t i ≢ 0 → xmin_at t i ≢ x

-- whom the number names: that slot, or pin k where it is 2,000 + k
pub data Names (t : Table) (x holder : ℕ) : Type 0 where
  a_slot : Holds t x holder → Names t x holder
  a_pin : (k : ℕ) → holder ≡ first_pin + k → PinHolds t x k → Names t x holder

-- whom the number names is in u as it is in t: the slot with its transaction and its snapshot_xmin, the pin with its xmin
pub record HolderKept (t u : Table) (holder : ℕ) : Type 0 where
  pub transaction : txid_at u holder ≡ txid_at t holder
  pub xmin : xmin_at u holder ≡ xmin_at t holder
  pub pinned : (k : ℕ) → holder ≡ first_pin + k → pin_at u k ≡ pin_at t k

-- an oldest, and a vacuum, at the end of a history answers this
abbrev pub Finds : ℕ → List Call → ℕ → ℕ → ℕ → ℕ → Type 0
Finds n cs clock sample xmin holder = answer n (reached n cs) (oldest clock sample) ≡ Oldest xmin holder

abbrev pub Raises : ℕ → List Call → ℕ → ℕ → ℕ → ℕ → Type 0
Raises n cs clock sample line holder = answer n (reached n cs) (vacuum clock sample) ≡ Line line holder

-- all through the later calls, the holder is kept as it was at the end of the former ones
abbrev pub KeptAllThrough : ℕ → List Call → List Call → ℕ → Type 0
KeptAllThrough n before later holder =
    (p q : List Call) → later ≡ p ++ q → HolderKept (reached n before) (reached n (before ++ p)) holder

-- for every history and every call in it, whatever its arguments
pub record HolderPromise (n : ℕ) : Type 0 where
  -- the slot or pin that is named holds the result
  pub named :
      (cs : List Call) (clock sample xmin holder : ℕ) → Finds n cs clock sample xmin holder → holder ≢ no_holder →
      Names (reached n cs) xmin holder
  -- where none is named, the result is the sample itself; of as many slots as have numbers below 65,535
  pub nobody :
      n ≤ no_holder → (cs : List Call) (clock sample xmin : ℕ) → Finds n cs clock sample xmin no_holder → xmin ≡ sample
  -- as long as the named slot keeps its transaction and its snapshot_xmin, or the named pin its xmin, no later oldest answers
  -- above that result
  pub held_back :
      (before later : List Call) (clock sample xmin holder : ℕ) → Finds n before clock sample xmin holder →
      holder ≢ no_holder → HolderKept (reached n before) (reached n (before ++ later)) holder →
      (clock' sample' xmin' holder' : ℕ) → Finds n (before ++ later) clock' sample' xmin' holder' → xmin' ≤ xmin
  -- vacuum names whom oldest names, also where the former line is kept
  pub passed_on :
      (cs : List Call) (clock sample line holder : ℕ) → Raises n cs clock sample line holder →
      (xmin : ℕ) × Finds n cs clock sample xmin holder × (xmin ≤ line)
  -- .. so the line stands still as long as whom a vacuum named is kept so
  pub line-held :
      (before later : List Call) (clock sample line holder : ℕ) → Raises n before clock sample line holder →
      holder ≢ no_holder → KeptAllThrough n (before ++ vacuum clock sample ∷ []) later holder →
      line_after n (before ++ vacuum clock sample ∷ later) ≡ line
