-- The promise to vacuum: docs/PROMISE.md has it in words.
use Rattle.std.specs.Prelude.{ℕ, ◌≤◌, ◌<◌, ◌≡◌, List, [], ◌∷◌, ◌++◌, true}
use Rattle.std.proofs.Math.Option.{some}
use Rattle.kinds.specs.declared.SlotNo.{SlotNo}
use Rattle.kinds.specs.declared.Txid.{Txid}
use Rattle.kinds.specs.declared.PinNo.{PinNo}
use Rattle.settled.specs.declared.Snapshot.{Snapshot}
use Rattle.settled.specs.Settled.{settled_in}
use Rattle.model.specs.Answer.{Line}
use Rattle.model.specs.Tables.{line_of}
use Rattle.model.specs.Calls.{Call, vacuum, answer, shown}
use Rattle.model.specs.Deeds.{takes_snapshot}
use Rattle.model.specs.Accepted.{Registered}
use Rattle.model.specs.History.{reached, Accepts, last_own}
use Rattle.model.specs.Pins.{held_snapshot}

-- each id from 1 up to but not including the line is below xmax and not listed in flight: the settled test's own definition
abbrev pub SettledBelow : ℕ → Snapshot → Type 0
SettledBelow line s = (x : ℕ) → 1 ≤ x → x < line → settled_in s.xmax s.ids s.count x ≡ true

-- the line that a history has reached: what the last accepted vacuum answered, 1 before any; what every record prints
abbrev pub line_after : ℕ → List Call → ℕ
line_after n cs = line_of (reached n cs)

-- the snapshots that are covered at the end of a history: the last transaction snapshot of each transaction then registered, and
-- the snapshot that each pin then holds
pub data Covered (n : ℕ) (cs : List Call) (s : Snapshot) : Type 0 where
  of_transaction :
      (slot : SlotNo) (id : Txid) → Registered (reached n cs) slot id → last_own n slot id cs ≡ some s → Covered n cs s
  of_pin : (k : PinNo) → held_snapshot n k cs ≡ some s → Covered n cs s

-- for every number of slots, every history and every call in it, whatever its arguments
pub record Promise (n : ℕ) : Type 0 where
  -- the line never falls
  pub never_falls : (before after : List Call) → line_after n before ≤ line_after n (before ++ after)
  -- for every line given out: in the last transaction snapshot of every transaction then registered, in every snapshot then
  -- pinned ..
  pub held : (cs : List Call) (s : Snapshot) → Covered n cs s → SettledBelow (line_after n cs) s
  -- .. and in every transaction snapshot and every pinned one taken later
  pub later :
      (before after : List Call) (c : Call) → takes_snapshot c ≡ true → Accepts n (reached n (before ++ after)) c →
      SettledBelow (line_after n before) (shown n (reached n (before ++ after)) c)

-- a vacuum at the end of a history answers this line, whoever it names: it is given out
abbrev pub Gives : ℕ → List Call → ℕ → ℕ → ℕ → Type 0
Gives n cs clock sample line = (holder : ℕ) × (answer n (reached n cs) (vacuum clock sample) ≡ Line line holder)

-- the same, said of the lines that vacuum answers
pub record VacuumPromise (n : ℕ) : Type 0 where
  -- the answer is the table's line from then on
  pub is-line :
      (cs : List Call) (clock sample line : ℕ) → Gives n cs clock sample line →
      line ≡ line_after n (cs ++ vacuum clock sample ∷ [])
  pub never_falls :
      (before after : List Call) (clock sample line clock' sample' line' : ℕ) → Gives n before clock sample line →
      Gives n (before ++ vacuum clock sample ∷ after) clock' sample' line' → line ≤ line'
  pub held :
      (cs : List Call) (clock sample line : ℕ) → Gives n cs clock sample line → (s : Snapshot) →
      Covered n (cs ++ vacuum clock sample ∷ []) s → SettledBelow line s
  pub later :
      (before after : List Call) (clock sample line : ℕ) → Gives n before clock sample line → (c : Call) →
      takes_snapshot c ≡ true → Accepts n (reached n (before ++ vacuum clock sample ∷ after)) c →
      SettledBelow line (shown n (reached n (before ++ vacuum clock sample ∷ after)) c)
