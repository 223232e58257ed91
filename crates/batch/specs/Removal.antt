-- What the vacuum may conclude of a version for which a batch says 1: docs/PROMISE.md has it in words.
use Rattle.std.specs.Prelude.{ℕ, ◌<◌, ◌≡◌, true, false, List, [], ◌++◌, length, get_or}
use Rattle.settled.specs.declared.Snapshot.{Snapshot}
use Rattle.settled.specs.Settled.{settled_in}
use Rattle.usable.specs.Usable.{usable_in}
use Rattle.model.specs.Calls.{Call, shown}
use Rattle.model.specs.Deeds.{takes_snapshot}
use Rattle.model.specs.History.{reached, Accepts}
use Rattle.model.specs.Promise.{line_after, Covered}
use Rattle.batch.specs.Batch.{maker, ender, batch_of, decisions_left}
use Rattle.batch.specs.Batched.{Decided}

-- a batch with this line, these versions and this run is decided, and 1 stands at the place of version i
pub record Removes (line : ℕ) (versions : List (List ℕ)) (run : List ℕ) (i : ℕ) : Type 0 where
  pub decided : batch_of versions (length run) ≡ Decided
  pub inside : i < length versions
  pub goes : get_or (decisions_left line versions run) i 0 ≡ 1

-- a reader of the snapshot, with this own id or 0 for none, may need a version: it is usable, and its ender is not settled
pub record Needs (s : Snapshot) (own : ℕ) (version : List ℕ) : Type 0 where
  pub usable : usable_in s.xmax s.ids s.count own (maker version) ≡ true
  pub not_ended : settled_in s.xmax s.ids s.count (ender version) ≡ false

-- of what batches with this line remove, no reader of the snapshot needs anything, whatever its own id
abbrev pub NoneNeeded : ℕ → Snapshot → Type 0
NoneNeeded line s =
    (versions : List (List ℕ)) (run : List ℕ) (i own : ℕ) → Removes line versions run i → Needs s own (get_or versions i []) → ⊥

-- for every number of slots, every history and every line that it gave
pub record RemovalPromise (n : ℕ) : Type 0 where
  -- in every snapshot that the promise to vacuum covers, when the line is given or after any calls ..
  pub held :
      (before after : List Call) (s : Snapshot) → Covered n (before ++ after) s → NoneNeeded (line_after n before) s
  -- .. and in every one of those that are taken later
  pub later :
      (before after : List Call) (c : Call) → takes_snapshot c ≡ true → Accepts n (reached n (before ++ after)) c →
      NoneNeeded (line_after n before) (shown n (reached n (before ++ after)) c)
