-- An old page never meets a new tile: docs/PROMISE.md has it in words.
use Rattle.std.specs.Prelude.{ℕ, ◌≤◌, ◌≡◌, ◌≢◌, true, false, List, [], ◌∷◌, ◌++◌}
use Rattle.kinds.specs.Refusals.{consumed}
use Rattle.settled.specs.declared.Snapshot.{Snapshot}
use Rattle.listed.specs.Listed.{listed}
use Rattle.settled.specs.Settled.{settled_in}
use Rattle.usable.specs.Usable.{usable_in}
use Rattle.model.specs.Answer.{Answer, Begun, Done, Pinned, Oldest, Line, Stamped, Refused}
use Rattle.model.specs.Tables.{clock_of}
use Rattle.model.specs.Calls.{Call, answer, shown}
use Rattle.model.specs.History.{reached}

-- the snapshot that a call takes at the end of a history, plain, pinned or a transaction's; zeros beside a refusal, and where none is taken
abbrev pub taken : ℕ → List Call → Call → Snapshot
taken n before c = shown n (reached n before) c

-- where the clock stands at the end of a history
abbrev pub clock_after : ℕ → List Call → ℕ
clock_after n cs = clock_of (reached n cs)

-- the number that an answer brings from the clock: the txid of a begin, the stamp of a stamp or a finish, and the txid that refusal 1 consumes
abbrev pub brings : Answer → List ℕ
brings (Begun slot id) = id.0 ∷ []
brings Done = []
brings (Pinned k) = []
brings (Oldest xmin holder) = []
brings (Line line holder) = []
brings (Stamped number) = number.0 ∷ []
brings (Refused r) = consumed r

-- a call at the end of a history is answered by this number
abbrev pub Brings : ℕ → List Call → Call → ℕ → Type 0
Brings n cs c x = listed x (brings (answer n (reached n cs) c)) ≡ true

-- for every number of slots, every history and every call in it, whatever its arguments
pub record LaterPromise (n : ℕ) : Type 0 where
  -- a snapshot's xmax is no larger than the clock afterwards
  pub xmax_to_clock : (before : List Call) (c : Call) → (taken n before c).xmax ≤ clock_after n (before ++ c ∷ [])
  -- so no number that a later call brings is settled in it, whatever was called in between ..
  pub unsettled :
      (before between : List Call) (c d : Call) (x : ℕ) → Brings n (before ++ c ∷ between) d x →
      settled_in (taken n before c).xmax (taken n before c).ids (taken n before c).count x ≡ false
  -- .. nor is it usable, but by the reader whose own id it is
  pub unusable :
      (before between : List Call) (c d : Call) (x own : ℕ) → Brings n (before ++ c ∷ between) d x → own ≢ x →
      usable_in (taken n before c).xmax (taken n before c).ids (taken n before c).count own x ≡ false
