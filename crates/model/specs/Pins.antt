-- Which snapshot a pin holds at the end of a history: by walking the calls, and in words.
use Rattle.std.specs.Prelude.{ℕ, ◌≡◌, List, [], ◌∷◌, ◌++◌, cond, eqb}
use Rattle.std.proofs.Math.Option.{Option, none, some}
use Rattle.kinds.specs.declared.PinNo.{PinNo}
use Rattle.kinds.specs.Verdicts.{Verdict, Pass, Refuse}
use Rattle.settled.specs.declared.Snapshot.{Snapshot}
use Rattle.model.specs.declared.Table.{Table}
use Rattle.model.specs.Answer.{Pinned}
use Rattle.model.specs.Tally.{lowest_empty}
use Rattle.model.specs.Tables.{fresh_table}
use Rattle.model.specs.Calls.{Call, pin, refusal, after, answer, shown}
use Rattle.model.specs.Deeds.{Deed, registers, ends, takes, takes_pin, frees_pin, idle, deed, release_of}
use Rattle.model.specs.History.{run, Never}

-- a pinned snapshot that takes pin k is held by it ..
abbrev pub pinned_at : ℕ → PinNo → Snapshot → Option Snapshot → Option Snapshot
pinned_at entered k s held = cond (eqb entered k.0) (some s) held

-- .. until the pin is released
abbrev pub released_at : PinNo → PinNo → Option Snapshot → Option Snapshot
released_at j k held = cond (eqb j.0 k.0) none held

abbrev pub held_deed : Deed → ℕ → PinNo → Table → Call → Option Snapshot → Option Snapshot
held_deed registers n k t c held = held
held_deed (ends slot id) n k t c held = held
held_deed (takes slot id) n k t c held = held
held_deed takes_pin n k t c held = pinned_at (lowest_empty t.pins) k (shown n t c) held
held_deed (frees_pin j) n k t c held = released_at j k held
held_deed idle n k t c held = held

-- a refused call takes no pin and releases none
abbrev pub held_by : Verdict → ℕ → PinNo → Table → Call → Option Snapshot → Option Snapshot
held_by Pass n k t c held = held_deed (deed c) n k t c held
held_by (Refuse r) n k t c held = held

unfoldable pub held_from : ℕ → PinNo → Table → List Call → Option Snapshot → Option Snapshot
held_from n k t [] held = held
held_from n k t (c ∷ cs) held = held_from n k (after n t c) cs (held_by (refusal n t c) n k t c held)

-- the snapshot that pin k holds at the end of a history
abbrev pub held_snapshot : ℕ → PinNo → List Call → Option Snapshot
held_snapshot n k cs = held_from n k (fresh_table n) cs none

-- the same in words, for calls made on t: the calls are some before, a pinned snapshot that answers pin k and shows s, and
-- later ones of which none is an accepted release of pin k
pub record IsHeld (n : ℕ) (t : Table) (k : PinNo) (cs : List Call) (s : Snapshot) : Type 0 where
  pub before : List Call
  pub clock : ℕ
  pub sample : ℕ
  pub later : List Call
  pub written : cs ≡ before ++ pin clock sample ∷ later
  pub answers : answer n (run n t before) (pin clock sample) ≡ Pinned k
  pub shows : s ≡ shown n (run n t before) (pin clock sample)
  pub not_released : Never n (after n (run n t before) (pin clock sample)) (release_of k) later
