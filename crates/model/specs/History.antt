-- Histories: lists of the ten calls with any arguments, refused ones included, and what is read off them.
use Rattle.std.specs.Prelude.{ℕ, ◌≡◌, List, [], ◌∷◌, ◌++◌, Bool, true, cond, eqb}
use Rattle.std.proofs.Math.Option.{Option, none, some}
use Rattle.kinds.specs.declared.Stamp.{Stamp}
use Rattle.kinds.specs.declared.SlotNo.{SlotNo}
use Rattle.kinds.specs.declared.Txid.{Txid}
use Rattle.kinds.specs.Verdicts.{Verdict, Pass, Refuse}
use Rattle.settled.specs.declared.Snapshot.{Snapshot}
use Rattle.model.specs.declared.Table.{Table}
use Rattle.model.specs.Tally.{lowest_empty}
use Rattle.model.specs.Tables.{fresh_table}
use Rattle.model.specs.Answer.{Begun}
use Rattle.model.specs.Calls.{Call, begin, own, refusal, after, answer, shown}
use Rattle.model.specs.Deeds.{Deed, registers, ends, takes, takes_pin, frees_pin, idle, deed, same_transaction, end_of, own_of}
use Rattle.model.specs.Accepted.{Registered}

-- the table after the calls, one after the other
unfoldable pub run : ℕ → Table → List Call → Table
run n t [] = t
run n t (c ∷ cs) = run n (after n t c) cs

-- the table that a history reaches: the calls made on the fresh table
abbrev pub reached : ℕ → List Call → Table
reached n cs = run n (fresh_table n) cs

-- the call is accepted there
abbrev pub Accepts : ℕ → Table → Call → Type 0
Accepts n t c = refusal n t c ≡ Pass

-- none of the calls, made on t one after the other, is an accepted one of the kind
pub record Never (n : ℕ) (t : Table) (kind : Call → Bool) (cs : List Call) : Type 0 where
  pub nowhere : (p q : List Call) (c : Call) → cs ≡ p ++ c ∷ q → kind c ≡ true → Accepts n (run n t p) c → ⊥

-- registered in words, for calls made on t: the calls are some before, an accepted begin, which answers slot and id, and
-- later ones of which none is an accepted end or finish of (slot, id)
pub record IsRegistered (n : ℕ) (t : Table) (slot : SlotNo) (id : Txid) (cs : List Call) : Type 0 where
  pub before : List Call
  pub number : Stamp
  pub later : List Call
  pub written : cs ≡ before ++ begin number ∷ later
  pub answers : answer n (run n t before) (begin number) ≡ Begun slot id
  pub not_ended : Never n (after n (run n t before) (begin number)) (end_of slot id) later

-- the last transaction snapshot of (slot, id), by walking the calls: the begin of a transaction in the slot forgets it ..
abbrev pub forgotten : ℕ → SlotNo → Option Snapshot → Option Snapshot
forgotten entered slot last = cond (eqb entered slot.0) none last

-- .. and an accepted transaction snapshot of (slot, id) takes its place
abbrev pub replaced : SlotNo → Txid → SlotNo → Txid → Snapshot → Option Snapshot → Option Snapshot
replaced slot id slot' id' s last = cond (same_transaction slot id slot' id') (some s) last

abbrev pub noted_deed : Deed → ℕ → SlotNo → Txid → Table → Call → Option Snapshot → Option Snapshot
noted_deed registers n slot id t c last = forgotten (lowest_empty t.txids) slot last
noted_deed (ends slot' id') n slot id t c last = last
noted_deed (takes slot' id') n slot id t c last = replaced slot id slot' id' (shown n t c) last
noted_deed takes_pin n slot id t c last = last
noted_deed (frees_pin k) n slot id t c last = last
noted_deed idle n slot id t c last = last

-- a refused call takes no snapshot and replaces none
abbrev pub noted_by : Verdict → ℕ → SlotNo → Txid → Table → Call → Option Snapshot → Option Snapshot
noted_by Pass n slot id t c last = noted_deed (deed c) n slot id t c last
noted_by (Refuse r) n slot id t c last = last

unfoldable pub last_from : ℕ → SlotNo → Txid → Table → List Call → Option Snapshot → Option Snapshot
last_from n slot id t [] last = last
last_from n slot id t (c ∷ cs) last =
    last_from n slot id (after n t c) cs (noted_by (refusal n t c) n slot id t c last)

abbrev pub last_own : ℕ → SlotNo → Txid → List Call → Option Snapshot
last_own n slot id cs = last_from n slot id (fresh_table n) cs none

-- all through the calls the transaction stays registered, and none of them is an accepted transaction snapshot of it
pub record Quiet (n : ℕ) (t : Table) (slot : SlotNo) (id : Txid) (cs : List Call) : Type 0 where
  pub alive : (p q : List Call) → cs ≡ p ++ q → Registered (run n t p) slot id
  pub no_other : Never n t (own_of slot id) cs

-- the last transaction snapshot in words, for calls made on t: the calls are some before, an accepted transaction
-- snapshot of (slot, id), which shows s, and quiet ones
pub record IsLast (n : ℕ) (t : Table) (slot : SlotNo) (id : Txid) (cs : List Call) (s : Snapshot) : Type 0 where
  pub before : List Call
  pub clock : ℕ
  pub sample : ℕ
  pub later : List Call
  pub written : cs ≡ before ++ own slot id clock sample ∷ later
  pub accepted : Accepts n (run n t before) (own slot id clock sample)
  pub shows : s ≡ shown n (run n t before) (own slot id clock sample)
  pub quiet : Quiet n (after n (run n t before) (own slot id clock sample)) slot id later
