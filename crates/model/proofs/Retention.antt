-- What every call keeps of a transaction's last snapshot: the slot retains its xmin, and ids below the line are settled in it.
use Prim.Native.Nat.{ℕ, ◌≤◌, ◌<◌}
use mathlib.Core.Path.{◌≡◌, ◌∙◌, ap}
use mathlib.Core.Logic.{◌≢◌}
use mathlib.Core.List.{List, [], ◌∷◌}
use mathlib.Core.Option.{Option, none, some}
use native.Mathlib.Decide.{dec_lt}
use native.Mathlib.Omega.{arith}
use lib.Seq.{get_or-set_same}
use Rattle.kinds.specs.declared.SlotNo.{SlotNo}
use Rattle.kinds.specs.declared.Txid.{Txid}
use Rattle.kinds.specs.Verdicts.{Verdict}
use Rattle.settled.specs.declared.Snapshot.{Snapshot}
use Rattle.model.specs.declared.Table.{Table}
use Rattle.model.specs.Tally.{snapshot_of}
use Rattle.model.specs.Tables.{fresh_table, txid_at, xmin_at, line_of}
use Rattle.model.specs.Calls.{Call, own, refusal, change_accepted, after, shown_accepted, shown_by, shown}
use Rattle.model.specs.Accepted.{Registered, Owns}
use Rattle.model.specs.Facts.{Good}
use Rattle.model.specs.History.{run, reached, Accepts, noted_by, last_from, last_own}
use Rattle.model.proofs.Tally.{minimum_member, taken-active, active-length}
use Rattle.model.proofs.Accepted.{accepted_acceptable}
use Rattle.model.proofs.Transactions.{registered_taken}
use Rattle.model.proofs.Moves.{is_taken, good-fresh}
use Rattle.model.proofs.Facts.{good-after}
use Rattle.model.proofs.Calls.{after_accepted}
use Rattle.model.proofs.Noted.{Left, Noted, now-taken, now_forgotten, not-moved, noted}
use Rattle.model.proofs.BelowTop.{BelowTop, below_fresh, below_after}
use Rattle.model.proofs.Snapshots.{Settles, settled_in_own}

-- what stays true of the last snapshot s of (slot, id): while it is registered its slot retains s's xmin, and ids below the
-- line are settled in s
pub record Keeps (n : ℕ) (t : Table) (slot : SlotNo) (id : Txid) (s : Snapshot) : Type 0 where
  pub few : s.count ≤ n
  pub low : (x : ℕ) → x < s.xmin → Settles s x
  pub retains : Registered t slot id → xmin_at t slot.0 ≡ s.xmin
  pub settles : Registered t slot id → (x : ℕ) → x < line_of t → Settles s x

abbrev pub KeepsLast : ℕ → Table → SlotNo → Txid → Option Snapshot → Type 0
KeepsLast n t slot id none = Unit
KeepsLast n t slot id (some s) = Keeps n t slot id s

module _ (n : ℕ) (t : Table) (slot : SlotNo) (id : Txid) (g : Good n t) where
  -- a call that leaves the last snapshot
  keeps-left : (u : Table) (s : Snapshot) → Left n t slot id u → Keeps n t slot id s → Keeps n u slot id s
  keeps-left u s l k =
      record {
        few = k.few;
        low = k.low;
        retains = λ r. l.same_xmin g r ∙ k.retains (l.was r);
        settles = λ r x h. go r x h (dec_lt x (line_of t));
      }
    where
      go : Registered u slot id → (x : ℕ) → x < line_of u → Dec (x < line_of t) → Settles s x
      go r x h (yes b) = k.settles (l.was r) x b
      go r x h (no b) = k.low x (omega (arith, l.line_below g r, k.retains (l.was r)))

  keeps-last-left :
      (u : Table) (last : Option Snapshot) → Left n t slot id u → KeepsLast n t slot id last → KeepsLast n u slot id last
  keeps-last-left u none l k = tt
  keeps-last-left u (some s) l k = keeps-left u s l k

  -- a new transaction snapshot
  taken-now :
      (clock sample : ℕ) → BelowTop t → Owns n t slot id →
      Keeps n (after_accepted t (own slot id clock sample)) slot id (snapshot_of n t.txids sample)
  unfolding change_accepted snapshot_of
  taken-now clock sample b o =
      record {
        few = rw (← g.txid_column) (active-length t.txids);
        low = λ x l. below x _ (λ j h. minimum_member sample _ (txid_at t j) (taken-active t.txids j h)) l;
        retains = λ e. get_or-set_same t.snapshot_xmins slot.0 _ 0 (rw g.xmin_column o.inside);
        settles = λ e x l. below x (line_of t) (λ j h. (is_taken (g.each j) h).over) l;
      }
    where
      below :
          (x bound : ℕ) → ((j : ℕ) → txid_at t j ≢ 0 → bound ≤ txid_at t j) → x < bound →
          Settles (snapshot_of n t.txids sample) x
      below x bound under l =
          settled_in_own n t.txids sample slot.0 bound x (registered_taken t slot id o.registered) (b slot.0) under l

pub shown-own :
    (n : ℕ) (t : Table) (slot : SlotNo) (id : Txid) (clock sample : ℕ) → Accepts n t (own slot id clock sample) →
    shown n t (own slot id clock sample) ≡ snapshot_of n t.txids sample
unfolding shown_accepted shown
shown-own n t slot id clock sample e = ap (λ (v : Verdict). shown_by v n t (own slot id clock sample)) e

keeps_after :
    (n : ℕ) (t : Table) (slot : SlotNo) (id : Txid) (c : Call) (last : Option Snapshot) → Good n t → BelowTop t →
    KeepsLast n t slot id last → KeepsLast n (after n t c) slot id (noted_by (refusal n t c) n slot id t c last)
keeps_after n t slot id c last g b k = go (noted n t slot id c last)
  where
    go :
        Noted n t slot id c last (refusal n t c) (after n t c) →
        KeepsLast n (after n t c) slot id (noted_by (refusal n t c) n slot id t c last)
    go (now-taken clock sample p v y e) =
        let a : Accepts n t (own slot id clock sample) = rw (← p) v in
        let o = (accepted_acceptable n t (own slot id clock sample) a).0 in
        rw (e, y, p, shown-own n t slot id clock sample a) (taken-now n t slot id g clock sample b o)
    go (now_forgotten p e) = rw e tt
    go (not-moved e f l) = rw e (keeps-last-left n t slot id g (after n t c) last l k)

keeps_run :
    (n : ℕ) (t : Table) (slot : SlotNo) (id : Txid) (cs : List Call) (last : Option Snapshot) → Good n t → BelowTop t →
    KeepsLast n t slot id last → KeepsLast n (run n t cs) slot id (last_from n slot id t cs last)
unfolding run last_from
keeps_run n t slot id [] last g b k = k
keeps_run n t slot id (c ∷ cs) last g b k =
    keeps_run n (after n t c) slot id cs (noted_by (refusal n t c) n slot id t c last) (good-after n t c g)
    (below_after n t c b) (keeps_after n t slot id c last g b k)

-- from fresh, of the last snapshot
pub last_keeps :
    (n : ℕ) (cs : List Call) (slot : SlotNo) (id : Txid) (s : Snapshot) → last_own n slot id cs ≡ some s →
    Keeps n (reached n cs) slot id s
last_keeps n cs slot id s e =
    let k = keeps_run n (fresh_table n) slot id cs none (good-fresh n) (below_fresh n) tt in
    let w : KeepsLast n (reached n cs) slot id (some s) = rw e at k in
    w
