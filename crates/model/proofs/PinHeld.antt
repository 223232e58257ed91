-- What every call keeps of the snapshot that a pin holds: the pin is its xmin, and ids below the line are settled in it. A line is
-- raised to a taken pin at most, and below the snapshot's xmin every id is settled.
use Prim.Native.Nat.{ℕ, ◌≤◌, ◌<◌}
use mathlib.Core.Path.{◌≡◌, sym, ◌∙◌, ap}
use mathlib.Core.Logic.{◌≢◌}
use mathlib.Core.List.{List, [], ◌∷◌}
use mathlib.Core.Option.{Option, none, some}
use native.Mathlib.Decide.{dec_lt}
use native.Mathlib.Omega.{arith}
use lib.ListN.{length}
use lib.Seq.{get_or-set_same}
use Rattle.kinds.specs.declared.PinNo.{PinNo}
use Rattle.kinds.specs.Verdicts.{Verdict}
use Rattle.settled.specs.declared.Snapshot.{Snapshot}
use Rattle.model.specs.declared.Table.{Table}
use Rattle.model.specs.Tally.{active, lowest_empty, xmin_of, snapshot_of}
use Rattle.model.specs.Tables.{fresh_table, txid_at, pin_at, line_of}
use Rattle.model.specs.Calls.{Call, pin, refusal, pin_sample, change_accepted, after, shown_accepted, shown_by, shown}
use Rattle.model.specs.Accepted.{SomePinFree}
use Rattle.model.specs.Facts.{Good}
use Rattle.model.specs.History.{run, reached, Accepts}
use Rattle.model.specs.Pins.{held_by, held_from, held_snapshot}
use Rattle.model.proofs.Tally.{minimum_start, minimum_member, taken-active, active-length}
use Rattle.model.proofs.Tests.{free_pin_lowest}
use Rattle.model.proofs.Accepted.{accepted_acceptable}
use Rattle.model.proofs.Moves.{is_taken, good-fresh}
use Rattle.model.proofs.Facts.{good-after, pinned-from-line}
use Rattle.model.proofs.Calls.{after_accepted}
use Rattle.model.proofs.PinNoted.{LineUnder, PinNoted, now-pinned, now_released, pin-stays, pin_noted}
use Rattle.model.proofs.Snapshots.{Settles, settled_in_pinned}

pub record KeepsPin (n : ℕ) (t : Table) (k : PinNo) (s : Snapshot) : Type 0 where
  pub few : s.count ≤ n
  pub low : (x : ℕ) → x < s.xmin → Settles s x
  pub positive : s.xmin ≢ 0
  pub retains : pin_at t k.0 ≡ s.xmin
  pub settles : (x : ℕ) → x < line_of t → Settles s x

abbrev pub KeepsHeld : ℕ → Table → PinNo → Option Snapshot → Type 0
KeepsHeld n t k none = Unit
KeepsHeld n t k (some s) = KeepsPin n t k s

-- its pin is taken
pub kept_taken : (n : ℕ) (t : Table) (k : PinNo) (s : Snapshot) → KeepsPin n t k s → pin_at t k.0 ≢ 0
kept_taken n t k s h z = h.positive (sym h.retains ∙ z)

module _ (n : ℕ) (t : Table) (k : PinNo) where
  -- a call that leaves the pin
  keeps-left :
      (u : Table) (held : Option Snapshot) → pin_at u k.0 ≡ pin_at t k.0 → LineUnder t k u.counters →
      KeepsHeld n t k held → KeepsHeld n u k held
  keeps-left u none p l h = tt
  keeps-left u (some s) p l h =
      record {
        few = h.few;
        low = h.low;
        positive = h.positive;
        retains = p ∙ h.retains;
        settles = λ x b. go x b (dec_lt x (line_of t));
      }
    where
      go : (x : ℕ) → x < line_of u → Dec (x < line_of t) → Settles s x
      go x b (yes a) = h.settles x a
      go x b (no a) = h.low x (omega (arith, l (kept_taken n t k s h), h.retains))

  -- a new pinned snapshot
  taken-now :
      (clock sample : ℕ) → Good n t → SomePinFree t → lowest_empty t.pins ≡ k.0 →
      KeepsPin n (after_accepted t (pin clock sample)) k (snapshot_of n t.txids (pin_sample t sample))
  unfolding change_accepted snapshot_of
  taken-now clock sample g f e =
      record {
        few = rw (← g.txid_column) (active-length t.txids);
        low = λ x l. below x (xmin_of used (active t.txids)) (minimum_start used _)
            (λ j h. minimum_member used _ (txid_at t j) (taken-active t.txids j h)) l;
        positive = λ z. omega (arith, pinned-from-line n t sample g, g.line_from_1);
        retains = rw (← e) (get_or-set_same t.pins (lowest_empty t.pins) _ 0 inside);
        settles = λ x l. below x (line_of t) (omega arith) (λ j h. (is_taken (g.each j) h).over) l;
      }
    where
      used : ℕ
      used = pin_sample t sample

      inside : lowest_empty t.pins < length t.pins
      inside = rw g.pin_column (free_pin_lowest t f)

      below :
          (x bound : ℕ) → bound ≤ pin_sample t sample → ((j : ℕ) → txid_at t j ≢ 0 → bound ≤ txid_at t j) → x < bound →
          Settles (snapshot_of n t.txids (pin_sample t sample)) x
      below x bound = settled_in_pinned n t.txids (pin_sample t sample) bound x

pub shown-pin :
    (n : ℕ) (t : Table) (clock sample : ℕ) → Accepts n t (pin clock sample) →
    shown n t (pin clock sample) ≡ snapshot_of n t.txids (pin_sample t sample)
unfolding shown_accepted shown
shown-pin n t clock sample e = ap (λ (v : Verdict). shown_by v n t (pin clock sample)) e

pub keeps_held-after :
    (n : ℕ) (t : Table) (k : PinNo) (c : Call) (held : Option Snapshot) → Good n t → KeepsHeld n t k held →
    KeepsHeld n (after n t c) k (held_by (refusal n t c) n k t c held)
keeps_held-after n t k c held g h = go (pin_noted n t k c held)
  where
    go :
        PinNoted n t k c held (refusal n t c) (after n t c) →
        KeepsHeld n (after n t c) k (held_by (refusal n t c) n k t c held)
    go (now-pinned clock sample p v y w e) =
        let a : Accepts n t (pin clock sample) = rw (← p) v in
        let f = (accepted_acceptable n t (pin clock sample) a).1 in
        rw (e, y, p, shown-pin n t clock sample a) (taken-now n t k clock sample g f w)
    go (now_released p v e) = rw e tt
    go (pin-stays e p q l) = rw e (keeps-left n t k (after n t c) held q l h)

keeps_run :
    (n : ℕ) (t : Table) (k : PinNo) (cs : List Call) (held : Option Snapshot) → Good n t → KeepsHeld n t k held →
    KeepsHeld n (run n t cs) k (held_from n k t cs held)
unfolding run held_from
keeps_run n t k [] held g h = h
keeps_run n t k (c ∷ cs) held g h =
    keeps_run n (after n t c) k cs (held_by (refusal n t c) n k t c held) (good-after n t c g) (keeps_held-after n t k c held g h)

-- from fresh, of the snapshot that a pin holds
pub held_keeps :
    (n : ℕ) (cs : List Call) (k : PinNo) (s : Snapshot) → held_snapshot n k cs ≡ some s → KeepsPin n (reached n cs) k s
held_keeps n cs k s e =
    let h = keeps_run n (fresh_table n) k cs none (good-fresh n) tt in
    let w : KeepsHeld n (reached n cs) k (some s) = rw e at h in
    w
