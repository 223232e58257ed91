-- What an accepted call does: to the slots and pins, by its deed, in six cases; and to the counters. Proofs about histories go by these
-- and not by the single calls.
use Prim.Native.Nat.{ℕ, ◌≤◌}
use mathlib.Core.Path.{◌≡◌, refl}
use native.Mathlib.Nat.{le_refl}
use native.Mathlib.Omega.{arith}
use Rattle.kinds.specs.declared.Stamp.{Stamp}
use Rattle.kinds.specs.declared.SlotNo.{SlotNo}
use Rattle.kinds.specs.declared.Txid.{Txid}
use Rattle.kinds.specs.declared.PinNo.{PinNo}
use Rattle.kinds.specs.Kinds.{slot, pin_no, txid_of}
use Rattle.model.specs.declared.Counters.{Counters}
use Rattle.model.specs.declared.Table.{Table}
use Rattle.model.specs.declared.change.SlotChange.TheVariants.{Stays, Enters, Leaves, Retains, Pins}
use Rattle.model.specs.Tally.{active, lowest_empty, xmin_of}
use Rattle.model.specs.Tables.{line_of, clock_of, sample_of}
use Rattle.model.specs.Changes.{past_number, observed}
use Rattle.model.specs.Calls.{Call, begin, end, snap, own, oldest, vacuum, stamp, finish, pin, unpin, raised_line}
use Rattle.model.specs.Calls.{pin_sample, change_accepted}
use Rattle.model.specs.Deeds.{ends, idle, deed}
use Rattle.model.specs.Accepted.{Reserves, Free, Owns, Observes, SomePinFree, PinTaken, Acceptable}

pub data Does (n : ℕ) (t : Table) (c : Call) : Type 0 where
  stands : deed c ≡ idle → (change_accepted t c).slot ≡ Stays → Does n t c
  enters :
      (number : Stamp) → c ≡ begin number →
      (change_accepted t c).slot ≡ Enters (slot (lowest_empty t.txids)) (txid_of number) →
      Reserves (clock_of t) number.0 → (change_accepted t c).counters ≡ past_number number.0 t.counters → Free n t →
      Does n t c
  leaves :
      (slot : SlotNo) (id : Txid) → deed c ≡ ends slot id → (change_accepted t c).slot ≡ Leaves slot → Owns n t slot id →
      Does n t c
  retakes :
      (slot : SlotNo) (id : Txid) (clock sample : ℕ) → c ≡ own slot id clock sample →
      (change_accepted t c).slot ≡ Retains slot (xmin_of sample (active t.txids)) → 1 ≤ sample → Owns n t slot id →
      Does n t c
  takes-pin :
      (clock sample : ℕ) → c ≡ pin clock sample →
      (change_accepted t c).slot ≡ Pins (pin_no (lowest_empty t.pins)) (xmin_of (pin_sample t sample) (active t.txids)) →
      (change_accepted t c).counters ≡ observed clock sample t.counters → Observes (clock_of t) clock sample →
      SomePinFree t → Does n t c
  frees_the_pin : (k : PinNo) → c ≡ unpin k → (change_accepted t c).slot ≡ Pins k 0 → PinTaken t k → Does n t c

pub does : (n : ℕ) (t : Table) (c : Call) → Acceptable n t c → Does n t c
unfolding change_accepted
does n t (begin number) (r, f) = enters number refl refl r refl f
does n t (end slot id) o = leaves slot id refl refl o
does n t (snap clock sample) o = stands refl refl
does n t (own slot id clock sample) (o, v) = retakes slot id clock sample refl refl v.positive o
does n t (oldest clock sample) o = stands refl refl
does n t (vacuum clock sample) o = stands refl refl
does n t (stamp number) r = stands refl refl
does n t (finish slot id number) (o, r) = leaves slot id refl refl o
does n t (pin clock sample) (o, f) = takes-pin clock sample refl refl refl o f
does n t (unpin k) h = frees_the_pin k refl refl h

-- the sample stays, or is observed anew; the line stays, or a vacuum raises it
pub data SampleMoves (t : Table) (k : Counters) : Type 0 where
  sample_stays : k.sampled_clock ≡ sample_of t → SampleMoves t k
  sample_observed : 1 ≤ k.sampled_clock → k.sampled_clock ≤ k.clock → SampleMoves t k

pub data LineMoves (t : Table) (k : Counters) : Type 0 where
  line_stays : k.vacuum_line ≡ line_of t → LineMoves t k
  line_raised : (sample : ℕ) → 1 ≤ sample → sample ≤ k.clock → k.vacuum_line ≡ raised_line t sample → LineMoves t k

pub record Counts (t : Table) (k : Counters) : Type 0 where
  pub onward : clock_of t ≤ k.clock
  pub sample : SampleMoves t k
  pub line : LineMoves t k

pub counts_on : (n : ℕ) (t : Table) (c : Call) → Acceptable n t c → Counts t (change_accepted t c).counters
unfolding change_accepted
counts_on n t (begin number) (r, f) = record { onward = omega arith; sample = sample_stays refl; line = line_stays refl }
counts_on n t (end slot id) o = record { onward = le_refl _; sample = sample_stays refl; line = line_stays refl }
counts_on n t (snap clock sample) o =
    record { onward = o.onward; sample = sample_observed o.positive o.within; line = line_stays refl }
counts_on n t (own slot id clock sample) (o, v) =
    record { onward = v.onward; sample = sample_observed v.positive v.within; line = line_stays refl }
counts_on n t (oldest clock sample) o =
    record { onward = o.onward; sample = sample_observed o.positive o.within; line = line_stays refl }
counts_on n t (vacuum clock sample) o =
    record {
      onward = o.onward;
      sample = sample_observed o.positive o.within;
      line = line_raised sample o.positive o.within refl;
    }
counts_on n t (stamp number) r = record { onward = omega arith; sample = sample_stays refl; line = line_stays refl }
counts_on n t (finish slot id number) (o, r) =
    record { onward = omega arith; sample = sample_stays refl; line = line_stays refl }
counts_on n t (pin clock sample) (o, f) =
    record { onward = o.onward; sample = sample_observed o.positive o.within; line = line_stays refl }
counts_on n t (unpin k) h = record { onward = le_refl _; sample = sample_stays refl; line = line_stays refl }
