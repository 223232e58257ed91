-- A yes of the table check gives what well_formed says of slots and clocks, and the shape of the table. The other way, such a
-- table passes the check once its line is 1 and its pins are free: upstream has neither, and 1 is at most the clock and every
-- taken txid.
use Prim.Native.Nat.{ℕ, ◌<◌}
use mathlib.Core.Path.{◌≡◌, sym, ◌∙◌}
use mathlib.Core.Logic.{◌≢◌}
use mathlib.Core.Bool.{true}
use mathlib.Core.List.{List}
use native.Mathlib.Nat.{le_refl}
use native.Mathlib.Decide.{ℕ_discrete, dec_lt}
use native.Mathlib.Omega.{arith}
use lib.ListN.{length-replicate}
use Rattle.model.specs.declared.Table.{Table}
use Rattle.kinds.specs.Kinds.{pin_count, free_pins}
use Rattle.model.specs.Tables.{txid_at, xmin_at, clock_of, lent}
use Rattle.model.specs.Changes.{with_line}
use Rattle.model.specs.Check.{table_passes}
use Rattle.model.specs.Facts.{SlotGood, empty, taken, pin_free, Good}
use Rattle.model.proofs.Places.{zeros_hold}
use Rattle.model.proofs.Moves.{is_taken}
use Rattle.model.proofs.Check.{passes-good}
use Rattle.upstream.specs.States.{slot, at, Shaped}
use Rattle.upstream.specs.Relations.{Sound}
use Rattle.upstream.proofs.Pairs.{slots_of, slots_length, slot_at, txid-at}

slot-empty : (clock line txid xmin : ℕ) → SlotGood clock line txid xmin → txid ≡ 0 → xmin ≡ 0
slot-empty clock line txid xmin (empty a b) e = b
slot-empty clock line txid xmin (taken a b c d) e = omega arith

pub from-good : (n : ℕ) (t : Table) → Good n t → Sound n t
from-good n t g =
    record {
      shape = s;
      table =
          record {
            size = slots_length n t s;
            sample_positive = g.sample_from_1;
            sample_within = g.sample_to_clock;
            empty_xmin = λ i. rw (slot_at n t s i) (slot-empty _ _ _ _ (g.each i));
            xmin_positive = λ i. rw (slot_at n t s i) (λ z. (is_taken (g.each i) z).low);
            xmin_within = λ i. rw (slot_at n t s i) (λ z. (is_taken (g.each i) z).under);
            txid_below = λ i. rw (slot_at n t s i) (λ z. (is_taken (g.each i) z).past);
            distinct = apart;
          };
    }
  where
    s : Shaped n t
    s = record { txids_size = g.txid_column; xmins_size = g.xmin_column }

    apart : (i j : ℕ) → i < j → (at (slots_of t) i).txid ≢ 0 → (at (slots_of t) i).txid ≢ (at (slots_of t) j).txid
    apart i j h z w =
        let e = g.differ i j (λ q. z (txid-at n t s i ∙ q)) (sym (txid-at n t s i) ∙ w ∙ txid-at n t s j) in
        omega arith

pub from_yes : (n : ℕ) (t : Table) → table_passes n t ≡ true → Sound n t
from_yes n t e = from-good n t (passes-good n t e)

-- the table with other pins, and another line
abbrev pub beside : List ℕ → ℕ → Table → Table
beside pins line t = lent t.txids t.snapshot_xmins pins (with_line line t.counters)

abbrev pub unpinned : Table → Table
unpinned t = beside free_pins 1 t

pub to_good : (n : ℕ) (t : Table) → Sound n t → Good n (unpinned t)
unfolding free_pins
to_good n t y =
    record {
      txid_column = y.shape.txids_size;
      xmin_column = y.shape.xmins_size;
      pin_column = length-replicate {A = ℕ} pin_count 0;
      sample_from_1 = y.table.sample_positive;
      sample_to_clock = y.table.sample_within;
      line_from_1 = le_refl 1;
      line_to_clock = omega (arith, y.table.sample_positive, y.table.sample_within);
      each = λ i. each i (ℕ_discrete (txid_at t i) 0);
      each_pin = λ k. pin_free (zeros_hold pin_count k);
      differ = λ i j z e. once i j z e (dec_lt i j) (dec_lt j i);
    }
  where
    here : (i : ℕ) → at (slots_of t) i ≡ slot (txid_at t i) (xmin_at t i)
    here i = slot_at n t y.shape i

    each : (i : ℕ) → Dec (txid_at t i ≡ 0) → SlotGood (clock_of t) 1 (txid_at t i) (xmin_at t i)
    each i (yes e) = empty e (rw (here i) at (y.table.empty_xmin i) e)
    each i (no z) =
        taken (rw (here i) at (y.table.xmin_positive i) z) (rw (here i) at (y.table.xmin_within i) z)
        (rw (here i) at (y.table.txid_below i) z) (omega arith)

    -- two slots do not hold one txid
    once : (i j : ℕ) → txid_at t i ≢ 0 → txid_at t i ≡ txid_at t j → Dec (i < j) → Dec (j < i) → i ≡ j
    once i j z e (yes h) k = absurd (rw (here i, here j) at (y.table.distinct i j h) z e)
    once i j z e (no h) (yes k) = absurd (rw (here j, here i) at (y.table.distinct j i k) (λ q. z (e ∙ q)) (sym e))
    once i j z e (no h) (no k) = omega arith
