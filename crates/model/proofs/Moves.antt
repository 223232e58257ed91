-- A change keeps the facts of the table check where what it does to a slot or a pin, and to the counters, fits the table.
use Prim.Native.Nat.{ℕ, ◌≤◌, ◌<◌}
use mathlib.Core.Path.{◌≡◌, refl, sym, ◌∙◌}
use mathlib.Core.Logic.{◌≢◌}
use mathlib.Core.List.{List}
use native.Mathlib.Decide.{ℕ_discrete}
use native.Mathlib.Omega.{arith}
use lib.ListN.{length, length-replicate, length-set, set, get_or}
use Rattle.kinds.specs.Kinds.{pin_count, free_pins}
use Rattle.model.specs.declared.Counters.{Counters}
use Rattle.model.specs.declared.Table.{Table}
use Rattle.model.specs.declared.change.SlotChange.{SlotChange}
use Rattle.model.specs.declared.change.SlotChange.TheVariants.{Stays, Enters, Leaves, Retains, Pins}
use Rattle.model.specs.Tables.{fresh_table, txid_at, xmin_at, pin_at, clock_of, line_of, lent}
use Rattle.model.specs.Changes.{change, applied}
use Rattle.model.specs.Facts.{SlotGood, empty, taken, PinGood, pin_free, pin_held, Good}
use Rattle.model.proofs.Places.{Stored, new_here, as_before, stored, StoredBoth, both-new, both-before, stored_both, zeros_hold}

-- both columns have a place for each slot
pub equally_long : (n : ℕ) (t : Table) → Good n t → length t.txids ≡ length t.snapshot_xmins
equally_long n t g = g.txid_column ∙ sym g.xmin_column

-- a taken slot's part of the facts
pub record Taken (clock line txid xmin : ℕ) : Type 0 where
  pub low : 1 ≤ xmin
  pub under : xmin ≤ txid
  pub past : txid < clock
  pub over : line ≤ txid

pub is_taken : {clock line txid xmin : ℕ} → SlotGood clock line txid xmin → txid ≢ 0 → Taken clock line txid xmin
is_taken (empty a b) h = absurd (h a)
is_taken (taken a b c d) h = record { low = a; under = b; past = c; over = d }

-- a taken pin's part
pub record Held (clock line xmin : ℕ) : Type 0 where
  pub over : line ≤ xmin
  pub under : xmin ≤ clock

pub is_held : {clock line xmin : ℕ} → PinGood clock line xmin → xmin ≢ 0 → Held clock line xmin
is_held (pin_free a) h = absurd (h a)
is_held (pin_held a b) h = record { over = a; under = b }

-- the counters after it: the clock goes on, and the line is at most every taken txid and every taken pin
pub record CountersFit (t : Table) (k : Counters) : Type 0 where
  pub onward : clock_of t ≤ k.clock
  pub sample_from_1 : 1 ≤ k.sampled_clock
  pub sample_to_clock : k.sampled_clock ≤ k.clock
  pub line_from_1 : 1 ≤ k.vacuum_line
  pub line_to_clock : k.vacuum_line ≤ k.clock
  pub under : (i : ℕ) → txid_at t i ≢ 0 → k.vacuum_line ≤ txid_at t i
  pub under_pin : (i : ℕ) → pin_at t i ≢ 0 → k.vacuum_line ≤ pin_at t i

-- a txid that enters is from the clock on, and below the clock after it
pub record EntersFit (t : Table) (k : Counters) (txid : ℕ) : Type 0 where
  pub positive : 1 ≤ txid
  pub new : clock_of t ≤ txid
  pub past : txid < k.clock
  pub over : k.vacuum_line ≤ txid

-- a slot that retains an xmin is taken, and its txid is at least that
pub record RetainsFit (t : Table) (i xmin : ℕ) : Type 0 where
  pub holds : txid_at t i ≢ 0
  pub low : 1 ≤ xmin
  pub under : xmin ≤ txid_at t i

abbrev pub SlotFits : Table → Counters → SlotChange → Type 0
SlotFits t k Stays = Unit
SlotFits t k (Enters slot txid) = EntersFit t k txid.0
SlotFits t k (Leaves slot) = Unit
SlotFits t k (Retains slot xmin) = RetainsFit t slot.0 xmin
-- a pin is freed, or what it holds is from the line to the clock
SlotFits t k (Pins pin xmin) = PinGood k.clock k.vacuum_line xmin

module _ (n : ℕ) (t : Table) (k : Counters) (g : Good n t) (f : CountersFit t k) where
  -- a slot that the change leaves
  moved : (i : ℕ) → SlotGood k.clock k.vacuum_line (txid_at t i) (xmin_at t i)
  moved i = go (g.each i) (f.under i)
    where
      go :
          SlotGood (clock_of t) (line_of t) (txid_at t i) (xmin_at t i) → (txid_at t i ≢ 0 → k.vacuum_line ≤ txid_at t i) →
          SlotGood k.clock k.vacuum_line (txid_at t i) (xmin_at t i)
      go (empty p q) h = empty p q
      go (taken p q r s) h = taken p q (omega (arith, f.onward)) (h (omega arith))

  -- a pin that it leaves
  moved-pin : (i : ℕ) → PinGood k.clock k.vacuum_line (pin_at t i)
  moved-pin i = go (g.each_pin i) (f.under_pin i) (ℕ_discrete (pin_at t i) 0)
    where
      go :
          PinGood (clock_of t) (line_of t) (pin_at t i) → (pin_at t i ≢ 0 → k.vacuum_line ≤ pin_at t i) → Dec (pin_at t i ≡ 0) →
          PinGood k.clock k.vacuum_line (pin_at t i)
      go p h (yes e) = pin_free e
      go p h (no e) = let q = is_held p e in pin_held (h e) (omega (arith, f.onward))

  good-all :
      (txids xmins pins : List ℕ) → length txids ≡ n → length xmins ≡ n → length pins ≡ pin_count →
      ((i : ℕ) → SlotGood k.clock k.vacuum_line (get_or txids i 0) (get_or xmins i 0)) →
      ((i : ℕ) → PinGood k.clock k.vacuum_line (get_or pins i 0)) →
      ((i j : ℕ) → get_or txids i 0 ≢ 0 → get_or txids i 0 ≡ get_or txids j 0 → i ≡ j) → Good n (lent txids xmins pins k)
  good-all txids xmins pins a b c each each_pin differ =
      record {
        txid_column = a;
        xmin_column = b;
        pin_column = c;
        sample_from_1 = f.sample_from_1;
        sample_to_clock = f.sample_to_clock;
        line_from_1 = f.line_from_1;
        line_to_clock = f.line_to_clock;
        each = each;
        each_pin = each_pin;
        differ = differ;
      }

  -- both columns of slots
  good-both :
      (txids xmins : List ℕ) → length txids ≡ n → length xmins ≡ n →
      ((i : ℕ) → SlotGood k.clock k.vacuum_line (get_or txids i 0) (get_or xmins i 0)) →
      ((i j : ℕ) → get_or txids i 0 ≢ 0 → get_or txids i 0 ≡ get_or txids j 0 → i ≡ j) → Good n (lent txids xmins t.pins k)
  good-both txids xmins a b each differ = good-all txids xmins t.pins a b g.pin_column each moved-pin differ

  -- pin i becomes xmin
  good-pin :
      (i xmin : ℕ) → PinGood k.clock k.vacuum_line xmin →
      Good n (lent t.txids t.snapshot_xmins (set t.pins i xmin) k)
  good-pin i xmin ok =
      good-all t.txids t.snapshot_xmins (set t.pins i xmin) g.txid_column g.xmin_column
      (length-set t.pins i xmin ∙ g.pin_column) moved (λ j. each' j (stored 0 t.pins i xmin j)) g.differ
    where
      each' : (j : ℕ) → Stored 0 t.pins i xmin j → PinGood k.clock k.vacuum_line (get_or (set t.pins i xmin) j 0)
      each' j (new_here p h a) = rw a ok
      each' j (as_before d a) = rw a (moved-pin j)

  -- slot i becomes (txid, xmin), and txid is new where it isn't 0
  good-slot :
      (i txid xmin : ℕ) → SlotGood k.clock k.vacuum_line txid xmin → (txid ≢ 0 → (j : ℕ) → txid_at t j ≢ txid) →
      Good n (lent (set t.txids i txid) (set t.snapshot_xmins i xmin) t.pins k)
  good-slot i txid xmin ok new =
      good-both (set t.txids i txid) (set t.snapshot_xmins i xmin) (length-set t.txids i txid ∙ g.txid_column)
      (length-set t.snapshot_xmins i xmin ∙ g.xmin_column)
      (λ j. each' j (stored_both t.txids t.snapshot_xmins i txid xmin j (equally_long n t g)))
      (λ j l h e. differ' j l h e (stored 0 t.txids i txid j) (stored 0 t.txids i txid l))
    where
      each' : (j : ℕ) → StoredBoth t.txids t.snapshot_xmins i txid xmin j →
          SlotGood k.clock k.vacuum_line (get_or (set t.txids i txid) j 0) (get_or (set t.snapshot_xmins i xmin) j 0)
      each' j (both-new p h a b) = rw (a, b) ok
      each' j (both-before d a b) = rw (a, b) (moved j)

      differ' : (j l : ℕ) → get_or (set t.txids i txid) j 0 ≢ 0 →
          get_or (set t.txids i txid) j 0 ≡ get_or (set t.txids i txid) l 0 →
          Stored 0 t.txids i txid j → Stored 0 t.txids i txid l → j ≡ l
      differ' j l h e (new_here p _ _) (new_here q _ _) = p ∙ sym q
      differ' j l h e (new_here p _ a) (as_before _ b) = absurd (new (rw a at h) l (sym (rw (a, b) at e)))
      differ' j l h e (as_before _ a) (new_here q _ b) = absurd (new (rw b at (rw e at h)) j (rw (a, b) at e))
      differ' j l h e (as_before _ a) (as_before _ b) = g.differ j l (rw a at h) (rw (a, b) at e)

  -- a number from the clock on is held by no slot
  new-number : (number : ℕ) → clock_of t ≤ number → number ≢ 0 → (j : ℕ) → txid_at t j ≢ number
  new-number number h z j e =
      let l = is_taken (g.each j) (λ (q : txid_at t j ≡ 0). z (sym e ∙ q)) in
      omega arith

  good-retains :
      (i xmin : ℕ) → RetainsFit t i xmin → Good n (lent t.txids (set t.snapshot_xmins i xmin) t.pins k)
  good-retains i xmin r =
      good-both t.txids (set t.snapshot_xmins i xmin) g.txid_column
      (length-set t.snapshot_xmins i xmin ∙ g.xmin_column) (λ j. each' j (stored 0 t.snapshot_xmins i xmin j))
      g.differ
    where
      here : SlotGood k.clock k.vacuum_line (txid_at t i) xmin
      here =
          let s = is_taken (g.each i) r.holds in
          taken r.low r.under (omega (arith, f.onward)) (f.under i r.holds)

      each' : (j : ℕ) → Stored 0 t.snapshot_xmins i xmin j →
          SlotGood k.clock k.vacuum_line (txid_at t j) (get_or (set t.snapshot_xmins i xmin) j 0)
      each' j (new_here p _ a) = rw (a, p) here
      each' j (as_before _ a) = rw a (moved j)

  pub good-applied : (s : SlotChange) → SlotFits t k s → Good n (applied t (change s k))
  good-applied Stays u = good-both t.txids t.snapshot_xmins g.txid_column g.xmin_column moved g.differ
  good-applied (Enters slot txid) e =
      good-slot slot.0 txid.0 txid.0 (taken e.positive (omega arith) e.past e.over)
      (new-number txid.0 e.new)
  good-applied (Leaves slot) u = good-slot slot.0 0 0 (empty refl refl) (λ h. absurd (h refl))
  good-applied (Retains slot xmin) r = good-retains slot.0 xmin r
  good-applied (Pins pin xmin) h = good-pin pin.0 xmin h

pub good-fresh : (n : ℕ) → Good n (fresh_table n)
unfolding fresh_table free_pins
good-fresh n =
    record {
      txid_column = length-replicate n 0;
      xmin_column = length-replicate n 0;
      pin_column = length-replicate {A = ℕ} pin_count 0;
      sample_from_1 = omega arith;
      sample_to_clock = omega arith;
      line_from_1 = omega arith;
      line_to_clock = omega arith;
      each = λ i. empty (zeros_hold n i) (zeros_hold n i);
      each_pin = λ i. pin_free (zeros_hold pin_count i);
      differ = λ i j h e. absurd (h (zeros_hold n i));
    }
