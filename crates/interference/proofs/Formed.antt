-- A step of upstream's keeps its well_formed, so a valid wait does: what well_formed says of the slots holds of the slot that is
-- stored and of every other one, and the history is the former one, or goes on with one number from the clock on.
use Prim.Native.Nat.{ℕ, ◌+◌, ◌<◌, ◌≤◌}
use native.Mathlib.Nat.{le_refl, le_trans}
use native.Mathlib.Decide.{ℕ_discrete, dec_lt}
use native.Mathlib.Omega.{arith}
use mathlib.Core.Path.{◌≡◌, refl, sym, ◌∙◌}
use mathlib.Core.Logic.{◌≢◌}
use mathlib.Core.List.{List, [], ◌∷◌}
use lib.ListN.{length, set, length-set}
use lib.Seq.{get_or-set_same, get_or-set_other}
use Rattle.model.proofs.Reservations.{nothing}
use Rattle.upstream.specs.States.{Slot, State, slot, at, push}
use Rattle.upstream.specs.Relations.{Contains, TablePart, WellFormed}
use Rattle.upstream.proofs.Histories.{contains_pushes, contains_last, history_push, history_step}
use Rattle.wait_rules.specs.Owner.{Owner}
use Rattle.interference.specs.Interference.{WaitEvent, Register, End, Horizon, Reserve, Observe, WaitStep, Valid, none, also}

-- a slot after a store: the stored one, or another one as it was
pub data Stored (slots : List Slot) (i : ℕ) (s : Slot) (j : ℕ) : Type 0 where
  here : j ≡ i → at (set slots i s) j ≡ s → Stored slots i s j
  other : j ≢ i → at (set slots i s) j ≡ at slots j → Stored slots i s j

pub stored : (slots : List Slot) (i : ℕ) (s : Slot) (j : ℕ) → i < length slots → Stored slots i s j
stored slots i s j h = go (ℕ_discrete j i)
  where
    go : Dec (j ≡ i) → Stored slots i s j
    go (yes e) = here e (rw e (get_or-set_same slots i s (slot 0 0) h))
    go (no d) = other d (get_or-set_other slots i j s (slot 0 0) d)

-- a slot that may be stored in place i
record Fits (slots : List Slot) (clock i : ℕ) (s : Slot) : Type 0 where
  inside : i < length slots
  empty : s.txid ≡ 0 → s.snapshot_xmin ≡ 0
  low : s.txid ≢ 0 → 0 < s.snapshot_xmin
  under : s.txid ≢ 0 → s.snapshot_xmin ≤ s.txid
  past : s.txid ≢ 0 → s.txid < clock
  alone : (j : ℕ) → j ≢ i → s.txid ≢ 0 → s.txid ≢ (at slots j).txid

module _ (n : ℕ) (slots : List Slot) (clock sample clock' sample' : ℕ) (y : TablePart n slots clock sample) where
  -- clock and sample alone
  table-onward : clock ≤ clock' → 0 < sample' → sample' ≤ clock' → TablePart n slots clock' sample'
  table-onward c a b =
      record {
        size = y.size;
        sample_positive = a;
        sample_within = b;
        empty_xmin = y.empty_xmin;
        xmin_positive = y.xmin_positive;
        xmin_within = y.xmin_within;
        txid_below = λ i z. le_trans (y.txid_below i z) c;
        distinct = y.distinct;
      }

  -- .. and one slot
  table-store : (i : ℕ) (s : Slot) → Fits slots clock' i s → clock ≤ clock' → 0 < sample' → sample' ≤ clock'
      → TablePart n (set slots i s) clock' sample'
  table-store i s f c a b =
      record {
        size = length-set slots i s ∙ y.size;
        sample_positive = a;
        sample_within = b;
        empty_xmin = λ j. each (λ (x : Slot). x.txid ≡ 0 → x.snapshot_xmin ≡ 0) f.empty y.empty_xmin j;
        xmin_positive = λ j. each (λ (x : Slot). x.txid ≢ 0 → 0 < x.snapshot_xmin) f.low y.xmin_positive j;
        xmin_within = λ j. each (λ (x : Slot). x.txid ≢ 0 → x.snapshot_xmin ≤ x.txid) f.under y.xmin_within j;
        txid_below = λ j. each (λ (x : Slot). x.txid ≢ 0 → x.txid < clock') f.past (λ k z. le_trans (y.txid_below k z) c) j;
        distinct = λ j k l. apart j k l (stored slots i s j f.inside) (stored slots i s k f.inside);
      }
    where
      each : (P : Slot → Type 0) → P s → ((j : ℕ) → P (at slots j)) → (j : ℕ) → P (at (set slots i s) j)
      each P p q j = go (stored slots i s j f.inside)
        where
          go : Stored slots i s j → P (at (set slots i s) j)
          go (here e w) = rw w p
          go (other d w) = rw w (q j)

      apart : (j k : ℕ) → j < k → Stored slots i s j → Stored slots i s k
          → (at (set slots i s) j).txid ≢ 0 → (at (set slots i s) j).txid ≢ (at (set slots i s) k).txid
      apart j k l (here p u) (here q v) = absurd (omega arith)
      apart j k l (here p u) (other d v) = rw (u, v) (f.alone k d)
      apart j k l (other d u) (here q v) = rw (u, v) (λ z e. f.alone j d (λ x. z (e ∙ x)) (sym e))
      apart j k l (other d u) (other g v) = rw (u, v) (y.distinct j k l)

-- a store of txid 0, of a new txid, of another snapshot_xmin
empty-fits : (slots : List Slot) (clock i : ℕ) → i < length slots → Fits slots clock i (slot 0 0)
empty-fits slots clock i h =
    record {
      inside = h;
      empty = λ e. refl;
      low = λ z. absurd (z refl);
      under = λ z. absurd (z refl);
      past = λ z. absurd (z refl);
      alone = λ j d z. absurd (z refl);
    }

module _ (n : ℕ) (slots : List Slot) (clock sample : ℕ) (y : TablePart n slots clock sample) (i : ℕ) (h : i < length slots) where
  new-fits : (id : ℕ) → clock ≤ id → Fits slots (id + 1) i (slot id id)
  new-fits id c =
      record {
        inside = h;
        empty = λ e. e;
        low = λ z. omega arith;
        under = λ z. le_refl id;
        past = λ z. omega arith;
        alone = λ j d z e. below j e (ℕ_discrete (at slots j).txid 0);
      }
    where
      below : (j : ℕ) → id ≡ (at slots j).txid → Dec ((at slots j).txid ≡ 0) → ⊥
      below j e (yes q) = let s = y.sample_positive in let w = y.sample_within in omega arith
      below j e (no q) = let b = y.txid_below j q in omega arith

  xmin_fits : (xmin clock' : ℕ) → 0 < xmin → xmin ≤ (at slots i).txid → clock ≤ clock'
      → Fits slots clock' i (slot (at slots i).txid xmin)
  xmin_fits xmin clock' l u c =
      record {
        inside = h;
        empty = λ e. omega arith;
        low = λ z. l;
        under = λ z. u;
        past = λ z. le_trans (y.txid_below i z) c;
        alone = λ j d z e. apart j d z e (dec_lt i j);
      }
    where
      apart : (j : ℕ) → j ≢ i → (at slots i).txid ≢ 0 → (at slots i).txid ≡ (at slots j).txid → Dec (i < j) → ⊥
      apart j d z e (yes b) = y.distinct i j b z e
      apart j d z e (no b) = y.distinct j i (omega arith) (λ q. z (e ∙ q)) (sym e)

-- what the history says of registered txids, after a store
stored_registered :
    (slots : List Slot) (ids : List ℕ) (i : ℕ) (s : Slot) → i < length slots → (s.txid ≢ 0 → Contains ids s.txid)
    → ((j : ℕ) → (at slots j).txid ≢ 0 → Contains ids (at slots j).txid)
    → (j : ℕ) → (at (set slots i s) j).txid ≢ 0 → Contains ids (at (set slots i s) j).txid
stored_registered slots ids i s h p q j = go (stored slots i s j h)
  where
    go : Stored slots i s j → (at (set slots i s) j).txid ≢ 0 → Contains ids (at (set slots i s) j).txid
    go (here e w) = rw w p
    go (other d w) = rw w (q j)

module _ (n : ℕ) (a b : State) (w : WellFormed n a) where
  abbrev old : List ℕ
  old = a.reservations

  -- the number that is pushed is above 0
  positive : (id : ℕ) → a.clock ≤ id → 0 < id
  positive id h = omega (arith, w.table.sample_positive, w.table.sample_within)

  -- a number pushed leaves those of the slots in the history
  still : (id j : ℕ) → (at a.slots j).txid ≢ 0 → Contains (push old id) (at a.slots j).txid
  still id j z = contains_pushes old (id ∷ []) _ (w.history.registered j z)

  pub well_formed_step : (e : WaitEvent) → WaitStep a b e → WellFormed n b
  well_formed_step (Register i id) s =
      rw (s.slots, s.clock, s.sample, s.reservations)
      (record {
        table =
            table-store n a.slots a.clock a.sampled_clock (id + 1) a.sampled_clock w.table i (slot id id)
            (new-fits n a.slots a.clock a.sampled_clock w.table i s.inside id s.from_clock)
            (omega (arith, s.from_clock)) w.table.sample_positive (omega (arith, w.table.sample_within, s.from_clock));
        history =
            history_push a.slots (set a.slots i (slot id id)) a.clock a.clock old w.history id
            (positive id s.from_clock) s.from_clock
            (stored_registered a.slots (push old id) i (slot id id) s.inside (λ z. contains_last old id) (still id));
      })
  well_formed_step (End i) s =
      rw (s.slots, s.clock, s.sample, s.reservations)
      (record {
        table =
            table-store n a.slots a.clock a.sampled_clock a.clock a.sampled_clock w.table i (slot 0 0)
            (empty-fits a.slots a.clock i s.inside) (le_refl _) w.table.sample_positive w.table.sample_within;
        history =
            history_step a.slots (set a.slots i (slot 0 0)) a.clock a.clock old w.history [] (nothing refl (le_refl _))
            (stored_registered a.slots old i (slot 0 0) s.inside (λ z. absurd (z refl)) w.history.registered);
      })
  well_formed_step (Horizon i xmin) s =
      let x = (at a.slots i).txid in
      rw (s.slots, s.reservations)
      (record {
        table =
            table-store n a.slots a.clock a.sampled_clock b.clock b.sampled_clock w.table i (slot x xmin)
            (xmin_fits n a.slots a.clock a.sampled_clock w.table i s.inside xmin b.clock s.positive s.within
            s.onward)
            s.onward s.sample_positive s.sample_within;
        history =
            history_step a.slots (set a.slots i (slot x xmin)) a.clock b.clock old w.history []
            (nothing refl s.onward)
            (stored_registered a.slots old i (slot x xmin) s.inside (w.history.registered i) w.history.registered);
      })
  well_formed_step (Reserve id) s =
      rw (s.slots, s.clock, s.sample, s.reservations)
      (record {
        table =
            table-onward n a.slots a.clock a.sampled_clock (id + 1) a.sampled_clock w.table
            (omega (arith, s.from_clock)) w.table.sample_positive (omega (arith, w.table.sample_within, s.from_clock));
        history =
            history_push a.slots a.slots a.clock a.clock old w.history id (positive id s.from_clock) s.from_clock
            (still id);
      })
  well_formed_step Observe s =
      rw (s.slots, s.reservations)
      (record {
        table =
            table-onward n a.slots a.clock a.sampled_clock b.clock b.sampled_clock w.table s.clock
            s.sample_positive s.sample_within;
        history =
            history_step a.slots a.slots a.clock b.clock old w.history [] (nothing refl s.clock)
            w.history.registered;
      })

pub well_formed_wait : (n : ℕ) (owner : Owner) (a b : State) (es : List WaitEvent) → Valid owner a b es → WellFormed n a → WellFormed n b
well_formed_wait n owner a b es none w = w
well_formed_wait n owner a b es (also {b = m} {e = e} s l v) w = well_formed_wait n owner m b _ v (well_formed_step n a m w e s)
