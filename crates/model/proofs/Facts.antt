-- Each call, accepted or refused, on any arguments, keeps the facts of the table check.
use Prim.Native.Nat.{ℕ, ◌≤◌}
use mathlib.Core.Path.{◌≡◌, refl, sym, ◌∙◌}
use mathlib.Core.Logic.{◌≢◌}
use mathlib.Core.List.{List, [], ◌∷◌}
use native.Mathlib.Nat.{le_trans}
use native.Mathlib.Omega.{arith}
use Rattle.kinds.specs.declared.SlotNo.{SlotNo}
use Rattle.kinds.specs.declared.Txid.{Txid}
use Rattle.model.specs.declared.Counters.{Counters}
use Rattle.model.specs.declared.Table.{Table}
use Rattle.model.specs.declared.change.SlotChange.TheVariants.{Stays}
use Rattle.model.specs.Tally.{active, retained, xmin_of, oldest_of}
use Rattle.model.specs.Tables.{fresh_table, txid_at, xmin_at, pin_at, line_of, clock_of}
use Rattle.model.specs.Changes.{change, past_number, applied}
use Rattle.model.specs.Calls.{Call, oldest_in, pin_sample, change_accepted, after}
use Rattle.model.specs.Accepted.{Owns, Observes, Acceptable}
use Rattle.model.specs.Facts.{Good, pin_free, pin_held}
use Rattle.model.specs.History.{run, reached}
use Rattle.model.proofs.Tally.{minimum_start, minimum_member, minimum_bound, taken-active, active-taken, taken-retained}
use Rattle.model.proofs.Accepted.{accepted_acceptable}
use Rattle.model.proofs.Transactions.{registered_taken}
use Rattle.model.proofs.Calls.{after_accepted, after_cases}
use Rattle.model.proofs.Does.{Does, stands, enters, leaves, retakes, takes-pin, frees_the_pin, does}
use Rattle.model.proofs.Does.{SampleMoves, sample_stays, sample_observed, LineMoves, line_stays, line_raised}
use Rattle.model.proofs.Does.{Counts, counts_on}
use Rattle.model.proofs.Moves.{equally_long, is_taken, is_held, CountersFit, SlotFits, good-applied, good-fresh}

-- an own xmin is from 1 to the owner's txid
own_low : (txids : List ℕ) (sample : ℕ) → 1 ≤ sample → 1 ≤ xmin_of sample (active txids)
own_low txids sample h = minimum_bound sample (active txids) 1 h (λ x e. positive x (active-taken txids x e).2)
  where
    positive : (x : ℕ) → x ≢ 0 → 1 ≤ x
    positive x z = omega arith

own_high :
    (n : ℕ) (t : Table) (slot : SlotNo) (id : Txid) (sample : ℕ) → Owns n t slot id →
    xmin_of sample (active t.txids) ≤ txid_at t slot.0
own_high n t slot id sample o =
    minimum_member sample (active t.txids) (txid_at t slot.0)
    (taken-active t.txids slot.0 (registered_taken t slot id o.registered))

-- a pinned xmin is from the line to the clock: every active id is from the line on
pub pinned-from-line : (n : ℕ) (t : Table) (sample : ℕ) → Good n t → line_of t ≤ xmin_of (pin_sample t sample) (active t.txids)
pinned-from-line n t sample g =
    minimum_bound (pin_sample t sample) (active t.txids) (line_of t) (omega arith) (λ x e. over x (active-taken t.txids x e))
  where
    over : (x : ℕ) → (i : ℕ) × (txid_at t i ≡ x) × (x ≢ 0) → line_of t ≤ x
    over x (i, p, q) =
        let s = is_taken (g.each i) (λ z. q (sym p ∙ z)) in
        omega arith

pub pinned_to_clock :
    (n : ℕ) (t : Table) (clock sample : ℕ) → Good n t → Observes (clock_of t) clock sample →
    xmin_of (pin_sample t sample) (active t.txids) ≤ clock
pinned_to_clock n t clock sample g o =
    omega (arith, minimum_start (pin_sample t sample) (active t.txids), g.line_to_clock, o.onward, o.within)

-- the oldest xmin is at most the sample, at most the snapshot_xmin of each taken slot, and at most each taken pin
pub oldest_sample : (t : Table) (sample : ℕ) → oldest_in t sample ≤ sample
oldest_sample t sample =
    omega (
      arith,
      minimum_start (oldest_of t.txids t.snapshot_xmins sample) (active t.pins),
      minimum_start sample (retained t.txids t.snapshot_xmins),
    )

pub oldest-pin : (t : Table) (sample k : ℕ) → pin_at t k ≢ 0 → oldest_in t sample ≤ pin_at t k
oldest-pin t sample k h = minimum_member _ (active t.pins) (pin_at t k) (taken-active t.pins k h)

pub oldest-taken :
    (n : ℕ) (t : Table) (sample i : ℕ) → Good n t → txid_at t i ≢ 0 → oldest_in t sample ≤ xmin_at t i
oldest-taken n t sample i g h =
    le_trans (minimum_start (oldest_of t.txids t.snapshot_xmins sample) (active t.pins))
    (minimum_member sample (retained t.txids t.snapshot_xmins) (xmin_at t i)
    (taken-retained t.txids t.snapshot_xmins i (equally_long n t g) h))

-- the counters after an accepted call fit
counters_fit : (n : ℕ) (t : Table) (k : Counters) → Good n t → Counts t k → CountersFit t k
counters_fit n t k g c = sampled c.sample c.line
  where
    under : LineMoves t k → (i : ℕ) → txid_at t i ≢ 0 → k.vacuum_line ≤ txid_at t i
    under (line_stays e) i h = let s = is_taken (g.each i) h in omega arith
    under (line_raised sample a b e) i h =
        let s = is_taken (g.each i) h in
        omega (arith, oldest-taken n t sample i g h)

    under_pin : LineMoves t k → (i : ℕ) → pin_at t i ≢ 0 → k.vacuum_line ≤ pin_at t i
    under_pin (line_stays e) i h = let s = is_held (g.each_pin i) h in omega arith
    under_pin (line_raised sample a b e) i h =
        let s = is_held (g.each_pin i) h in
        omega (arith, oldest-pin t sample i h)

    low : LineMoves t k → 1 ≤ k.vacuum_line
    low (line_stays e) = omega (arith, g.line_from_1)
    low (line_raised sample a b e) = omega (arith, g.line_from_1)

    high : LineMoves t k → k.vacuum_line ≤ k.clock
    high (line_stays e) = omega (arith, g.line_to_clock, c.onward)
    high (line_raised sample a b e) = omega (arith, g.line_to_clock, c.onward, oldest_sample t sample)

    fit : 1 ≤ k.sampled_clock → k.sampled_clock ≤ k.clock → LineMoves t k → CountersFit t k
    fit a b l =
        record {
          onward = c.onward;
          sample_from_1 = a;
          sample_to_clock = b;
          line_from_1 = low l;
          line_to_clock = high l;
          under = under l;
          under_pin = under_pin l;
        }

    sampled : SampleMoves t k → LineMoves t k → CountersFit t k
    sampled (sample_stays e) l =
        fit (omega (arith, g.sample_from_1)) (omega (arith, g.sample_to_clock, c.onward)) l
    sampled (sample_observed a b) l = fit a b l

-- so does what it does to a slot
slot-fits :
    (n : ℕ) (t : Table) (c : Call) → Good n t → Does n t c → SlotFits t (change_accepted t c).counters (change_accepted t c).slot
slot-fits n t c g (stands d e) = rw e tt
slot-fits n t c g (enters number p e r k f) =
    rw (e, k)
    (record {
      positive = r.positive;
      new = r.from_clock;
      past = omega arith;
      over = omega (arith, g.line_to_clock, r.from_clock);
    })
slot-fits n t c g (leaves slot id d e o) = rw e tt
slot-fits n t c g (retakes slot id clock sample p e h o) =
    rw e
    (record {
      holds = registered_taken t slot id o.registered;
      low = own_low t.txids sample h;
      under = own_high n t slot id sample o;
    })
slot-fits n t c g (takes-pin clock sample p e k o f) =
    rw (e, k) (pin_held (pinned-from-line n t sample g) (pinned_to_clock n t clock sample g o))
slot-fits n t c g (frees_the_pin k p e h) = rw e (pin_free refl)

good-accepted : (n : ℕ) (t : Table) (c : Call) → Good n t → Acceptable n t c → Good n (after_accepted t c)
good-accepted n t c g p =
    good-applied n t (change_accepted t c).counters g (counters_fit n t _ g (counts_on n t c p)) (change_accepted t c).slot
    (slot-fits n t c g (does n t c p))

-- a clock that went past a number from it on
good-past :
    (n : ℕ) (t : Table) (number : ℕ) → Good n t → clock_of t ≤ number →
    Good n (applied t (change Stays (past_number number t.counters)))
good-past n t number g h =
    good-applied n t (past_number number t.counters) g
    (counters_fit n t (past_number number t.counters) g
    (record { onward = omega arith; sample = sample_stays refl; line = line_stays refl }))
    Stays tt

pub good-after : (n : ℕ) (t : Table) (c : Call) → Good n t → Good n (after n t c)
good-after n t c g =
    after_cases n t c (Good n) (λ e. good-accepted n t c g (accepted_acceptable n t c e)) g
    (λ number h. good-past n t number g h)

pub good-run : (n : ℕ) (t : Table) (cs : List Call) → Good n t → Good n (run n t cs)
unfolding run
good-run n t [] g = g
good-run n t (c ∷ cs) g = good-run n (after n t c) cs (good-after n t c g)

pub good-reached : (n : ℕ) (cs : List Call) → Good n (reached n cs)
good-reached n cs = good-run n (fresh_table n) cs (good-fresh n)
