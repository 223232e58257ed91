-- I's calls after a wait: after an accepted wait our begin, transaction snapshot and end meet their clauses. The wait is a valid trace
-- (`traced`), so it keeps well_formed, the history and the owner's slot; the call then meets L's clauses on the table at the end.
use Prim.Native.Nat.{ℕ, ◌<◌}
use native.Mathlib.Omega.{arith}
use mathlib.Core.Path.{◌≡◌, ap}
use mathlib.Core.List.{List}
use lib.ListN.{length, length-set}
use lib.Seq.{get_or-set_same}
use Rattle.kinds.specs.declared.Stamp.{Stamp}
use Rattle.kinds.specs.declared.told.Told.{Told}
use Rattle.kinds.specs.Verdicts.{Pass}
use Rattle.model.specs.declared.Table.{Table}
use Rattle.model.specs.Answers.{tells_of}
use Rattle.model.specs.Calls.{Call, begin, refusal, answer}
use Rattle.model.specs.Reservations.{reserves_by}
use Rattle.upstream.specs.States.{State, Slot, slot, state_of, state_after, Shaped, Foreseen}
use Rattle.upstream.specs.Relations.{TableOf, HistoryOf, WellFormed}
use Rattle.upstream.specs.Clauses.{BeginOk, BeginTransaction}
use Rattle.upstream.proofs.Yes.{from_yes}
use Rattle.upstream.proofs.Pairs.{slots_of, slots_length}
use Rattle.upstream.proofs.Always.{still_well_formed}
use Rattle.upstream.proofs.Begin.{begin_meets}
use Rattle.wait_rules.specs.Owner.{Owner}
use Rattle.wait.specs.Waits.{wait_of}
use Rattle.wait.proofs.Waits.{heard, end-passes}
use Rattle.interference.specs.Interference.{Extends, WaitEvent, Valid, events_told_by, history_told}
use Rattle.interference.specs.AfterWait.{BegunAfterWait, BeginAfterWait}
use Rattle.interference.proofs.Steps.{traced}
use Rattle.interference.proofs.Formed.{well_formed_wait}
use Rattle.interference.proofs.Onward.{extends_on, extends_pushes, extends_wait}

-- a valid trace from the one state to the other
pub record Over (owner : Owner) (a b : State) : Type 0 where
  pub events : List WaitEvent
  pub trace : Valid owner a b events

module _ (n : ℕ) (t : Table) (owner : Owner) (s h : List ℕ) (q : (wait_of n t owner s).verdict ≡ Pass) where
  -- the table at the end, and the states that the wait begins and ends with
  abbrev u : Table
  u = (wait_of n t owner s).table

  abbrev entry : State
  entry = state_of t h

  abbrev acquired : State
  acquired = state_of u (history_told h s)

  pub over : Over owner entry acquired
  over = let w = traced n t owner s h q in record { events = events_told_by w.events; trace = rw w.text w.trace }

  pub shaped : Shaped n u
  shaped = (from_yes n u (end-passes n t owner s q)).shape

  pub formed : HistoryOf entry → WellFormed n acquired
  formed p =
      well_formed_wait n owner entry acquired over.events over.trace
      (record { table = (from_yes n t (heard n t owner s q).entry).table; history = p })

  pub formed_after : (c : Call) → HistoryOf entry → WellFormed n (state_after n u (history_told h s) c)
  formed_after c p = still_well_formed n u (history_told h s) shaped c (formed p)

  goes_on : Extends h (history_told h s)
  goes_on = extends_wait owner entry acquired over.events over.trace

  pub goes_on_after : (c : Call) → Extends h (state_after n u (history_told h s) c).reservations
  goes_on_after c = extends_on h (history_told h s) _ goes_on (extends_pushes (history_told h s) (reserves_by (refusal n u c) c))

  pub begin-after_wait_meets : (k : Stamp) → Foreseen (refusal n u (begin k))
      → BeginAfterWait n entry acquired (state_after n u (history_told h s) (begin k)) (tells_of (answer n u (begin k)))
  begin-after_wait_meets k f =
      record {
        i_begin_wait_e1 = formed_after (begin k);
        i_begin_wait_e4 = formed;
        i_begin_wait_e6 = goes_on;
        i_begin_wait_e7 = goes_on_after (begin k);
        i_begin_wait_e9 = λ e. begun (b.l_begin_e5 e);
      }
    where
      new : State
      new = state_after n u (history_told h s) (begin k)

      result : Told
      result = tells_of (answer n u (begin k))

      b : BeginTransaction n acquired new result
      b = begin_meets n u (history_told h s) k shaped f

      y : TableOf n acquired
      y = (from_yes n u (end-passes n t owner s q)).table

      begun : BeginOk n acquired new result → BegunAfterWait acquired new result
      begun o =
          let entered = slot result.id result.id in
          let inside : result.slot < length (slots_of u) = omega (arith, slots_length n u shaped, o.l_begin_e5a) in
          record {
            i_begin_wait_e9a =
                rw o.l_begin_e5e
                (record {
                  positive = omega (arith, y.sample_positive, y.sample_within, o.l_begin_e5b);
                  inside = omega (arith, length-set (slots_of u) result.slot entered, inside);
                  holds = ap (λ (x : Slot). x.txid) (get_or-set_same (slots_of u) result.slot entered (slot 0 0) inside);
                });
            i_begin_wait_e9c = o.l_begin_e5d;
            i_begin_wait_e9d = o.l_begin_e5b;
            i_begin_wait_e9e = o.l_begin_e5c;
          }
