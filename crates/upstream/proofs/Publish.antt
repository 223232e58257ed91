-- L.reserve_publication_clock and L.deregister_then_reserve: our stamp and finish meet upstream's contracts where none of 4 to 8
-- is given. A stamp is accepted then; a finish has its slot outside, or in another's hands, or its own (Runs.antt). That the
-- txid is in no slot afterwards is model's `emptied-gone`, and needs taken txids to differ.
use Prim.Native.Nat.{ℕ, ◌<◌}
use mathlib.Core.Path.{◌≡◌, refl}
use mathlib.Core.Logic.{◌≢◌}
use mathlib.Core.List.{List}
use native.Mathlib.Nat.{suc-ne-zero}
use native.Mathlib.Omega.{arith}
use lib.ListN.{set}
use Rattle.kinds.specs.declared.Stamp.{Stamp}
use Rattle.kinds.specs.declared.SlotNo.{SlotNo}
use Rattle.kinds.specs.declared.Txid.{Txid}
use Rattle.kinds.specs.Refusals.{told, consumed}
use Rattle.kinds.specs.Verdicts.{Verdict, Pass}
use Rattle.model.specs.declared.Table.{Table}
use Rattle.model.specs.declared.change.SlotChange.TheVariants.{Leaves}
use Rattle.model.specs.Tables.{clock_of}
use Rattle.model.specs.Tests.{reservation_test}
use Rattle.model.specs.Accepted.{Owns, Reserves}
use Rattle.model.specs.Answers.{tells_of}
use Rattle.model.specs.Calls.{stamp, finish, refusal, change_accepted, spent, change_of, after, answer_accepted, answer_by, answer}
use Rattle.model.proofs.Tests.{reserves}
use Rattle.model.proofs.Gone.{emptied_gone}
use Rattle.upstream.specs.States.{at, pairs, state_of, state_after, Shaped, Foreseen}
use Rattle.upstream.specs.Relations.{Contains, TableOf, HistoryOf, Kept}
use Rattle.upstream.specs.Clauses.{ReservePublicationClock, DeregisterThenReserve}
use Rattle.upstream.proofs.Pairs.{txid-at, shaped_applied}
use Rattle.upstream.proofs.Yes.{unpinned, to_good}
use Rattle.upstream.proofs.Always.{well_formed_kept}
use Rattle.upstream.proofs.Runs.{state_by, reservation_strict, Owning, outside, other, owned, owning}

-- the stamp is above every number of the history
pub above :
    (t : Table) (history : List ℕ) (k reader : ℕ) → Reserves (clock_of t) k → HistoryOf (state_of t history) →
    Contains history reader → reader < k
above t history k reader f p c =
    let b = rw c.there at (p.below c.place c.inside) in
    omega (arith, f.from_clock)

module _ (n : ℕ) (t : Table) (history : List ℕ) (s : Shaped n t) where
  pub stamp_meets :
      (k : Stamp) → Foreseen (refusal n t (stamp k)) →
      ReservePublicationClock n (state_of t history) (state_after n t history (stamp k)) (tells_of (answer n t (stamp k)))
  unfolding refusal change_accepted change_of after answer_accepted answer tells_of
  stamp_meets k f =
      let passes : refusal n t (stamp k) ≡ Pass = reservation_strict (clock_of t) k f in
      let fits : Reserves (clock_of t) k.0 = reserves (clock_of t) k passes in
      let kept = well_formed_kept n t history s (stamp k) in
      rw passes
      (record {
        l_stamp_e1 = rw passes at kept;
        l_stamp_e2 =
            record {
              from_clock = fits.from_clock;
              below_top = fits.below_top;
              clock = refl;
              reservations = refl;
              slots = refl;
              sample = refl;
            };
      })

  module _ (i : SlotNo) (id : Txid) (k : Stamp) where
    -- what the emptied slot held is held nowhere after
    gone :
        Owns n t i id → TableOf n (state_of t history) → (j : ℕ) →
        (at (pairs (set t.txids i.0 0) (set t.snapshot_xmins i.0 0)) j).txid ≢ id.0
    gone o y j =
        rw (txid-at n _ (shaped_applied n t s (Leaves i) t.counters) j)
        (emptied_gone n (unpinned t) i id (to_good n t (record { shape = s; table = y }))
        (record { inside = o.inside; registered = record { not_zero = o.registered.not_zero; holds = o.registered.holds } }) j)

    finish-run :
        (v : Verdict) → Kept n (state_of t history) (state_by v t history (finish i id k)) →
        Owning n t i id (finish i id k) v →
        DeregisterThenReserve n (state_of t history) (state_by v t history (finish i id k)) id
        (tells_of (answer_by v t (finish i id k)))
    unfolding change_accepted consumed spent answer_accepted tells_of told
    finish-run v kept (outside h) =
        record { l_finish_e1 = kept; l_finish_e345 = λ e. absurd (suc-ne-zero _ e); l_finish_e6 = λ e. refl }
    finish-run v kept (other h d) =
        record { l_finish_e1 = kept; l_finish_e345 = λ e. absurd (suc-ne-zero _ e); l_finish_e6 = λ e. refl }
    finish-run v kept (owned (o, f)) =
        record {
          l_finish_e1 = kept;
          l_finish_e345 =
              λ e. record {
                l_finish_e3 = λ p reader c. above t history k.0 reader f p c;
                l_finish_e4 = refl;
                l_finish_e5 = λ y j b. gone o y j;
              };
          l_finish_e6 = λ e. absurd (e refl);
        }

    pub finish_meets :
        Foreseen (refusal n t (finish i id k)) →
        DeregisterThenReserve n (state_of t history) (state_after n t history (finish i id k)) id
        (tells_of (answer n t (finish i id k)))
    unfolding refusal change_of after answer
    finish_meets f =
        finish-run (refusal n t (finish i id k)) (well_formed_kept n t history s (finish i id k))
        (owning n t i id (finish i id k) (reservation_test (clock_of t) k) (reservation_strict (clock_of t) k) refl f)
