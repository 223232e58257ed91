-- L.begin_transaction, and the two clauses that I:547 adds: our begin meets them where none of 4 to 8 is given. A begin that is
-- foreseen enters the lowest empty slot, or finds all taken (Runs.antt); in both outcomes its number is reserved.
use Prim.Native.Nat.{ℕ}
use mathlib.Core.Path.{refl, sym, ◌∙◌}
use mathlib.Core.List.{List}
use native.Mathlib.Nat.{suc-ne-zero}
use native.Mathlib.Omega.{arith}
use Rattle.kinds.specs.declared.Stamp.{Stamp}
use Rattle.kinds.specs.Refusals.{told, consumed}
use Rattle.kinds.specs.Verdicts.{Verdict}
use Rattle.model.specs.declared.Table.{Table}
use Rattle.model.specs.Tally.{lowest_empty}
use Rattle.model.specs.Answers.{tells_of}
use Rattle.model.specs.Calls.{begin, refusal, change_accepted, spent, change_of, after, answer_accepted, answer_by, answer}
use Rattle.model.proofs.Tally.{lowest_empty_lem, below_lowest}
use Rattle.upstream.specs.States.{state_of, state_after, Shaped, Foreseen}
use Rattle.upstream.specs.Relations.{Kept}
use Rattle.upstream.specs.Clauses.{BeginTransaction, BeginAcquired}
use Rattle.upstream.proofs.Pairs.{pairs_set, slots_length, txid-at}
use Rattle.upstream.proofs.Histories.{length_push}
use Rattle.upstream.proofs.Always.{well_formed_kept}
use Rattle.upstream.proofs.Runs.{state_by, Beginning, entered, full, beginning}

module _ (n : ℕ) (t : Table) (history : List ℕ) (k : Stamp) (s : Shaped n t) where
  by-run :
      (v : Verdict) → Kept n (state_of t history) (state_by v t history (begin k)) → Beginning n t k v →
      BeginTransaction n (state_of t history) (state_by v t history (begin k)) (tells_of (answer_by v t (begin k)))
  unfolding change_accepted consumed spent answer_accepted tells_of told
  by-run v kept (entered f room) =
      record {
        l_begin_e1 = kept;
        l_begin_e3 = omega (arith, f.from_clock);
        l_begin_e4 = length_push history k.0;
        l_begin_e5 =
            λ e. record {
              l_begin_e5a = room;
              l_begin_e5b = f.from_clock;
              l_begin_e5c = refl;
              l_begin_e5d = txid-at n t s (lowest_empty t.txids) ∙ lowest_empty_lem t.txids;
              l_begin_e5e = pairs_set t.txids t.snapshot_xmins (lowest_empty t.txids) k.0 k.0;
            };
        l_begin_e67 = λ e. absurd (e refl);
      }
  by-run v kept (full f taken) =
      record {
        l_begin_e1 = kept;
        l_begin_e3 = omega (arith, f.from_clock);
        l_begin_e4 = length_push history k.0;
        l_begin_e5 = λ e. absurd (suc-ne-zero _ e);
        l_begin_e67 =
            λ e. record {
              l_begin_e6a = refl;
              l_begin_e6b = λ i h z. below_lowest t.txids i (omega (arith, slots_length n t s)) (sym (txid-at n t s i) ∙ z);
              l_begin_e7a = f.from_clock;
              l_begin_e7b = refl;
              l_begin_e7c = refl;
            };
      }

  pub begin_meets :
      Foreseen (refusal n t (begin k)) →
      BeginTransaction n (state_of t history) (state_after n t history (begin k)) (tells_of (answer n t (begin k)))
  unfolding change_of after answer
  begin_meets f = by-run (refusal n t (begin k)) (well_formed_kept n t history s (begin k)) (beginning n t k f)

  acquired-run :
      (v : Verdict) → Beginning n t k v →
      BeginAcquired (state_of t history) (state_by v t history (begin k)) (tells_of (answer_by v t (begin k)))
  unfolding change_accepted consumed spent answer_accepted tells_of told
  acquired-run v (entered f room) = record { i_begin_e1 = refl; i_begin_e2 = refl }
  acquired-run v (full f taken) = record { i_begin_e1 = refl; i_begin_e2 = refl }

  pub begin_acquired_meets :
      Foreseen (refusal n t (begin k)) →
      BeginAcquired (state_of t history) (state_after n t history (begin k)) (tells_of (answer n t (begin k)))
  unfolding change_of after answer
  begin_acquired_meets f = acquired-run (refusal n t (begin k)) (beginning n t k f)
