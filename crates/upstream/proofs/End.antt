-- L.end_transaction: our end meets upstream's contract where none of 4 to 8 is given. An end that is foreseen has its slot
-- outside, or in another's hands, or its own (Runs.antt); only the last moves anything, the one slot.
use Prim.Native.Nat.{ℕ}
use mathlib.Core.Path.{refl, ◌∙◌, sym}
use mathlib.Core.List.{List}
use native.Mathlib.Nat.{suc-ne-zero}
use borrow.Author.Tests.{le-leb, lt-leb, eq-eqb, ne_eqb}
use Rattle.kinds.specs.declared.SlotNo.{SlotNo}
use Rattle.kinds.specs.declared.Txid.{Txid}
use Rattle.kinds.specs.Refusals.{told, consumed}
use Rattle.kinds.specs.Verdicts.{Verdict, Pass}
use Rattle.kinds.proofs.Verdicts.{then_last}
use Rattle.model.specs.declared.Table.{Table}
use Rattle.model.specs.Answers.{tells_of}
use Rattle.model.specs.Calls.{end, refusal, change_accepted, spent, change_of, after, answer_accepted, answer_by, answer}
use Rattle.upstream.specs.States.{state_of, state_after, Shaped, Foreseen}
use Rattle.upstream.specs.Relations.{Kept}
use Rattle.upstream.specs.Clauses.{EndTransaction}
use Rattle.upstream.proofs.Pairs.{pairs_set, txid-at}
use Rattle.upstream.proofs.Always.{well_formed_kept}
use Rattle.upstream.proofs.Runs.{state_by, Owning, outside, other, owned, owning}

module _ (n : ℕ) (t : Table) (history : List ℕ) (i : SlotNo) (id : Txid) (s : Shaped n t) where
  by-run :
      (v : Verdict) → Kept n (state_of t history) (state_by v t history (end i id)) →
      Owning n t i id (end i id) v →
      EndTransaction n (state_of t history) (state_by v t history (end i id)) i id (tells_of (answer_by v t (end i id)))
  unfolding change_accepted consumed spent answer_accepted tells_of told
  by-run v kept (outside h) =
      record {
        l_end_e1 = kept;
        l_end_e3 = refl;
        l_end_e4 = refl;
        l_end_e5 = refl;
        l_end_e6 = λ e. absurd (suc-ne-zero _ e);
        l_end_e7 = λ e. refl;
        l_end_e8 = rw (le-leb n i.0 h);
      }
  by-run v kept (other h d) =
      record {
        l_end_e1 = kept;
        l_end_e3 = refl;
        l_end_e4 = refl;
        l_end_e5 = refl;
        l_end_e6 = λ e. absurd (suc-ne-zero _ e);
        l_end_e7 = λ e. refl;
        l_end_e8 = rw (txid-at n t s i.0, lt-leb n i.0 h, ne_eqb _ _ d);
      }
  by-run v kept (owned o) =
      record {
        l_end_e1 = kept;
        l_end_e3 = refl;
        l_end_e4 = refl;
        l_end_e5 = refl;
        l_end_e6 =
            λ e. record {
              l_end_e6a = o.inside;
              l_end_e6b = txid-at n t s i.0 ∙ o.registered.holds;
              l_end_e6c = pairs_set t.txids t.snapshot_xmins i.0 0 0;
            };
        l_end_e7 = λ e. absurd (e refl);
        l_end_e8 = rw (txid-at n t s i.0, lt-leb n i.0 o.inside, eq-eqb _ _ o.registered.holds);
      }

  pub end_meets :
      Foreseen (refusal n t (end i id)) →
      EndTransaction n (state_of t history) (state_after n t history (end i id)) i id (tells_of (answer n t (end i id)))
  unfolding refusal change_of after answer
  end_meets f =
      by-run (refusal n t (end i id)) (well_formed_kept n t history s (end i id))
      (owning n t i id (end i id) Pass (λ g. refl) (sym (then_last _)) f)
