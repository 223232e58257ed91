-- A test by what it says in numbers. And what a call does by its verdict: one law for every refused call but begin, one for every
-- accepted call.
use Prim.Native.Nat.{ℕ}
use mathlib.Core.Path.{◌≡◌, refl, ap, ◌∙◌}
use mathlib.Core.Bool.{false}
use Rattle.std.specs.Prelude.{Result, Ok, Err}
use Rattle.std.specs.Result.{IsErrAnd}
use Rattle.std.proofs.lemmas.Result.{err_from_is_err_and}
use Rattle.kinds.specs.declared.told.Told.{Told}
use Rattle.kinds.specs.Refusals.{told}
use Rattle.kinds.specs.Verdicts.{Verdict, Pass, Refuse, then}
use Rattle.settled.specs.Snapshots.{no_snapshot}
use Rattle.model.specs.declared.Table.{Table}
use Rattle.model.specs.Tables.{line_of}
use Rattle.model.specs.Deeds.{opens}
use Rattle.model.specs.Answers.{tells_of, xmin_told, holder_told, numbers_of, numbers_beside}
use Rattle.model.specs.Calls.{Call, refusal, change_accepted, change_of, answer_accepted, answer, shown_accepted, shown}
use Rattle.model.proofs.Refused.{refused_kept}
use Rattle.ledger_tests.specs.Told.{in_numbers}
use Rattle.ledger_calls.specs.declared.Did.{Did}
use Rattle.ledger_calls.specs.Deeds.{plainly, stayed, or_refused, deed_of, did_by}

pub passes : (v : Verdict) {u : Unit {0}} → Ok u ≡ in_numbers v → v ≡ Pass
passes Pass e = refl
passes (Refuse r) e = cc

-- two tests in order
module _ (v w : Verdict) where
  pub first_refuses : {said : Told} → Err said ≡ in_numbers v → Err said ≡ in_numbers (then v w)
  first_refuses {said} e = go v e
    where
      go : (v : Verdict) → Err said ≡ in_numbers v → Err said ≡ in_numbers (then v w)
      go Pass e = cc
      go (Refuse r) e = e

  pub second_refuses : {said : Told} → v ≡ Pass → Err said ≡ in_numbers w → Err said ≡ in_numbers (then v w)
  second_refuses p e = rw p e

  pub both_pass : v ≡ Pass → w ≡ Pass → then v w ≡ Pass
  both_pass p q = rw p q

module _ (n : ℕ) (t : Table) (c : Call) where
  pub refused_did :
      {said : Told} → opens c ≡ false → Err said ≡ in_numbers (refusal n t c) →
      stayed (plainly said (line_of t)) t.counters ≡ did_by n t c
  unfolding did_by change_of answer shown no_snapshot numbers_of tells_of xmin_told holder_told
  refused_did {said} b e = go (refusal n t c) refl
    where
      go : (v : Verdict) → refusal n t c ≡ v → stayed (plainly said (line_of t)) t.counters ≡ did_by n t c
      go Pass p = let z = e ∙ ap in_numbers p in cc
      go (Refuse r) p =
          let z = e ∙ ap in_numbers p in
          let s : said ≡ told r = cc in
          rw (s, p, refused_kept n t c r b p)

  -- .. where the test is the exit
  pub turned_down :
      (r : Result Did Told) {said : Told} → IsErrAnd r (λ told. told ≡ said) → opens c ≡ false →
      Err said ≡ in_numbers (refusal n t c) → or_refused t.counters r ≡ did_by n t c
  turned_down r {said} exit b e =
      let p = err_from_is_err_and r exit in
      rw (p.1, p.2) (refused_did b e)

  pub accepted_did :
      refusal n t c ≡ Pass →
      record {
        deed = deed_of t (change_accepted t c);
        numbers = numbers_beside (answer_accepted t c) (shown_accepted n t c) (change_accepted t c).counters.vacuum_line;
      }
      ≡ did_by n t c
  unfolding did_by change_of answer shown
  accepted_did p = rw p
