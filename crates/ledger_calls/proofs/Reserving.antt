-- The calls that reserve a number, or end a transaction, by their tests.
use Prim.Native.Nat.{ℕ, ◌≤◌, ◌<◌}
use mathlib.Core.Path.{◌≡◌, refl, ap, ◌∙◌}
use native.Mathlib.Omega.{arith}
use borrow.Author.Tests.{lt-leb, le-leb}
use Rattle.std.specs.Prelude.{Result, Err}
use Rattle.std.specs.Result.{IsErrAnd}
use Rattle.std.proofs.lemmas.Result.{err_from_is_err_and}
use Rattle.kinds.specs.declared.told.Told.{Told}
use Rattle.kinds.specs.declared.refusal.Refusal.TheVariants.{NoFreeSlot}
use Rattle.kinds.specs.declared.Stamp.{Stamp}
use Rattle.kinds.specs.declared.SlotNo.{SlotNo}
use Rattle.kinds.specs.declared.Txid.{Txid}
use Rattle.kinds.specs.Verdicts.{Verdict, Pass, Refuse}
use Rattle.kinds.specs.Kinds.{saturating_next, txid_of}
use Rattle.kinds.specs.Refusals.{told, consumed, accepted}
use Rattle.settled.specs.Snapshots.{no_snapshot}
use Rattle.model.specs.declared.Counters.{Counters}
use Rattle.model.specs.declared.Table.{Table}
use Rattle.model.specs.Tables.{counted, line_of, clock_of, sample_of}
use Rattle.model.specs.Tally.{lowest_empty}
use Rattle.model.specs.Changes.{past_number}
use Rattle.model.specs.Tests.{owner_test, reservation_test}
use Rattle.model.specs.Answers.{accepted_with, tells_of, xmin_told, holder_told, numbers_of}
use Rattle.model.specs.Calls.{begin, end, stamp, finish, refusal, change_accepted, spent, change_of, answer_accepted, answer}
use Rattle.model.specs.Calls.{shown_accepted, shown}
use Rattle.model.proofs.Tests.{reserves}
use Rattle.model.proofs.Refused.{refused_kept}
use Rattle.ledger_tests.specs.Told.{in_numbers}
use Rattle.ledger_calls.specs.declared.Did.{Did}
use Rattle.ledger_calls.specs.Deeds.{plainly, stayed, in_slot, or_refused, did_by}
use Rattle.ledger_calls.proofs.Tells.{both_pass, accepted_did}

-- an accepted number is below the top, so that nothing holds the clock
past_is :
    (clock : ℕ) (number : Stamp) (was : Counters) {k : Counters} → reservation_test clock number ≡ Pass →
    k ≡ counted (saturating_next number.0) was.sampled_clock was.vacuum_line → k ≡ past_number number.0 was
past_is clock number was p q =
    let r = reserves clock number p in
    q ∙ ap (λ (x : ℕ). counted x was.sampled_clock was.vacuum_line) (omega arith)

module _ (n : ℕ) (t : Table) where
  module _ (number : Stamp) where
    -- 5, 6, 13: as a stamp's, such a refusal spends nothing
    pub begin-refused :
        (r : Result Did Told) {said : Told} → IsErrAnd r (λ told. told ≡ said) →
        Err said ≡ in_numbers (reservation_test (clock_of t) number) → or_refused t.counters r ≡ did_by n t (begin number)
    unfolding refusal did_by change_of answer shown no_snapshot numbers_of tells_of xmin_told holder_told
    begin-refused r {said} exit e =
        let p = err_from_is_err_and r exit in
        rw (p.1, p.2) (go (reservation_test (clock_of t) number) refl)
      where
        go : (v : Verdict) → reservation_test (clock_of t) number ≡ v →
            stayed (plainly said (line_of t)) t.counters ≡ did_by n t (begin number)
        go Pass p = let z = e ∙ ap in_numbers p in cc
        go (Refuse r) p =
            let z = e ∙ ap in_numbers p in
            let s : said ≡ told r = cc in
            rw (s, p, refused_kept n t (stamp number) r refl p)

    module _
        (passed : reservation_test (clock_of t) number ≡ Pass) {k : Counters}
        (past : k ≡ counted (saturating_next number.0) (sample_of t) (line_of t)) where
      moved : k ≡ past_number number.0 t.counters
      moved = past_is (clock_of t) number t.counters passed past

      module _ {at : ℕ} (low : at ≡ lowest_empty t.txids) where
        -- the lowest slot that nobody has is entered
        pub begin_free :
            at < n → in_slot (plainly (accepted_with at number.0) (line_of t)) at number.0 number.0 k ≡ did_by n t (begin number)
        unfolding refusal change_accepted change_of answer_accepted answer shown_accepted shown no_snapshot numbers_of tells_of xmin_told
            holder_told did_by
        begin_free h = rw (moved, low, passed, lt-leb n (lowest_empty t.txids) (rw low at h))

        -- 1: the number is spent all the same
        pub begin-full :
            n ≤ at → stayed (plainly (told (NoFreeSlot (txid_of number))) (line_of t)) k ≡ did_by n t (begin number)
        unfolding refusal consumed spent told change_of answer shown no_snapshot numbers_of tells_of xmin_told holder_told did_by
        begin-full h = rw (moved, passed, le-leb n (lowest_empty t.txids) (rw low at h))

      pub stamp_spends : stayed (plainly (accepted_with 0 number.0) (line_of t)) k ≡ did_by n t (stamp number)
      unfolding refusal change_accepted answer_accepted shown_accepted no_snapshot numbers_of tells_of xmin_told holder_told
      stamp_spends = rw moved (accepted_did n t (stamp number) passed)

      pub finish_leaves :
          (slot : SlotNo) (id : Txid) → owner_test n t.txids slot id ≡ Pass →
          in_slot (plainly (accepted_with 0 number.0) (line_of t)) slot.0 0 0 k ≡ did_by n t (finish slot id number)
      unfolding refusal change_accepted answer_accepted shown_accepted no_snapshot numbers_of tells_of xmin_told holder_told
      finish_leaves slot id owner = rw moved (accepted_did n t (finish slot id number) (both_pass _ _ owner passed))

  pub end_leaves :
      (slot : SlotNo) (id : Txid) → owner_test n t.txids slot id ≡ Pass →
      in_slot (plainly accepted (line_of t)) slot.0 0 0 t.counters ≡ did_by n t (end slot id)
  unfolding refusal change_accepted answer_accepted shown_accepted no_snapshot numbers_of tells_of xmin_told holder_told
  end_leaves slot id owner = accepted_did n t (end slot id) owner
