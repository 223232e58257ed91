-- What begin decides on a table, by its two tests: the reservation, then the lowest empty slot. A begin that meets a full table
-- reserves its number all the same.
use Prim.Native.Nat.{ℕ}
use mathlib.Core.Path.{◌≡◌, refl}
use mathlib.Core.Bool.{Bool, true, false}
use lib.Dec.{leb}
use Rattle.kinds.specs.declared.Stamp.{Stamp}
use Rattle.kinds.specs.declared.refusal.Refusal.{Refusal}
use Rattle.kinds.specs.declared.refusal.Refusal.TheVariants.{NoFreeSlot}
use Rattle.kinds.specs.Verdicts.{Verdict, Pass, Refuse}
use Rattle.kinds.specs.Kinds.{slot, txid_of}
use Rattle.kinds.specs.Refusals.{consumed}
use Rattle.model.specs.declared.Table.{Table}
use Rattle.model.specs.declared.answer.Decision.{Decision}
use Rattle.model.specs.declared.change.SlotChange.TheVariants.{Enters}
use Rattle.model.specs.Answer.{Begun}
use Rattle.model.specs.Tables.{clock_of}
use Rattle.model.specs.Tally.{lowest_empty}
use Rattle.model.specs.Changes.{change, past_number, refused_decision}
use Rattle.model.specs.Tests.{reservation_test}
use Rattle.model.specs.Calls.{begin, stamp, refusal, change_accepted, spent, change_of, answer_accepted, answer, decision}
use Rattle.model.proofs.Refused.{refused_kept}

module _ (n : ℕ) (t : Table) (number : Stamp) where
  -- the lowest empty slot is entered, if there is one
  abbrev pub entered : Bool → Decision
  entered true = refused_decision (past_number number.0 t.counters) (NoFreeSlot (txid_of number))
  entered false =
      let at = slot (lowest_empty t.txids) in
      record {
        change = change (Enters at (txid_of number)) (past_number number.0 t.counters);
        answer = Begun at (txid_of number);
      }

  abbrev pub begun : Verdict → Decision
  begun Pass = entered (leb n (lowest_empty t.txids))
  begun (Refuse r) = refused_decision t.counters r

  entering :
      (full : Bool) → leb n (lowest_empty t.txids) ≡ full → reservation_test (clock_of t) number ≡ Pass →
      decision n t (begin number) ≡ entered full
  unfolding refusal consumed spent change_accepted change_of answer_accepted answer decision
  entering true e passed = rw (passed, e)
  entering false e passed = rw (passed, e)

  refusing : {r : Refusal} → reservation_test (clock_of t) number ≡ Refuse r → decision n t (begin number) ≡ refused_decision t.counters r
  unfolding refusal change_of answer decision
  refusing {r} e = rw (e, refused_kept n t (stamp number) r refl e)

  pub begins : decision n t (begin number) ≡ begun (reservation_test (clock_of t) number)
  begins = go (reservation_test (clock_of t) number) refl
    where
      go : (v : Verdict) → reservation_test (clock_of t) number ≡ v → decision n t (begin number) ≡ begun v
      go Pass e = entering (leb n (lowest_empty t.txids)) refl e
      go (Refuse r) e = refusing e
