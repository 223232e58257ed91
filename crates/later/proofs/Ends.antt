-- An end is decided by its own slot alone, and moves no other: so two of different slots leave each other's test, and what they store, alone.
use Prim.Native.Nat.{ℕ}
use mathlib.Core.Path.{◌≡◌, refl, sym, ap, ◌∙◌}
use mathlib.Core.Logic.{◌≢◌}
use mathlib.Core.List.{[]}
use lib.Seq.{set_comm, get_or-set_other}
use Rattle.kinds.specs.declared.SlotNo.{SlotNo}
use Rattle.kinds.specs.declared.Txid.{Txid}
use Rattle.kinds.specs.declared.refusal.Refusal.{Refusal}
use Rattle.kinds.specs.Verdicts.{Verdict, Pass, Refuse}
use Rattle.kinds.specs.Refusals.{consumed}
use Rattle.model.specs.declared.Table.{Table}
use Rattle.model.specs.Answer.{Answer, Done, Refused}
use Rattle.model.specs.declared.change.SlotChange.TheVariants.{Leaves}
use Rattle.model.specs.Tests.{owner_test}
use Rattle.model.specs.Changes.{change, applied}
use Rattle.model.specs.Calls.{end, refusal, change_accepted, spent, change_by, change_of, after, answer_accepted, answer_by, answer}
use Rattle.model.proofs.Refused.{refused_kept}
use Rattle.later.specs.Ends.{ended, end_answer, EitherOrder, EndsCommute}

-- the table, and the answer, of an end by its verdict
abbrev left : Verdict → SlotNo → Table → Table
left Pass slot t = applied t (change (Leaves slot) t.counters)
left (Refuse r) slot t = t

abbrev says : Verdict → Answer
says Pass = Done
says (Refuse r) = Refused r

module _ (n : ℕ) where
  ended_by : (t : Table) (slot : SlotNo) (id : Txid) → ended n t slot id ≡ left (owner_test n t.txids slot id) slot t
  unfolding refusal change_accepted change_of spent after
  ended_by t slot id = go (owner_test n t.txids slot id) refl
    where
      go : (v : Verdict) → owner_test n t.txids slot id ≡ v → ended n t slot id ≡ left v slot t
      go Pass e = rw e
      go (Refuse r) e = rw (e, refused_kept n t (end slot id) r refl e)

  answered-by : (t : Table) (slot : SlotNo) (id : Txid) → end_answer n t slot id ≡ says (owner_test n t.txids slot id)
  unfolding refusal answer_accepted answer
  answered-by t slot id = go (owner_test n t.txids slot id) refl
    where
      go : (v : Verdict) → owner_test n t.txids slot id ≡ v → end_answer n t slot id ≡ says v
      go Pass e = rw e
      go (Refuse r) e = rw e

  -- an end of another slot leaves the test as it was
  same_test :
      (t : Table) (slot slot' : SlotNo) (id id' : Txid) → slot.0 ≢ slot'.0 →
      owner_test n (ended n t slot' id').txids slot id ≡ owner_test n t.txids slot id
  same_test t slot slot' id id' d = rw (ended_by t slot' id') (go (owner_test n t.txids slot' id'))
    where
      go : (v : Verdict) → owner_test n (left v slot' t).txids slot id ≡ owner_test n t.txids slot id
      go Pass = rw (get_or-set_other t.txids slot'.0 slot.0 0 0 d)
      go (Refuse r) = refl

  -- by the two verdicts
  same_left :
      (v w : Verdict) (slot slot' : SlotNo) (t : Table) → slot.0 ≢ slot'.0 →
      left w slot' (left v slot t) ≡ left v slot (left w slot' t)
  same_left Pass Pass slot slot' t d =
      rw (set_comm t.txids slot.0 slot'.0 0 0 d, set_comm t.snapshot_xmins slot.0 slot'.0 0 0 d)
  same_left Pass (Refuse r) slot slot' t d = refl
  same_left (Refuse r) Pass slot slot' t d = refl
  same_left (Refuse r) (Refuse s) slot slot' t d = refl

  same_answer :
      (t : Table) (slot slot' : SlotNo) (id id' : Txid) → slot.0 ≢ slot'.0 →
      end_answer n (ended n t slot' id') slot id ≡ end_answer n t slot id
  same_answer t slot slot' id id' d =
      answered-by (ended n t slot' id') slot id ∙ ap says (same_test t slot slot' id id' d) ∙ sym (answered-by t slot id)

  same_ended :
      (t : Table) (slot slot' : SlotNo) (id id' : Txid) → slot.0 ≢ slot'.0 →
      ended n (ended n t slot id) slot' id' ≡ ended n (ended n t slot' id') slot id
  same_ended t slot slot' id id' d =
      let v = owner_test n t.txids slot id in
      let w = owner_test n t.txids slot' id' in
      let q : slot'.0 ≢ slot.0 = λ e. d (sym e) in
      let one : ended n (ended n t slot id) slot' id' ≡ left w slot' (left v slot t) =
      ended_by (ended n t slot id) slot' id' ∙ rw (same_test t slot' slot id' id q, ended_by t slot id) in
      let other : ended n (ended n t slot' id') slot id ≡ left v slot (left w slot' t) =
      ended_by (ended n t slot' id') slot id ∙ rw (same_test t slot slot' id id' d, ended_by t slot' id') in
      one ∙ same_left v w slot slot' t d ∙ sym other

  pub ends_commute : EndsCommute n
  ends_commute t slot slot' id id' d =
      record {
        same_table = same_ended t slot slot' id id' d;
        same_first = sym (same_answer t slot slot' id id' d);
        same_second = same_answer t slot' slot id' id (λ e. d (sym e));
      }
