-- Who holds a slot is registered in words: begun there, and neither ended nor finished since.
use Prim.Native.Nat.{ℕ, ◌<◌}
use mathlib.Core.Path.{◌≡◌, refl, ◌∙◌, ap}
use mathlib.Core.Logic.{◌↔◌, ◌⊎◌, inl, inr}
use mathlib.Core.List.{List, [], ◌∷◌}
use native.Mathlib.Omega.{arith}
use lib.ListN.{length}
use lib.Seq.{get_or-set_same}
use Rattle.kinds.specs.declared.Stamp.{Stamp}
use Rattle.kinds.specs.declared.SlotNo.{SlotNo}
use Rattle.kinds.specs.declared.Txid.{Txid}
use Rattle.kinds.specs.Verdicts.{Verdict, Pass, Refuse}
use Rattle.kinds.specs.Kinds.{slot, txid_of}
use Rattle.model.specs.declared.Table.{Table}
use Rattle.model.specs.Answer.{Begun}
use Rattle.model.specs.Tally.{lowest_empty}
use Rattle.model.specs.Tables.{fresh_table}
use Rattle.model.specs.Calls.{Call, begin, refusal, change_accepted, after, answer_accepted, answer_by, answer}
use Rattle.model.specs.Deeds.{end_of}
use Rattle.model.specs.Accepted.{Registered}
use Rattle.model.specs.Facts.{Good}
use Rattle.model.specs.History.{run, reached, Accepts, Never, IsRegistered}
use Rattle.model.proofs.Places.{zeros_hold}
use Rattle.model.proofs.Tests.{free_lowest}
use Rattle.model.proofs.Accepted.{accepted_acceptable}
use Rattle.model.proofs.Transactions.{registered_taken}
use Rattle.model.proofs.Answers.{begun-slot, begun_id, begun_as, refused_not_begun}
use Rattle.model.proofs.Never.{never_nil, never_cons, never_head, never_tail}
use Rattle.model.proofs.Holders.{Was, before_it, begun-by-it, was, stays_after}
use Rattle.model.proofs.Calls.{after-accepted}
use Rattle.model.proofs.Facts.{good-reached}
use Rattle.model.proofs.History.{run-append}

-- through calls that do not end it a transaction stays registered
stays-run :
    (n : ℕ) (t : Table) (slot : SlotNo) (id : Txid) (cs : List Call) → Registered t slot id → Never n t (end_of slot id) cs →
    Registered (run n t cs) slot id
unfolding run
stays-run n t slot id [] r k = r
stays-run n t slot id (c ∷ cs) r k =
    stays-run n (after n t c) slot id cs (stays_after n t slot id r c (never_head n t (end_of slot id) c cs k))
    (never_tail n t (end_of slot id) c cs k)

-- a begin answers a registration exactly where it is accepted, with the lowest empty slot and its number
pub begin_answers :
    (n : ℕ) (t : Table) (number : Stamp) → Accepts n t (begin number) →
    answer n t (begin number) ≡ Begun (slot (lowest_empty t.txids)) (txid_of number)
unfolding answer answer_accepted
begin_answers n t number e = ap (λ (v : Verdict). answer_by v t (begin number)) e

pub record BegunThere (n : ℕ) (t : Table) (number : Stamp) (slot : SlotNo) (id : Txid) : Type 0 where
  pub accepted : Accepts n t (begin number)
  pub lowest : lowest_empty t.txids ≡ slot.0
  pub same : number.0 ≡ id.0

pub answers_begun :
    (n : ℕ) (t : Table) (number : Stamp) (slot : SlotNo) (id : Txid) → answer n t (begin number) ≡ Begun slot id →
    BegunThere n t number slot id
unfolding answer answer_accepted
answers_begun n t number slot id e = go (refusal n t (begin number)) refl e
  where
    go :
        (v : Verdict) → refusal n t (begin number) ≡ v → answer_by v t (begin number) ≡ Begun slot id →
        BegunThere n t number slot id
    go Pass p q = record { accepted = p; lowest = ap begun-slot q; same = ap begun_id q }
    go (Refuse r) p q = absurd (refused_not_begun r slot id q)

further :
    (n : ℕ) (t : Table) (slot : SlotNo) (id : Txid) (c : Call) (cs : List Call) → IsRegistered n (after n t c) slot id cs →
    IsRegistered n t slot id (c ∷ cs)
unfolding run
further n t slot id c cs w =
    record {
      before = c ∷ w.before;
      number = w.number;
      later = w.later;
      written = ap (λ (l : List Call). c ∷ l) w.written;
      answers = w.answers;
      not_ended = w.not_ended;
    }

first :
    (n : ℕ) (t : Table) (slot : SlotNo) (id : Txid) (c : Call) (cs : List Call) (number : Stamp) → c ≡ begin number →
    Accepts n t c → lowest_empty t.txids ≡ slot.0 → number.0 ≡ id.0 → Never n (after n t c) (end_of slot id) cs →
    IsRegistered n t slot id (c ∷ cs)
unfolding run
first n t slot id c cs number p a s i k =
    let a' : Accepts n t (begin number) = rw (← p) a in
    record {
      before = [];
      number = number;
      later = cs;
      written = ap (λ (d : Call). d ∷ cs) p;
      answers = begin_answers n t number a' ∙ begun_as s i;
      not_ended = rw (← p) k;
    }

begun :
    (n : ℕ) (t : Table) (slot : SlotNo) (id : Txid) (cs : List Call) → Registered (run n t cs) slot id →
    (Registered t slot id × Never n t (end_of slot id) cs) ⊎ IsRegistered n t slot id cs
unfolding run
begun n t slot id [] r = inl (r, never_nil n t (end_of slot id))
begun n t slot id (c ∷ cs) r = go (begun n (after n t c) slot id cs r)
  where
    one : Never n (after n t c) (end_of slot id) cs → Was t slot id c (refusal n t c) →
        (Registered t slot id × Never n t (end_of slot id) (c ∷ cs)) ⊎ IsRegistered n t slot id (c ∷ cs)
    one k (before_it h f) = inl (h, never_cons n t (end_of slot id) c cs f k)
    one k (begun-by-it number p v s i) = inr (first n t slot id c cs number p v s i k)

    go : (Registered (after n t c) slot id × Never n (after n t c) (end_of slot id) cs) ⊎ IsRegistered n (after n t c) slot id cs →
        (Registered t slot id × Never n t (end_of slot id) (c ∷ cs)) ⊎ IsRegistered n t slot id (c ∷ cs)
    go (inl (h, k)) = one k (was n t slot id c h)
    go (inr w) = inr (further n t slot id c cs w)

fresh-nobody : (n : ℕ) (slot : SlotNo) (id : Txid) → Registered (fresh_table n) slot id → ⊥
unfolding fresh_table
fresh-nobody n slot id r = registered_taken (fresh_table n) slot id r (zeros_hold n slot.0)

-- an accepted begin registers what it answers
pub begin_registers :
    (n : ℕ) (t : Table) (slot : SlotNo) (id : Txid) (number : Stamp) → Good n t →
    answer n t (begin number) ≡ Begun slot id → Registered (after n t (begin number)) slot id
unfolding change_accepted
begin_registers n t slot id number g e =
    let b = answers_begun n t number slot id e in
    let (r, f) = accepted_acceptable n t (begin number) b.accepted in
    let inside : lowest_empty t.txids < length t.txids = rw g.txid_column (free_lowest n t f) in
    record {
      not_zero = λ z. omega (arith, b.same, r.positive);
      holds =
          rw (after-accepted, b.accepted, ← b.lowest)
          (get_or-set_same t.txids (lowest_empty t.txids) number.0 0 inside ∙ b.same);
    }

-- from fresh: registered in the table exactly where registered in words
pub registered_in_words :
    (n : ℕ) (cs : List Call) (slot : SlotNo) (id : Txid) →
    Registered (reached n cs) slot id ↔ IsRegistered n (fresh_table n) slot id cs
unfolding run
registered_in_words n cs slot id = (λ r. to (begun n (fresh_table n) slot id cs r), from)
  where
    to : (Registered (fresh_table n) slot id × Never n (fresh_table n) (end_of slot id) cs) ⊎ IsRegistered n (fresh_table n) slot id cs →
        IsRegistered n (fresh_table n) slot id cs
    to (inl (r, k)) = absurd (fresh-nobody n slot id r)
    to (inr w) = w

    from : IsRegistered n (fresh_table n) slot id cs → Registered (reached n cs) slot id
    from w =
        rw (w.written, run-append n (fresh_table n) w.before (begin w.number ∷ w.later))
        (stays-run n _ slot id w.later
        (begin_registers n (reached n w.before) slot id w.number (good-reached n w.before) w.answers)
        w.not_ended)
