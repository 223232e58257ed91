-- The promise holds, for every number of slots.
use Prim.Native.Nat.{ℕ, ◌≤◌, ◌<◌}
use mathlib.Core.Path.{◌≡◌, refl, sym, ◌∙◌, ap}
use mathlib.Core.Logic.{◌↔◌, ◌⊎◌, inl, inr}
use mathlib.Core.Bool.{true, false≢true}
use mathlib.Core.List.{List, [], ◌∷◌, ◌++◌}
use mathlib.Core.Option.{none}
use native.Mathlib.Nat.{le_trans}
use native.Mathlib.Omega.{arith}
use lib.Seq.{append_snoc}
use borrow.Author.Tests.{le-ltb, ne_eqb}
use Rattle.kinds.specs.declared.SlotNo.{SlotNo}
use Rattle.kinds.specs.declared.Txid.{Txid}
use Rattle.kinds.specs.declared.PinNo.{PinNo}
use Rattle.kinds.specs.Kinds.{pin_no, txid}
use Rattle.kinds.specs.Refusals.{accepted}
use Rattle.kinds.specs.Verdicts.{Verdict, Pass, Refuse}
use Rattle.settled.specs.declared.Snapshot.{Snapshot}
use Rattle.settled.specs.Settled.{settled_test}
use Rattle.model.specs.declared.Table.{Table}
use Rattle.model.specs.Answer.{Line}
use Rattle.model.specs.Tally.{lowest_empty}
use Rattle.model.specs.Tables.{fresh_table, line_of}
use Rattle.model.specs.Changes.{applied}
use Rattle.model.specs.Calls.{Call, own, vacuum, pin, refusal, change_accepted, change_by, change_of, after, answer_accepted, answer_by}
use Rattle.model.specs.Calls.{answer, shown}
use Rattle.model.specs.Deeds.{takes_snapshot}
use Rattle.model.specs.Accepted.{Registered, Owns}
use Rattle.model.specs.History.{run, reached, Accepts, last_from, last_own, IsLast}
use Rattle.model.specs.Pins.{held_from, held_snapshot, IsHeld}
use Rattle.model.specs.Promise.{SettledBelow, line_after, Covered, of_transaction, of_pin, Promise, Gives, VacuumPromise}
use Rattle.model.proofs.Accepted.{accepted_acceptable}
use Rattle.model.proofs.Transactions.{registered_taken}
use Rattle.model.proofs.Moves.{is_taken}
use Rattle.model.proofs.Answers.{line_given, refused_not_line}
use Rattle.model.proofs.Calls.{after-accepted}
use Rattle.model.proofs.Does.{Does, stands, enters, leaves, retakes, takes-pin, frees_the_pin, does}
use Rattle.model.proofs.Facts.{good-reached}
use Rattle.model.proofs.History.{run-append, run_snoc}
use Rattle.model.proofs.Rising.{line_after_lem, line_never_falls}
use Rattle.model.proofs.Last.{last_append, last_own_lem, walk_words, words_walk, words_registered}
use Rattle.model.proofs.Retention.{last_keeps}
use Rattle.model.proofs.PinHeld.{held_keeps}
use Rattle.model.proofs.PinWords.{held-append, held_now, held_in_words}

-- covered, in words: the last transaction snapshot of somebody, or the one that a pin holds, as the history is written
abbrev pub LastOfSomebody : ℕ → List Call → Snapshot → Type 0
LastOfSomebody n cs s = (slot : SlotNo) × (id : Txid) × IsLast n (fresh_table n) slot id cs s

abbrev pub HeldBySome : ℕ → List Call → Snapshot → Type 0
HeldBySome n cs s = (k : PinNo) × IsHeld n (fresh_table n) k cs s

pub covered_in_words :
    (n : ℕ) (cs : List Call) (s : Snapshot) →
    Covered n cs s ↔ (LastOfSomebody n cs s ⊎ HeldBySome n cs s)
covered_in_words n cs s = (to, from)
  where
    to : Covered n cs s → LastOfSomebody n cs s ⊎ HeldBySome n cs s
    to (of_transaction slot id r e) = inl (slot, id, walk_words n (fresh_table n) slot id cs s r e)
    to (of_pin k e) = inr (k, (held_in_words n cs k s).0 e)

    from : LastOfSomebody n cs s ⊎ HeldBySome n cs s → Covered n cs s
    from (inl (slot, id, w)) =
        of_transaction slot id (words_registered n (fresh_table n) slot id cs s w) (words_walk n (fresh_table n) slot id cs s w)
    from (inr (k, w)) = of_pin k ((held_in_words n cs k s).1 w)

pub covered_settled : (n : ℕ) (cs : List Call) (s : Snapshot) → Covered n cs s → SettledBelow (line_after n cs) s
covered_settled n cs s (of_transaction slot id r e) x h l = (last_keeps n cs slot id s e).settles r x l
covered_settled n cs s (of_pin k e) x h l = (held_keeps n cs k s e).settles x l

pub covered_count : (n : ℕ) (cs : List Call) (s : Snapshot) → Covered n cs s → s.count ≤ n
covered_count n cs s (of_transaction slot id r e) = (last_keeps n cs slot id s e).few
covered_count n cs s (of_pin k e) = (held_keeps n cs k s e).few

-- a transaction snapshot is covered from the call that takes it on
pub own_covered :
    (n : ℕ) (cs : List Call) (slot : SlotNo) (id : Txid) (clock sample : ℕ) →
    Accepts n (reached n cs) (own slot id clock sample) →
    Covered n (cs ++ own slot id clock sample ∷ []) (shown n (reached n cs) (own slot id clock sample))
unfolding run last_from change_accepted
own_covered n cs slot id clock sample e =
    of_transaction slot id
    (record { not_zero = o.registered.not_zero; holds = rw (run-append, after-accepted, e) o.registered.holds })
    (last_append n slot id (fresh_table n) cs (own slot id clock sample ∷ []) none
    ∙ last_own_lem n slot id (reached n cs) clock sample (last_own n slot id cs) e)
  where
    o : Owns n (reached n cs) slot id
    o = (accepted_acceptable n (reached n cs) (own slot id clock sample) e).0

-- so the ids below the line of that moment are settled in it
own_settled :
    (n : ℕ) (cs : List Call) (slot : SlotNo) (id : Txid) (clock sample : ℕ) →
    Accepts n (reached n cs) (own slot id clock sample) →
    SettledBelow (line_after n cs) (shown n (reached n cs) (own slot id clock sample))
own_settled n cs slot id clock sample e x h l =
    covered_settled n (cs ++ own slot id clock sample ∷ []) _ (own_covered n cs slot id clock sample e) x h
    (le_trans l (line_never_falls n cs (own slot id clock sample ∷ [])))

-- so is a pinned one
pub pin_covered :
    (n : ℕ) (cs : List Call) (clock sample : ℕ) → Accepts n (reached n cs) (pin clock sample) →
    Covered n (cs ++ pin clock sample ∷ []) (shown n (reached n cs) (pin clock sample))
unfolding held_from
pin_covered n cs clock sample e =
    of_pin k
    (held-append n k (fresh_table n) cs (pin clock sample ∷ []) none
    ∙ held_now n k (reached n cs) clock sample (held_snapshot n k cs) (record { accepted = e; lowest = refl }))
  where
    k : PinNo
    k = pin_no (lowest_empty (reached n cs).pins)

pin_settled :
    (n : ℕ) (cs : List Call) (clock sample : ℕ) → Accepts n (reached n cs) (pin clock sample) →
    SettledBelow (line_after n cs) (shown n (reached n cs) (pin clock sample))
pin_settled n cs clock sample e x h l =
    covered_settled n (cs ++ pin clock sample ∷ []) _ (pin_covered n cs clock sample e) x h
    (le_trans l (line_never_falls n cs (pin clock sample ∷ [])))

pub taken_settled :
    (n : ℕ) (cs : List Call) (c : Call) → takes_snapshot c ≡ true → Accepts n (reached n cs) c →
    SettledBelow (line_after n cs) (shown n (reached n cs) c)
taken_settled n cs c k e = go (does n (reached n cs) c (accepted_acceptable n (reached n cs) c e))
  where
    go : Does n (reached n cs) c → SettledBelow (line_after n cs) (shown n (reached n cs) c)
    go (stands d q) = absurd (false≢true (sym (rw d) ∙ k))
    go (enters number p q r f g) = absurd (false≢true (sym (rw p) ∙ k))
    go (leaves slot id d q o) = absurd (false≢true (sym (rw d) ∙ k))
    go (retakes slot id clock sample p q h o) = rw p (own_settled n cs slot id clock sample (rw p at e))
    go (takes-pin clock sample p q m o f) = rw p (pin_settled n cs clock sample (rw p at e))
    go (frees_the_pin j p q h) = absurd (false≢true (sym (rw p) ∙ k))

pub promise : (n : ℕ) → Promise n
promise n =
    record {
      never_falls = line_never_falls n;
      held = covered_settled n;
      later = λ before after c k e x h l.
          taken_settled n (before ++ after) c k e x h (le_trans l (line_never_falls n before after));
    }

-- whoever is registered from then on has an id from the line on
pub registered_from-line :
    (n : ℕ) (before after : List Call) (slot : SlotNo) (id : Txid) → Registered (reached n (before ++ after)) slot id →
    line_after n before ≤ id.0
registered_from-line n before after slot id r =
    let k = is_taken ((good-reached n (before ++ after)).each slot.0) (registered_taken _ slot id r) in
    omega (arith, line_never_falls n before after, r.holds)

-- the settled test itself answers yes
pub covered_test_yes :
    (n : ℕ) (cs : List Call) (s : Snapshot) (x : ℕ) → Covered n cs s → 1 ≤ x → x < line_after n cs →
    settled_test n s.xmax s.ids s.count (txid x) ≡ record { tells = accepted; settled = true }
unfolding settled_test
covered_test_yes n cs s x c h l =
    rw (le-ltb n s.count (covered_count n cs s c), ne_eqb x 0 (λ z. omega arith), covered_settled n cs s c x h l)

-- a vacuum that answers a line leaves it in the table
pub given_line :
    (n : ℕ) (t : Table) (clock sample line holder : ℕ) → answer n t (vacuum clock sample) ≡ Line line holder →
    line ≡ line_of (after n t (vacuum clock sample))
unfolding answer_accepted answer change_accepted change_of after
given_line n t clock sample line holder e = go (refusal n t (vacuum clock sample)) e
  where
    go :
        (v : Verdict) → answer_by v t (vacuum clock sample) ≡ Line line holder →
        line ≡ line_of (applied t (change_by v t (vacuum clock sample)))
    go Pass q = sym (ap line_given q)
    go (Refuse r) q = absurd (refused_not_line r line holder q)

vacuum_is_line :
    (n : ℕ) (cs : List Call) (clock sample line : ℕ) → Gives n cs clock sample line →
    line ≡ line_after n (cs ++ vacuum clock sample ∷ [])
vacuum_is_line n cs clock sample line e =
    given_line n (reached n cs) clock sample line e.0 e.1
    ∙ ap (λ (t : Table). line_of t) (sym (run_snoc n (fresh_table n) cs (vacuum clock sample)))

vacuum-from-then :
    (n : ℕ) (before after : List Call) (clock sample line : ℕ) → Gives n before clock sample line →
    line ≤ line_after n (before ++ vacuum clock sample ∷ after)
vacuum-from-then n before after clock sample line e =
    rw (vacuum_is_line n before clock sample line e, ← append_snoc before (vacuum clock sample) after)
    (line_never_falls n (before ++ vacuum clock sample ∷ []) after)

pub vacuum_promise : (n : ℕ) → VacuumPromise n
vacuum_promise n =
    record {
      is-line = vacuum_is_line n;
      never_falls = λ before after clock sample line clock' sample' line' e e'.
          le_trans (vacuum-from-then n before after clock sample line e)
          (rw (given_line n _ clock' sample' line' e'.0 e'.1)
          (line_after_lem n (reached n (before ++ vacuum clock sample ∷ after)) (vacuum clock' sample')));
      held = λ cs clock sample line e s c.
          rw (vacuum_is_line n cs clock sample line e) (covered_settled n (cs ++ vacuum clock sample ∷ []) s c);
      later = λ before after clock sample line e c k a x h l.
          taken_settled n (before ++ vacuum clock sample ∷ after) c k a x h
          (le_trans l (vacuum-from-then n before after clock sample line e));
    }
