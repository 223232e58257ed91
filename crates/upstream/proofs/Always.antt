-- Upstream's well_formed is kept by every call, whatever it is given and however it is refused, each of its two parts by itself;
-- this is E1 of all its functions. The part on slots and clocks is the table check at line 1 with free pins (Yes.antt), which every
-- call keeps (model's `good-after`), and no step of upstream's state reads line or pins (`line-unread`); of our two calls on pins
-- one moves it as a plain snapshot does, and one not at all. The part on the history: `Step` says
-- what a call reserves (Histories.antt), and who is registered after a call was so before, or is its begin (model's `was`).
use Prim.Native.Nat.{ℕ}
use mathlib.Core.Path.{◌≡◌, refl, sym, subst, ◌∙◌}
use mathlib.Core.Logic.{◌≢◌}
use mathlib.Core.Bool.{true, false, true≢false, false≢true}
use mathlib.Core.List.{List, [], ◌∷◌}
use Rattle.kinds.specs.declared.PinNo.{PinNo}
use Rattle.kinds.specs.declared.refusal.Refusal.{Refusal}
use Rattle.kinds.specs.Kinds.{free_pins, slot, txid}
use Rattle.kinds.specs.Verdicts.{Verdict, Pass, Refuse}
use Rattle.kinds.specs.Refusals.{consumed}
use Rattle.model.specs.declared.Counters.{Counters}
use Rattle.model.specs.declared.Table.{Table}
use Rattle.kinds.proofs.Verdicts.{then_pass}
use Rattle.model.specs.Tables.{txid_at, clock_of}
use Rattle.model.specs.Changes.{past_number, with_line, applied}
use Rattle.model.specs.Calls.{Call, begin, end, snap, own, oldest, vacuum, stamp, finish, pin, unpin}
use Rattle.model.specs.Calls.{refusal, change_accepted, spent, change_by, change_of, after}
use Rattle.model.specs.Tests.{observation_test, pin_test}
use Rattle.model.specs.Accepted.{Registered}
use Rattle.model.specs.Reservations.{reserves_by}
use Rattle.model.proofs.Refused.{Declined, stays, spends, declined}
use Rattle.model.proofs.Facts.{good-after}
use Rattle.model.proofs.Holders.{Was, before_it, begun-by-it, was}
use Rattle.model.proofs.Reservations.{reserve_step}
use Rattle.upstream.specs.States.{State, at, pushes, pinning, state_of, state_after, history_by, Shaped}
use Rattle.upstream.specs.Relations.{Contains, TableOf, HistoryOf, WellFormed, Kept}
use Rattle.upstream.proofs.Pairs.{slots_of, txid-at, shaped_applied}
use Rattle.upstream.proofs.Yes.{from-good, beside, unpinned, to_good}
use Rattle.upstream.proofs.Histories.{contains_pushes, contains_last, history_step}

-- no test but those of a pinned snapshot and a release reads the pins, and none the line ..
pub refusal_unseen :
    (n : ℕ) (pins : List ℕ) (line : ℕ) (t : Table) (c : Call) → pinning c ≡ false →
    refusal n (beside pins line t) c ≡ refusal n t c
unfolding refusal
refusal_unseen n pins line t (begin number) e = refl
refusal_unseen n pins line t (end slot id) e = refl
refusal_unseen n pins line t (snap clock sample) e = refl
refusal_unseen n pins line t (own slot id clock sample) e = refl
refusal_unseen n pins line t (oldest clock sample) e = refl
refusal_unseen n pins line t (vacuum clock sample) e = refl
refusal_unseen n pins line t (stamp number) e = refl
refusal_unseen n pins line t (finish slot id number) e = refl
refusal_unseen n pins line t (pin clock sample) e = absurd (true≢false e)
refusal_unseen n pins line t (unpin k) e = absurd (true≢false e)

pub spent_unseen : (ids : List ℕ) (line : ℕ) (k : Counters) → spent ids (with_line line k) ≡ with_line line (spent ids k)
unfolding spent
spent_unseen [] line k = refl
spent_unseen (x ∷ ids) line k = spent_unseen ids line (past_number x k)

-- .. and nothing but pins and line is changed by them
changed_unseen :
    (v : Verdict) (pins : List ℕ) (line : ℕ) (t : Table) (history : List ℕ) (c : Call) →
    state_of (applied (beside pins line t) (change_by v (beside pins line t) c)) history ≡ state_of (applied t (change_by v t c)) history
unfolding change_accepted
changed_unseen Pass pins line t history (begin number) = refl
changed_unseen Pass pins line t history (end slot id) = refl
changed_unseen Pass pins line t history (snap clock sample) = refl
changed_unseen Pass pins line t history (own slot id clock sample) = refl
changed_unseen Pass pins line t history (oldest clock sample) = refl
changed_unseen Pass pins line t history (vacuum clock sample) = refl
changed_unseen Pass pins line t history (stamp number) = refl
changed_unseen Pass pins line t history (finish slot id number) = refl
changed_unseen Pass pins line t history (pin clock sample) = refl
changed_unseen Pass pins line t history (unpin k) = refl
changed_unseen (Refuse r) pins line t history c = rw (spent_unseen (consumed r) line t.counters)

pub line_unread :
    (n : ℕ) (pins : List ℕ) (line : ℕ) (t : Table) (history : List ℕ) (c : Call) → pinning c ≡ false →
    state_after n (beside pins line t) history c ≡ state_after n t history c
unfolding change_of after
line_unread n pins line t history c e =
    rw (refusal_unseen n pins line t c e) (changed_unseen (refusal n t c) pins line t (history_by (refusal n t c) history c) c)

-- a call that is none of the two: on the table at line 1 with free pins the check is kept
unpinned_kept :
    (n : ℕ) (t : Table) (history : List ℕ) → Shaped n t → (c : Call) → pinning c ≡ false → TableOf n (state_of t history) →
    TableOf n (state_after n t history c)
unpinned_kept n t history s c e y =
    let good = good-after n (unpinned t) c (to_good n t (record { shape = s; table = y })) in
    subst (λ (x : State). TableOf n x) (line_unread n free_pins 1 t history c e) (from-good n (after n (unpinned t) c) good).table

-- a pinned snapshot that is accepted leaves upstream's state as a plain one does ..
pinned_as_plain :
    (n : ℕ) (t : Table) (history : List ℕ) (clock sample : ℕ) → refusal n t (pin clock sample) ≡ Pass →
    state_after n t history (snap clock sample) ≡ state_after n t history (pin clock sample)
unfolding refusal change_accepted change_of after
pinned_as_plain n t history clock sample e =
    let (a, b) = then_pass (observation_test (clock_of t) clock sample) (pin_test t.pins) e in
    rw (a, b)

-- .. and one that is refused, and a release, leave it as it was
refused_same :
    (n : ℕ) (t : Table) (history : List ℕ) (c : Call) (r : Refusal) → pinning c ≡ true → refusal n t c ≡ Refuse r →
    state_after n t history c ≡ state_of t history
unfolding change_of after spent
refused_same n t history c r k e = go (declined n t c r e)
  where
    go : Declined n t c r → state_after n t history c ≡ state_of t history
    go (stays p) = rw (e, p)
    go (spends number p q h f) = absurd (false≢true (sym (rw p) ∙ k))

released_same :
    (n : ℕ) (t : Table) (history : List ℕ) (k : PinNo) → refusal n t (unpin k) ≡ Pass →
    state_after n t history (unpin k) ≡ state_of t history
unfolding change_accepted change_of after
released_same n t history k e = rw e

table_kept :
    (n : ℕ) (t : Table) (history : List ℕ) → Shaped n t → (c : Call) → TableOf n (state_of t history) →
    TableOf n (state_after n t history c)
table_kept n t history s (begin number) y = unpinned_kept n t history s (begin number) refl y
table_kept n t history s (end slot id) y = unpinned_kept n t history s (end slot id) refl y
table_kept n t history s (snap clock sample) y = unpinned_kept n t history s (snap clock sample) refl y
table_kept n t history s (own slot id clock sample) y = unpinned_kept n t history s (own slot id clock sample) refl y
table_kept n t history s (oldest clock sample) y = unpinned_kept n t history s (oldest clock sample) refl y
table_kept n t history s (vacuum clock sample) y = unpinned_kept n t history s (vacuum clock sample) refl y
table_kept n t history s (stamp number) y = unpinned_kept n t history s (stamp number) refl y
table_kept n t history s (finish slot id number) y = unpinned_kept n t history s (finish slot id number) refl y
table_kept n t history s (pin clock sample) y = go (refusal n t (pin clock sample)) refl
  where
    go : (v : Verdict) → refusal n t (pin clock sample) ≡ v → TableOf n (state_after n t history (pin clock sample))
    go Pass e =
        subst (λ (x : State). TableOf n x) (pinned_as_plain n t history clock sample e)
        (unpinned_kept n t history s (snap clock sample) refl y)
    go (Refuse r) e = subst (λ (x : State). TableOf n x) (sym (refused_same n t history (pin clock sample) r refl e)) y
table_kept n t history s (unpin k) y = go (refusal n t (unpin k)) refl
  where
    go : (v : Verdict) → refusal n t (unpin k) ≡ v → TableOf n (state_after n t history (unpin k))
    go Pass e = subst (λ (x : State). TableOf n x) (sym (released_same n t history k e)) y
    go (Refuse r) e = subst (λ (x : State). TableOf n x) (sym (refused_same n t history (unpin k) r refl e)) y

module _ (n : ℕ) (t : Table) (history : List ℕ) (s : Shaped n t) (c : Call) where
  history-kept : HistoryOf (state_of t history) → HistoryOf (state_after n t history c)
  unfolding after
  history-kept h = history_step _ _ _ _ history h ids (reserve_step n t c) registered
    where
      ids : List ℕ
      ids = reserves_by (refusal n t c) c

      later : Shaped n (after n t c)
      later = shaped_applied n t s (change_of n t c).slot (change_of n t c).counters

      had : (i x : ℕ) → Was t (slot i) (txid x) c (refusal n t c) → Contains (pushes history ids) x
      had i x (before_it r f) =
          let held : (at (slots_of t) i).txid ≡ x = txid-at n t s i ∙ r.holds in
          contains_pushes history ids x (rw held at (h.registered i (λ z. r.not_zero (sym held ∙ z))))
      had i x (begun-by-it number p v l e) =
          let only : ids ≡ number.0 ∷ [] = rw (v, p) in
          rw (only, e) (contains_last history x)

      registered :
          (i : ℕ) → (at (slots_of (after n t c)) i).txid ≢ 0 →
          Contains (pushes history ids) (at (slots_of (after n t c)) i).txid
      registered i z =
          let held = txid-at n (after n t c) later i in
          let there : Registered (after n t c) (slot i) (txid (txid_at (after n t c) i)) =
          record { not_zero = λ q. z (held ∙ q); holds = refl }
          in
          rw held (had i _ (was n t (slot i) (txid _) c there))

  pub well_formed_kept : Kept n (state_of t history) (state_after n t history c)
  well_formed_kept = record { table = table_kept n t history s c; history = history-kept }

  -- and so it is as L has it
  pub still_well_formed : WellFormed n (state_of t history) → WellFormed n (state_after n t history c)
  still_well_formed w = record { table = table_kept n t history s c w.table; history = history-kept w.history }
