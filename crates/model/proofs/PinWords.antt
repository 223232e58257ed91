-- The snapshot that the walk over the calls finds in a pin is the one that it holds in words, and the other way round.
use Prim.Native.Nat.{ℕ}
use mathlib.Core.Path.{◌≡◌, refl, sym, ◌∙◌, ap}
use mathlib.Core.Logic.{◌↔◌, ◌⊎◌, inl, inr}
use mathlib.Core.Bool.{true≢false}
use mathlib.Core.List.{List, [], ◌∷◌, ◌++◌}
use mathlib.Core.Option.{Option, none, some, none-ne-some, some-injective}
use borrow.Author.Tests.{eq-eqb}
use Rattle.kinds.specs.declared.PinNo.{PinNo}
use Rattle.kinds.specs.Verdicts.{Verdict, Pass, Refuse}
use Rattle.kinds.specs.Kinds.{pin_no}
use Rattle.settled.specs.declared.Snapshot.{Snapshot}
use Rattle.model.specs.declared.Table.{Table}
use Rattle.model.specs.Answer.{Pinned}
use Rattle.model.specs.Tally.{lowest_empty}
use Rattle.model.specs.Tables.{fresh_table}
use Rattle.model.specs.Calls.{Call, pin, refusal, after, answer_accepted, answer_by, answer, shown}
use Rattle.model.specs.Deeds.{release_of}
use Rattle.model.specs.Facts.{Good}
use Rattle.model.specs.History.{run, reached, Accepts, Never}
use Rattle.model.specs.Pins.{held_by, held_from, held_snapshot, IsHeld}
use Rattle.model.proofs.Tally.{lowest_empty_lem}
use Rattle.model.proofs.Answers.{pin-told, refused_not_pinned, pinned_as}
use Rattle.model.proofs.Never.{never_nil, never_cons, never_head, never_tail}
use Rattle.model.proofs.Facts.{good-after, good-reached}
use Rattle.model.proofs.History.{run_snoc}
use Rattle.model.proofs.PinNoted.{PinNoted, now-pinned, now_released, pin-stays, pin_noted}
use Rattle.model.proofs.PinHeld.{KeepsPin, KeepsHeld, kept_taken, keeps_held-after, held_keeps}

pub held-append :
    (n : ℕ) (k : PinNo) (t : Table) (before later : List Call) (held : Option Snapshot) →
    held_from n k t (before ++ later) held ≡ held_from n k (run n t before) later (held_from n k t before held)
unfolding run held_from
held-append n k t [] later held = refl
held-append n k t (c ∷ before) later held =
    held-append n k (after n t c) before later (held_by (refusal n t c) n k t c held)

-- a pinned snapshot answers a pin exactly where it is accepted: the lowest free one
pub pin_answers :
    (n : ℕ) (t : Table) (clock sample : ℕ) → Accepts n t (pin clock sample) →
    answer n t (pin clock sample) ≡ Pinned (pin_no (lowest_empty t.pins))
unfolding answer answer_accepted
pin_answers n t clock sample e = ap (λ (v : Verdict). answer_by v t (pin clock sample)) e

pub record PinnedThere (n : ℕ) (t : Table) (clock sample : ℕ) (k : PinNo) : Type 0 where
  pub accepted : Accepts n t (pin clock sample)
  pub lowest : lowest_empty t.pins ≡ k.0

pub answers_pinned :
    (n : ℕ) (t : Table) (clock sample : ℕ) (k : PinNo) → answer n t (pin clock sample) ≡ Pinned k →
    PinnedThere n t clock sample k
unfolding answer answer_accepted
answers_pinned n t clock sample k e = go (refusal n t (pin clock sample)) refl e
  where
    go :
        (v : Verdict) → refusal n t (pin clock sample) ≡ v → answer_by v t (pin clock sample) ≡ Pinned k →
        PinnedThere n t clock sample k
    go Pass p q = record { accepted = p; lowest = ap pin-told q }
    go (Refuse r) p q = absurd (refused_not_pinned r k q)

-- an accepted pinned snapshot is held by the pin that it takes
pub held_now :
    (n : ℕ) (k : PinNo) (t : Table) (clock sample : ℕ) (held : Option Snapshot) → PinnedThere n t clock sample k →
    held_by (refusal n t (pin clock sample)) n k t (pin clock sample) held ≡ some (shown n t (pin clock sample))
held_now n k t clock sample held h = rw (h.accepted, eq-eqb (lowest_empty t.pins) k.0 h.lowest)

-- through calls that don't release the pin it holds what it held: no other snapshot takes a pin that is taken
held_kept :
    (n : ℕ) (k : PinNo) (t : Table) (cs : List Call) (s : Snapshot) → Good n t → KeepsPin n t k s →
    Never n t (release_of k) cs → held_from n k t cs (some s) ≡ some s
unfolding held_from
held_kept n k t [] s g h never = refl
held_kept n k t (c ∷ cs) s g h never =
    ap (λ (held : Option Snapshot). held_from n k (after n t c) cs held) same
    ∙ held_kept n k (after n t c) cs s (good-after n t c g) still (never_tail n t (release_of k) c cs never)
  where
    one : PinNoted n t k c (some s) (refusal n t c) (after n t c) → held_by (refusal n t c) n k t c (some s) ≡ some s
    one (now-pinned clock sample p v y w e) =
        absurd (kept_taken n t k s h (rw w at (lowest_empty_lem t.pins)))
    one (now_released p v e) = absurd (true≢false (sym p ∙ never_head n t (release_of k) c cs never v))
    one (pin-stays e p q l) = e

    same : held_by (refusal n t c) n k t c (some s) ≡ some s
    same = one (pin_noted n t k c (some s))

    still : KeepsPin n (after n t c) k s
    still =
        let w : KeepsHeld n (after n t c) k (some s) = rw same at (keeps_held-after n t k c (some s) g h) in
        w

-- in words, so found by the walk: first what the walk has found at the pinned snapshot, then the calls after it
module _ (n : ℕ) (cs : List Call) (k : PinNo) (s : Snapshot) (w : IsHeld n (fresh_table n) k cs s) where
  abbrev taking : Call
  taking = pin w.clock w.sample

  abbrev then-reached : Table
  then-reached = reached n w.before

  until : held_snapshot n k (w.before ++ taking ∷ []) ≡ some s
  unfolding held_from
  until =
      held-append n k (fresh_table n) w.before (taking ∷ []) none
      ∙ held_now n k then-reached w.clock w.sample _
      (answers_pinned n then-reached w.clock w.sample k w.answers)
      ∙ ap some (sym w.shows)

  keeps_then : KeepsPin n (after n then-reached taking) k s
  keeps_then = rw (run_snoc n (fresh_table n) w.before taking) at (held_keeps n (w.before ++ taking ∷ []) k s until)

  pub words_walk : held_snapshot n k cs ≡ some s
  unfolding held_from
  words_walk =
      ap (λ (l : List Call). held_snapshot n k l) w.written
      ∙ held-append n k (fresh_table n) w.before (taking ∷ w.later) none
      ∙ ap (λ (held : Option Snapshot). held_from n k (after n then-reached taking) w.later held)
      (sym (held-append n k (fresh_table n) w.before (taking ∷ []) none) ∙ until)
      ∙ held_kept n k (after n then-reached taking) w.later s
      (good-after n then-reached taking (good-reached n w.before)) keeps_then w.not_released

-- a call in front of what is held in words
further :
    (n : ℕ) (k : PinNo) (t : Table) (c : Call) (cs : List Call) (s : Snapshot) → IsHeld n (after n t c) k cs s →
    IsHeld n t k (c ∷ cs) s
unfolding run
further n k t c cs s w =
    record {
      before = c ∷ w.before;
      clock = w.clock;
      sample = w.sample;
      later = w.later;
      written = ap (λ (l : List Call). c ∷ l) w.written;
      answers = w.answers;
      shows = w.shows;
      not_released = w.not_released;
    }

first :
    (n : ℕ) (k : PinNo) (t : Table) (c : Call) (cs : List Call) (clock sample : ℕ) (s : Snapshot) → c ≡ pin clock sample →
    Accepts n t c → lowest_empty t.pins ≡ k.0 → s ≡ shown n t c → Never n (after n t c) (release_of k) cs →
    IsHeld n t k (c ∷ cs) s
unfolding run
first n k t c cs clock sample s p a l e never =
    let a' : Accepts n t (pin clock sample) = rw (← p) a in
    record {
      before = [];
      clock = clock;
      sample = sample;
      later = cs;
      written = ap (λ (d : Call). d ∷ cs) p;
      answers = pin_answers n t clock sample a' ∙ pinned_as l;
      shows = rw (← p) e;
      not_released = rw (← p) never;
    }

-- found by the walk, so: held from the start and not released since, or held in words
found :
    (n : ℕ) (k : PinNo) (t : Table) (cs : List Call) (held : Option Snapshot) (s : Snapshot) →
    held_from n k t cs held ≡ some s → ((held ≡ some s) × Never n t (release_of k) cs) ⊎ IsHeld n t k cs s
unfolding held_from
found n k t [] held s e = inl (e, never_nil n t (release_of k))
found n k t (c ∷ cs) held s e = go (found n k (after n t c) cs (held_by (refusal n t c) n k t c held) s e)
  where
    one :
        held_by (refusal n t c) n k t c held ≡ some s → Never n (after n t c) (release_of k) cs →
        PinNoted n t k c held (refusal n t c) (after n t c) →
        ((held ≡ some s) × Never n t (release_of k) (c ∷ cs)) ⊎ IsHeld n t k (c ∷ cs) s
    one p never (now-pinned clock sample q v y w r) =
        inr (first n k t c cs clock sample s q v w (some-injective s _ (sym p ∙ r)) never)
    one p never (now_released q v r) = absurd (none-ne-some s (sym r ∙ p))
    one p never (pin-stays r h q l) = inl (sym r ∙ p, never_cons n t (release_of k) c cs h never)

    go :
        ((held_by (refusal n t c) n k t c held ≡ some s) × Never n (after n t c) (release_of k) cs)
        ⊎ IsHeld n (after n t c) k cs s →
        ((held ≡ some s) × Never n t (release_of k) (c ∷ cs)) ⊎ IsHeld n t k (c ∷ cs) s
    go (inl (p, never)) = one p never (pin_noted n t k c held)
    go (inr w) = inr (further n k t c cs s w)

pub walk_words :
    (n : ℕ) (cs : List Call) (k : PinNo) (s : Snapshot) → held_snapshot n k cs ≡ some s → IsHeld n (fresh_table n) k cs s
walk_words n cs k s e = go (found n k (fresh_table n) cs none s e)
  where
    go : ((none ≡ some s) × Never n (fresh_table n) (release_of k) cs) ⊎ IsHeld n (fresh_table n) k cs s → IsHeld n (fresh_table n) k cs s
    go (inl (p, never)) = absurd (none-ne-some s p)
    go (inr w) = w

-- from fresh, pin k holds s by the walk exactly where it does in words
pub held_in_words :
    (n : ℕ) (cs : List Call) (k : PinNo) (s : Snapshot) → (held_snapshot n k cs ≡ some s) ↔ IsHeld n (fresh_table n) k cs s
held_in_words n cs k s = (walk_words n cs k s, words_walk n cs k s)
