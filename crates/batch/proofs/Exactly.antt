-- What SPEC 17 says of a batch, place by place: which decision stands where, what is kept, and which version is the first bad one.
use Prim.Native.Nat.{ℕ, zero, suc, ◌+◌, ◌-◌, ◌≤◌, ◌<◌}
use native.Mathlib.Omega.{arith}
use native.Mathlib.Nat.{not-suc-le-zero, le_of_suc-le-suc}
use mathlib.Core.Path.{◌≡◌, refl, sym, ap, ◌∙◌}
use mathlib.Core.Logic.{◌≢◌, ◌↔◌}
use mathlib.Core.Bool.{Bool, true, false, cond, not, and-eq-true_iff}
use mathlib.Core.List.{List, [], ◌∷◌, ◌++◌}
use lib.Dec.{eqb}
use Rattle.std.specs.Prelude.{Err}
use lib.ListN.{length, drop, get_or}
use lib.Seq.{get_or-append-add, get_or-drop}
use borrow.Author.Tests.{eqb-false, ltb-true, ne_eqb, lt-ltb, not-true}
use Rattle.kinds.specs.declared.refusal.Refusal.{Refusal}
use Rattle.kinds.specs.Verdicts.{Verdict, Pass, Refuse}
use Rattle.batch.specs.Batched.{Batched, Decided, Refused}
use Rattle.batch.specs.Batch.{maker, ender, ended_below, version_test, judged_by, judged_from, FirstBad}
use Rattle.batch.specs.Batch.{batch_of, decision_of, decisions, left_by, decisions_left}
use Rattle.batch.proofs.Walk.{decisions_many}

pub ended_exactly : (bound ended : ℕ) → (ended_below bound ended ≡ true) ↔ ((ended ≢ 0) × (ended < bound))
ended_exactly bound ended = (to, λ (z, l). rw (ne_eqb ended 0 z, lt-ltb ended bound l))
  where
    to : ended_below bound ended ≡ true → (ended ≢ 0) × (ended < bound)
    to e =
        let (a, b) = (and-eq-true_iff (not (eqb ended 0)) _).0 e in
        (eqb-false ended 0 (not-true (eqb ended 0) a), ltb-true ended bound b)

-- 1 exactly if the ender is not 0 and is below the line, else 0
pub goes_exactly : (line ended : ℕ) → (decision_of line ended ≡ 1) ↔ ((ended ≢ 0) × (ended < line))
goes_exactly line ended =
    (λ e. (ended_exactly line ended).0 (one (ended_below line ended) e), λ h. rw ((ended_exactly line ended).1 h))
  where
    one : (b : Bool) → ◌≡◌ {A = ℕ} (cond b 1 0) 1 → b ≡ true
    one true e = refl
    one false e = absurd (omega arith)

pub stays_otherwise : (line ended : ℕ) → decision_of line ended ≢ 1 → decision_of line ended ≡ 0
stays_otherwise line ended = go (ended_below line ended)
  where
    go : (b : Bool) → ◌≢◌ {A = ℕ} (cond b 1 0) 1 → ◌≡◌ {A = ℕ} (cond b 1 0) 0
    go true h = absurd (h refl)
    go false h = refl

decision-at :
    (line : ℕ) (vs : List (List ℕ)) (rest : List ℕ) (i : ℕ) → i < length vs →
    get_or (decisions line vs ++ rest) i 0 ≡ decision_of line (ender (get_or vs i []))
unfolding decisions
decision-at line [] rest i h = absurd (not-suc-le-zero h)
decision-at line (v ∷ vs) rest zero h = refl
decision-at line (v ∷ vs) rest (suc i) h = decision-at line vs rest i (le_of_suc-le-suc h)

module _ (line : ℕ) (versions : List (List ℕ)) (run : List ℕ) where
  pub decided_at :
      (i : ℕ) → batch_of versions (length run) ≡ Decided → i < length versions →
      get_or (decisions_left line versions run) i 0 ≡ decision_of line (ender (get_or versions i []))
  unfolding decisions_left
  decided_at i e h = rw e (decision-at line versions (drop (length (decisions line versions)) run) i h)

  -- places past the versions always keep what they held
  pub past_kept : (i : ℕ) → length versions ≤ i → get_or (decisions_left line versions run) i 0 ≡ get_or run i 0
  unfolding decisions_left
  past_kept i h = go (batch_of versions (length run))
    where
      go : (b : Batched) → get_or (left_by b line versions run) i 0 ≡ get_or run i 0
      go Decided =
          let ds = decisions line versions in
          let k = i - length ds in
          let place : length ds + k ≡ i = omega (arith, decisions_many line versions) in
          ap (λ (j : ℕ). get_or (ds ++ drop (length ds) run) j 0) (sym place)
          ∙ get_or-append-add ds (drop (length ds) run) k 0
          ∙ get_or-drop (length ds) run k 0
          ∙ ap (λ (j : ℕ). get_or run j 0) place
      go (Err bad) = refl

  -- and on a refusal all places do
  pub refused_kept : (r : Refusal) (place : ℕ) → batch_of versions (length run) ≡ Refused r place → decisions_left line versions run ≡ run
  unfolding decisions_left
  refused_kept r place e = rw e

abbrev refusal_in : Batched → Refusal → Refusal
refusal_in Decided other = other
refusal_in (Err bad) other = bad.refusal

abbrev place_in : Batched → ℕ
place_in Decided = 0
place_in (Err bad) = bad.place

-- the first bad version, counted from `place`
bad_from :
    (place : ℕ) (vs : List (List ℕ)) (r : Refusal) (i : ℕ) → judged_from place vs ≡ Refused r i →
    (k : ℕ) × (i ≡ place + k) × FirstBad vs r k
unfolding judged_from
bad_from place [] r i e = absurd (let z : ◌≡◌ {A = ℕ} 0 1 = cc in omega arith)
bad_from place (v ∷ vs) r i e = go (version_test (maker v) (ender v)) refl e (bad_from (place + 1) vs r i)
  where
    earlier :
        version_test (maker v) (ender v) ≡ Pass → (k : ℕ) → FirstBad vs r k → (j : ℕ) → j < suc k →
        version_test (maker (get_or (v ∷ vs) j [])) (ender (get_or (v ∷ vs) j [])) ≡ Pass
    earlier p k f zero l = p
    earlier p k f (suc j) l = f.before j (le_of_suc-le-suc l)

    go :
        (t : Verdict) → version_test (maker v) (ender v) ≡ t → judged_by t place (judged_from (place + 1) vs) ≡ Refused r i →
        (judged_from (place + 1) vs ≡ Refused r i → (k : ℕ) × (i ≡ place + 1 + k) × FirstBad vs r k) →
        (k : ℕ) × (i ≡ place + k) × FirstBad (v ∷ vs) r k
    go (Refuse s) p q ih =
        let same : s ≡ r = ap (λ (b : Batched). refusal_in b s) q in
        let here : place ≡ i = ap place_in q in
        (zero, omega arith, record { inside = omega arith; bad = p ∙ ap Refuse same; before = λ j l. absurd (not-suc-le-zero l) })
    go Pass p q ih =
        let (k, there, f) = ih q in
        (suc k, omega arith, record { inside = omega (arith, f.inside); bad = f.bad; before = earlier p k f })

from_bad :
    (place : ℕ) (vs : List (List ℕ)) (r : Refusal) (k : ℕ) → FirstBad vs r k → judged_from place vs ≡ Refused r (place + k)
unfolding judged_from
from_bad place [] r k f = absurd (not-suc-le-zero f.inside)
from_bad place (v ∷ vs) r zero f = rw f.bad (ap (Refused r) (omega arith))
from_bad place (v ∷ vs) r (suc k) f =
    rw (f.before zero (omega arith))
    (from_bad (place + 1) vs r k
    (record { inside = le_of_suc-le-suc f.inside; bad = f.bad; before = λ j l. f.before (suc j) (omega arith) })
    ∙ ap (Refused r) (omega arith))

pub first_bad_exactly :
    (versions : List (List ℕ)) (r : Refusal) (i : ℕ) → (judged_from 0 versions ≡ Refused r i) ↔ FirstBad versions r i
first_bad_exactly versions r i = (to, λ f. from_bad 0 versions r i f ∙ ap (Refused r) (omega arith))
  where
    to : judged_from 0 versions ≡ Refused r i → FirstBad versions r i
    to e =
        let (k, p, f) = bad_from 0 versions r i e in
        let same : k ≡ i = omega arith in
        rw (← same) f
