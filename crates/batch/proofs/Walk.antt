-- A batch as its loops read it: from version i on. While it is judged, the whole answer is that of the versions left, counted from place i.
-- While it is written, the whole run is what the decisions left put from place i on.
use Prim.Native.Nat.{ℕ, ◌+◌, ◌≤◌, ◌<◌}
use native.Mathlib.Omega.{arith}
use native.Mathlib.Nat.{zero-add}
use native.Mathlib.Numerals.{add-one}
use mathlib.Core.Path.{◌≡◌, refl, sym, ◌∙◌}
use mathlib.Core.List.{List, [], ◌∷◌}
use lib.ListN.{length, drop, get_or, set, drop_of_length-le}
use lib.Seq.{sets, sets-eq, drop-cons}
use Rattle.kinds.specs.declared.refusal.Refusal.{Refusal}
use Rattle.kinds.specs.Verdicts.{Verdict, Pass, Refuse}
use Rattle.std.specs.Prelude.{Ok, Err}
use Rattle.std.specs.Result.{MatchResult, IsErrAnd}
use Rattle.batch.specs.declared.BadVersion.{BadVersion}
use Rattle.batch.specs.Batched.{Batched, Decided, Refused}
use Rattle.batch.specs.Batch.{maker, ender, version_test, judged_by, judged_from, decision_of, decisions, in_front}

pub decisions_many : (line : ℕ) (vs : List (List ℕ)) → length (decisions line vs) ≡ length vs
unfolding decisions
decisions_many line [] = refl
decisions_many line (v ∷ vs) = omega (arith, decisions_many line vs)

-- decisions in front are decisions put one after the other
pub front_sets :
    (line : ℕ) (vs : List (List ℕ)) (run : List ℕ) → length vs ≤ length run →
    in_front (decisions line vs) run ≡ sets run 0 (decisions line vs)
front_sets line vs run h =
    sym (sets-eq (decisions line vs) run 0 (omega (arith, decisions_many line vs)) ∙ rw (zero-add (length (decisions line vs))))

-- a test's refusal with the place beside it, and what follows by that
pub placed :
    (Gives : Refusal → BadVersion → Type 0) (place : ℕ) (t : Verdict) (m : Batched) →
    ((r : Refusal) (bad : BadVersion) → Gives r bad → Err bad ≡ Refused r place) →
    MatchResult t (λ x. m ≡ Ok x) (λ r. IsErrAnd m (Gives r)) → m ≡ judged_by t place Decided
placed Gives place (Ok tt) m says h = h
placed Gives place (Err r) (Err bad) says h = says r bad h
placed Gives place (Err r) (Ok x) says h = absurd h

by_good : (t : Verdict) (place : ℕ) (rest : Batched) → judged_by t place Decided ≡ Decided → judged_by t place rest ≡ rest
by_good Pass place rest e = refl
by_good (Refuse r) place rest e = absurd (let z : ◌≡◌ {A = ℕ} 0 1 = cc in omega arith)

by_bad : (t : Verdict) (place : ℕ) (bad : BadVersion) (rest : Batched) → judged_by t place Decided ≡ Err bad → judged_by t place rest ≡ Err bad
by_bad Pass place bad rest e = absurd (let z : ◌≡◌ {A = ℕ} 0 1 = cc in omega arith)
by_bad (Refuse r) place bad rest e = e

module _ (vs : List (List ℕ)) (i : ℕ) where
  from : i < length vs → drop i vs ≡ get_or vs i [] ∷ drop (i + 1) vs
  from h = rw (add-one, drop-cons vs i [])

  judged-here :
      i < length vs →
      judged_from i (drop i vs) ≡ judged_by (version_test (maker (get_or vs i [])) (ender (get_or vs i []))) i (judged_from (i + 1) (drop (i + 1) vs))
  unfolding judged_from
  judged-here h = rw (from h)

  -- a good version, and a bad one
  pub judged-next :
      {t : Verdict} {m : Batched} → i < length vs → t ≡ version_test (maker (get_or vs i [])) (ender (get_or vs i [])) →
      m ≡ judged_by t i Decided → m ≡ Decided → judged_from i (drop i vs) ≡ judged_from (i + 1) (drop (i + 1) vs)
  judged-next {t} h e p q = judged-here h ∙ rw (← e) (by_good t i (judged_from (i + 1) (drop (i + 1) vs)) (sym p ∙ q))

  pub judged_bad :
      {t : Verdict} {m : Batched} {bad : BadVersion} → i < length vs → t ≡ version_test (maker (get_or vs i [])) (ender (get_or vs i [])) →
      m ≡ judged_by t i Decided → m ≡ Err bad → judged_from i (drop i vs) ≡ Err bad
  judged_bad {t} {bad = bad} h e p q = judged-here h ∙ rw (← e) (by_bad t i bad (judged_from (i + 1) (drop (i + 1) vs)) (sym p ∙ q))

  pub judged_over : length vs ≤ i → judged_from i (drop i vs) ≡ Decided
  unfolding judged_from
  judged_over h = rw (drop_of_length-le vs h)

  module _ (line : ℕ) (run : List ℕ) where
    -- one more decision, and none left
    pub sets_next :
        i < length vs →
        sets run i (decisions line (drop i vs))
        ≡ sets (set run i (decision_of line (ender (get_or vs i [])))) (i + 1) (decisions line (drop (i + 1) vs))
    unfolding decisions
    sets_next h = rw (from h, add-one)

    pub sets_over : length vs ≤ i → sets run i (decisions line (drop i vs)) ≡ run
    unfolding decisions
    sets_over h = rw (drop_of_length-le vs h)
