-- What the usable answer and the lengths say of the choice, and what a choice says of the lengths.
use Prim.Native.Nat.{ℕ, ◌≤◌}
use mathlib.Core.Path.{◌≡◌, refl, sym, ap, ◌∙◌}
use mathlib.Core.Bool.{Bool, true, false, ◌||◌, true≢false, false≢true}
use native.Mathlib.Omega.{arith}
use lib.Dec.{ltb}
use borrow.Author.Tests.{ltb-false}
use Rattle.kinds.specs.declared.Txid.{Txid}
use Rattle.kinds.specs.declared.refusal.Refusal.{Refusal}
use Rattle.kinds.specs.declared.refusal.Refusal.TheVariants.{BadLength}
use Rattle.kinds.specs.Verdicts.{Verdict, Pass, Refuse, then, zero_test}
use Rattle.kinds.proofs.Unique.{told_unique, told_positive}
use Rattle.kinds.proofs.Verdicts.{then_pass, not_refused}
use Rattle.settled.specs.declared.Snapshot.{Snapshot}
use Rattle.usable.specs.Usable.{Yes, No, Refused as Unanswered, UsableAnswer, paper_usable, usable_in, usable_by, usable_test}
use Rattle.settled.specs.Settled.{count_test}
use Rattle.tiles.specs.Choice.{Choice, Newer, Older, Refused}
use Rattle.tiles.specs.Tiles.{length_test, fitted, chosen, choice}
use Rattle.std.specs.Prelude.{Ok}
use Rattle.tiles.specs.declared.Coding.{Coding}
use Rattle.tiles.specs.declared.Coding.TheVariants as coding

abbrev usable_of : UsableAnswer → Bool
usable_of a = a.usable

abbrev number_of : UsableAnswer → ℕ
number_of a = a.tells.number

-- v: the usable test's own refusals; b: whether the maker is usable; l: the lengths
by_yes : (v : Verdict) (b : Bool) (l : Verdict) → paper_usable Yes ≡ usable_by v b → chosen (then v l) b ≡ fitted l Newer
by_yes Pass true Pass e = refl
by_yes Pass true (Refuse r) e = refl
by_yes Pass false l e = absurd (true≢false (ap usable_of e))
by_yes (Refuse r) b l e = absurd (told_positive r (sym (ap number_of e)))

by_no : (v : Verdict) (b : Bool) (l : Verdict) → paper_usable No ≡ usable_by v b → chosen (then v l) b ≡ fitted l Older
by_no Pass false Pass e = refl
by_no Pass false (Refuse r) e = refl
by_no Pass true l e = absurd (false≢true (ap usable_of e))
by_no (Refuse r) b l e = absurd (told_positive r (sym (ap number_of e)))

by_refused :
    (r : Refusal) (v : Verdict) (b : Bool) (l : Verdict) → paper_usable (Unanswered r) ≡ usable_by v b →
    chosen (then v l) b ≡ Refused r
by_refused r Pass b l e = absurd (told_positive r (ap number_of e))
by_refused r (Refuse s) b l e = ap Refused (sym (told_unique r s (ap (λ (a : UsableAnswer). a.tells) e)))

-- neither length is beyond its run
within :
    (older olderUsed newer newerUsed : ℕ) → length_test older olderUsed newer newerUsed ≡ Pass →
    (olderUsed ≤ older) × (newerUsed ≤ newer)
within older olderUsed newer newerUsed e =
    go (ltb older olderUsed) (ltb newer newerUsed) refl refl (not_refused _ BadLength Pass e).0
  where
    go :
        (a b : Bool) → ltb older olderUsed ≡ a → ltb newer newerUsed ≡ b → a || b ≡ false →
        (olderUsed ≤ older) × (newerUsed ≤ newer)
    go true b p q z = absurd (true≢false z)
    go false true p q z = absurd (true≢false z)
    go false false p q z = (ltb-false older olderUsed p, ltb-false newer newerUsed q)

-- a coding is chosen only where both fit
newer_passed : (v : Verdict) (b : Bool) → chosen v b ≡ Newer → v ≡ Pass
newer_passed Pass b e = refl
newer_passed (Refuse r) b e = absurd (let z : ◌≡◌ {A = ℕ} 0 1 = cc in omega arith)

older_passed : (v : Verdict) (b : Bool) → chosen v b ≡ Older → v ≡ Pass
older_passed Pass b e = refl
older_passed (Refuse r) b e = absurd (let z : ◌≡◌ {A = ℕ} 0 1 = cc in omega arith)

-- an answer that hands out a coding
pub newer_is : {d : Choice} {k : Coding} → d ≡ Ok k → k ≡ coding.Newer → d ≡ Newer
newer_is p q = p ∙ ap Ok q

pub older_is : {d : Choice} {k : Coding} → d ≡ Ok k → k ≡ coding.Older → d ≡ Older
older_is p q = p ∙ ap Ok q

module _ (n : ℕ) (shown : Snapshot) (own maker : Txid) (older olderUsed newer newerUsed : ℕ) where
  -- the three parts of which the choice is made
  abbrev first_two : Verdict
  first_two = then (count_test n shown.count) (zero_test maker)

  abbrev lengths : Verdict
  lengths = length_test older olderUsed newer newerUsed

  abbrev may-use : Bool
  may-use = usable_in shown.xmax shown.ids shown.count own.0 maker.0

  -- by the usable answer, and what `fitting` made of it
  pub choice_yes :
      (r : Choice) → paper_usable Yes ≡ usable_test n shown.xmax shown.ids shown.count own maker →
      r ≡ fitted (length_test older olderUsed newer newerUsed) Newer → r ≡ choice n shown own maker older olderUsed newer newerUsed
  unfolding usable_test choice
  choice_yes r e f = f ∙ sym (by_yes first_two may-use lengths e)

  pub choice_no :
      (r : Choice) → paper_usable No ≡ usable_test n shown.xmax shown.ids shown.count own maker →
      r ≡ fitted (length_test older olderUsed newer newerUsed) Older → r ≡ choice n shown own maker older olderUsed newer newerUsed
  unfolding usable_test choice
  choice_no r e f = f ∙ sym (by_no first_two may-use lengths e)

  pub choice-refused :
      (r : Refusal) → paper_usable (Unanswered r) ≡ usable_test n shown.xmax shown.ids shown.count own maker →
      Refused r ≡ choice n shown own maker older olderUsed newer newerUsed
  unfolding usable_test choice
  choice-refused r e = sym (by_refused r first_two may-use lengths e)

  -- the chosen run has its used bytes
  pub newer_within : (r : Choice) → r ≡ choice n shown own maker older olderUsed newer newerUsed → r ≡ Newer → newerUsed ≤ newer
  unfolding choice
  newer_within r p e =
      let passed = then_pass first_two lengths (newer_passed (then first_two lengths) may-use (sym p ∙ e)) in
      (within older olderUsed newer newerUsed passed.1).1

  pub older_within : (r : Choice) → r ≡ choice n shown own maker older olderUsed newer newerUsed → r ≡ Older → olderUsed ≤ older
  unfolding choice
  older_within r p e =
      let passed = then_pass first_two lengths (older_passed (then first_two lengths) may-use (sym p ∙ e)) in
      (within older olderUsed newer newerUsed passed.1).0
