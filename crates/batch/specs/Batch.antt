-- A batch of versions for the vacuum (SPEC 17): which version is bad first, which may go, and what a run of decisions holds afterwards.
use Rattle.std.specs.Prelude.{ℕ, ◌+◌, ◌<◌, ◌≡◌, Bool, cond, not, ◌&&◌, List, [], ◌∷◌, ◌++◌, eqb, ltb, length, drop, get_or, Err}
use Rattle.kinds.specs.declared.refusal.Refusal.{Refusal}
use Rattle.kinds.specs.declared.refusal.Refusal.TheVariants.{NoRoom, EndedBefore}
use Rattle.kinds.specs.Verdicts.{Verdict, Pass, Refuse, then, zero_test}
use Rattle.kinds.specs.declared.told.Told.{Told}
use Rattle.kinds.specs.Kinds.{txid}
use Rattle.kinds.specs.Refusals.{told, accepted}
use Rattle.batch.specs.Batched.{Batched, Decided, Refused}

-- a version is its maker's id and its ender's, 0 for still alive
abbrev pub maker : List ℕ → ℕ
maker version = get_or version 0 0

abbrev pub ender : List ℕ → ℕ
ender version = get_or version 1 0

-- it has ended, by an id below the bound
abbrev pub ended_below : ℕ → ℕ → Bool
ended_below bound ended = not (eqb ended 0) && ltb ended bound

-- 4: the maker is 0; otherwise 17: it was ended by an id below its maker's
abbrev pub version_test : ℕ → ℕ → Verdict
version_test made ended = then (zero_test (txid made)) (cond (ended_below made ended) (Refuse EndedBefore) Pass)

-- a bad version decides, with its place; a good one leaves it to those after it
abbrev pub judged_by : Verdict → ℕ → Batched → Batched
judged_by Pass place rest = rest
judged_by (Refuse r) place rest = Refused r place

-- the first bad one of the versions that stand from this place on
unfoldable pub judged_from : ℕ → List (List ℕ) → Batched
judged_from place [] = Decided
judged_from place (v ∷ vs) = judged_by (version_test (maker v) (ender v)) place (judged_from (place + 1) vs)

-- the same in words: version i is bad by r, and all before it are good
pub record FirstBad (versions : List (List ℕ)) (r : Refusal) (i : ℕ) : Type 0 where
  pub inside : i < length versions
  pub bad : version_test (maker (get_or versions i [])) (ender (get_or versions i [])) ≡ Refuse r
  pub before : (j : ℕ) → j < i → version_test (maker (get_or versions j [])) (ender (get_or versions j [])) ≡ Pass

-- 12 where there are more versions than the run has places, then the first bad version
unfoldable pub batch_of : List (List ℕ) → ℕ → Batched
batch_of versions room = cond (ltb room (length versions)) (Refused NoRoom 0) (judged_from 0 versions)

-- the number of the answer and what it carries (SPEC 3.1): the place of the bad version
abbrev pub batch_told : Batched → Told
batch_told Decided = accepted
batch_told (Err bad) = record { number = (told bad.refusal).number; slot = 0; id = 0; seen = 0; at = bad.place }

-- 1 exactly if the version has ended, by an id below the line; else 0
abbrev pub decision_of : ℕ → ℕ → ℕ
decision_of line ended = cond (ended_below line ended) 1 0

unfoldable pub decisions : ℕ → List (List ℕ) → List ℕ
decisions line [] = []
decisions line (v ∷ vs) = decision_of line (ender v) ∷ decisions line vs

-- a run with these in front, and the places past them as they were
abbrev pub in_front : List ℕ → List ℕ → List ℕ
in_front ds run = ds ++ drop (length ds) run

-- the run afterwards: on a refusal as it was
abbrev pub left_by : Batched → ℕ → List (List ℕ) → List ℕ → List ℕ
left_by Decided line versions run = in_front (decisions line versions) run
left_by (Err bad) line versions run = run

unfoldable pub decisions_left : ℕ → List (List ℕ) → List ℕ → List ℕ
decisions_left line versions run = left_by (batch_of versions (length run)) line versions run
