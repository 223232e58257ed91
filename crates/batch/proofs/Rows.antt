-- A batch at values worked out by hand from SPEC 17: what it answers, in numbers, and what the run of decisions holds afterwards.
use Prim.Native.Nat.{ℕ}
use mathlib.Core.Path.{◌≡◌, refl}
use mathlib.Core.List.{List, [], ◌∷◌}
use lib.ListN.{length}
use Rattle.kinds.specs.declared.told.Told.{Told}
use Rattle.kinds.specs.Kinds.{top}
use Rattle.kinds.specs.Refusals.{told, accepted}
use Rattle.batch.specs.Batch.{judged_from, batch_of, batch_told, decisions, decisions_left}

-- what is answered, and the run afterwards
record Row : Type 0 where
  tells : Told
  run : List ℕ

-- a line, some versions, and the run before
abbrev asked : ℕ → List (List ℕ) → List ℕ → Row
asked line versions run = record { tells = batch_told (batch_of versions (length run)); run = decisions_left line versions run }

abbrev version : ℕ → ℕ → List ℕ
version maker ender = maker ∷ ender ∷ []

abbrev decided : List ℕ → Row
decided run = record { tells = accepted; run = run }

-- a refusal with a place, beside the run as it was
abbrev refused : ℕ → ℕ → List ℕ → Row
refused number place run = record { tells = record { number = number; slot = 0; id = 0; seen = 0; at = place }; run = run }

-- line 10: still alive, ended below it, at it, above it, and by its own maker; 8 and 9 stood in the run
pub decide_each :
    asked 10 (version 3 0 ∷ version 3 5 ∷ version 3 10 ∷ version 3 11 ∷ version 4 4 ∷ []) (8 ∷ 8 ∷ 8 ∷ 8 ∷ 8 ∷ 8 ∷ 9 ∷ [])
    ≡ decided (0 ∷ 1 ∷ 0 ∷ 0 ∷ 1 ∷ 8 ∷ 9 ∷ [])
unfolding judged_from batch_of decisions decisions_left
decide_each = refl

-- the maker plays no part in a decision, nor does its place; at line 0 and at line 1 nothing goes, and at the largest all but its own
pub lines :
    asked 10 (version 12 0 ∷ version 9 9 ∷ version 12 12 ∷ []) (8 ∷ 8 ∷ 8 ∷ [])
    ∷ asked 0 (version 1 1 ∷ []) (8 ∷ []) ∷ asked 1 (version 1 1 ∷ []) (8 ∷ [])
    ∷ asked top (version 1 18446744073709551614 ∷ version 1 top ∷ []) (8 ∷ 8 ∷ []) ∷ []
    ≡ decided (0 ∷ 1 ∷ 0 ∷ []) ∷ decided (0 ∷ []) ∷ decided (0 ∷ []) ∷ decided (1 ∷ 0 ∷ []) ∷ []
unfolding judged_from batch_of decisions decisions_left
lines = refl

-- no versions, in an empty run and in one that is not
pub nothing : asked 10 [] [] ∷ asked 10 [] (8 ∷ []) ∷ [] ≡ decided [] ∷ decided (8 ∷ []) ∷ []
unfolding judged_from batch_of decisions decisions_left
nothing = refl

-- 4 and 17, each with its place from 0, and nothing is written, not even before that place; maker 0 is 4, whatever its ender
pub bad :
    asked 10 (version 0 0 ∷ []) (8 ∷ []) ∷ asked 10 (version 3 5 ∷ version 0 7 ∷ []) (8 ∷ 9 ∷ [])
    ∷ asked 10 (version 3 2 ∷ []) (8 ∷ []) ∷ asked 10 (version 3 5 ∷ version 4 4 ∷ version 12 11 ∷ []) (8 ∷ 8 ∷ 8 ∷ []) ∷ []
    ≡ refused 4 0 (8 ∷ []) ∷ refused 4 1 (8 ∷ 9 ∷ []) ∷ refused 17 0 (8 ∷ []) ∷ refused 17 2 (8 ∷ 8 ∷ 8 ∷ []) ∷ []
unfolding told judged_from batch_of decisions decisions_left
bad = refl

-- the first bad one decides: 17 before a later 4, 4 before a later 17, and before another of its kind
pub first :
    asked 10 (version 3 2 ∷ version 0 0 ∷ []) (8 ∷ 8 ∷ []) ∷ asked 10 (version 0 0 ∷ version 3 2 ∷ []) (8 ∷ 8 ∷ [])
    ∷ asked 10 (version 3 5 ∷ version 0 1 ∷ version 0 0 ∷ []) (8 ∷ 8 ∷ 8 ∷ []) ∷ []
    ≡ refused 17 0 (8 ∷ 8 ∷ []) ∷ refused 4 0 (8 ∷ 8 ∷ []) ∷ refused 4 1 (8 ∷ 8 ∷ 8 ∷ []) ∷ []
unfolding told judged_from batch_of decisions decisions_left
first = refl

-- 12 before 4 and before 17, and with good versions; a run as long as the batch has room
pub room :
    asked 10 (version 0 0 ∷ []) [] ∷ asked 10 (version 3 2 ∷ version 3 5 ∷ []) (8 ∷ []) ∷ asked 10 (version 3 5 ∷ version 3 0 ∷ []) (8 ∷ [])
    ∷ asked 10 (version 3 5 ∷ version 3 0 ∷ []) (8 ∷ 8 ∷ []) ∷ []
    ≡ refused 12 0 [] ∷ refused 12 0 (8 ∷ []) ∷ refused 12 0 (8 ∷ []) ∷ decided (1 ∷ 0 ∷ []) ∷ []
unfolding told judged_from batch_of decisions decisions_left
room = refl
