-- The lengths that a host's runs must have, and an answer's words.
use Rattle.std.specs.Prelude.{ℕ, cond, List, [], ◌∷◌, eqb, ltb, length}
use Rattle.std.proofs.lemmas.List.Edits.{sets}
use Rattle.kinds.specs.declared.refusal.Refusal.TheVariants.{BadImage, NoRoom}
use Rattle.kinds.specs.Verdicts.{Verdict, Pass, Refuse, then}
use Rattle.kinds.specs.Refusals.{told}
use Rattle.model.specs.declared.answer.Numbers.{Numbers}
use Rattle.place.specs.Words.{size_of}

-- the words of an answer but for its number and its ids, and how many they are
abbrev pub answer_words : Numbers → List ℕ
answer_words a =
    a.told.slot ∷ a.told.id ∷ a.told.seen ∷ a.xmin ∷ a.xmax ∷ a.vacuum_line ∷ a.count ∷ a.holder ∷ []

abbrev pub head : ℕ
head = 8

-- they stand in the first places, the others stay; a run that is too short stays whole
unfoldable pub told_in : List ℕ → Numbers → List ℕ
told_in out a = cond (ltb (length out) head) out (sets out 0 (answer_words a))

-- 18: the table has another length. 12: `out` is too short. 0 where both fit
unfoldable pub shape_of : ℕ → ℕ → ℕ → ℕ
shape_of n table out = cond (eqb table (size_of n)) (cond (ltb out head) (told NoRoom).number 0) (told BadImage).number

-- of a call that lists ids. 12: their run has fewer places than the table has slots
unfoldable pub list_shape : ℕ → ℕ → ℕ → ℕ → ℕ
list_shape n table out ids =
    cond (eqb (shape_of n table out) 0) (cond (ltb ids n) (told NoRoom).number 0) (shape_of n table out)

-- the same as verdicts, in the same order
unfoldable pub shape_verdict : ℕ → ℕ → ℕ → Verdict
shape_verdict n table out = cond (eqb table (size_of n)) (cond (ltb out head) (Refuse NoRoom) Pass) (Refuse BadImage)

unfoldable pub list_verdict : ℕ → ℕ → ℕ → ℕ → Verdict
list_verdict n table out ids = then (shape_verdict n table out) (cond (ltb ids n) (Refuse NoRoom) Pass)
