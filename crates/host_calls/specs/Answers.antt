-- What a host is answered (SPEC 18): 0 for no, 1 for yes, else a refusal's number. Each answer is the inner test's on what the bytes say.
use Rattle.std.specs.Prelude.{ℕ, ◌%◌, Bool, cond, not, List, eqb, length}
use Rattle.kinds.specs.declared.refusal.Refusal.TheVariants.{BadImage}
use Rattle.kinds.specs.Verdicts.{Verdict, Pass, Refuse}
use Rattle.kinds.specs.declared.told.Told.{Told}
use Rattle.kinds.specs.Kinds.{txid}
use Rattle.kinds.specs.Refusals.{told}
use Rattle.settled.specs.Settled.{SettledAnswer, settled_test}
use Rattle.usable.specs.Usable.{UsableAnswer, usable_test}
use Rattle.model.specs.Check.{table_passes}
use Rattle.image.specs.Lists.{count_of, ids_of}
use Rattle.image.specs.Images.{image_size, table_of}

abbrev pub yes_or_no : Bool → ℕ
yes_or_no b = cond b 1 0

-- a test's refusal, or its yes or no
abbrev pub number_of : Told → Bool → ℕ
number_of t b = cond (eqb t.number 0) (yes_or_no b) t.number

abbrev pub settled_number : SettledAnswer → ℕ
settled_number a = number_of a.tells a.settled

abbrev pub usable_number : UsableAnswer → ℕ
usable_number a = number_of a.tells a.usable

-- 18: the length of a list is no multiple of 8; an image has any other length
abbrev pub torn : List ℕ → Bool
torn s = not (eqb (length s % 8) 0)

abbrev pub list_test : List ℕ → Verdict
list_test s = cond (torn s) (Refuse BadImage) Pass

abbrev pub image_test : ℕ → List ℕ → Verdict
image_test n s = cond (eqb (length s) (image_size n)) Pass (Refuse BadImage)

-- it decides first
abbrev pub answer_by : Verdict → ℕ → ℕ
answer_by Pass k = k
answer_by (Refuse r) k = (told r).number

unfoldable pub settled_answer : ℕ → ℕ → List ℕ → ℕ → ℕ
settled_answer n xmax s id = answer_by (list_test s) (settled_number (settled_test n xmax (ids_of s) (count_of s) (txid id)))

unfoldable pub usable_answer : ℕ → ℕ → List ℕ → ℕ → ℕ → ℕ
usable_answer n xmax s id own =
    answer_by (list_test s) (usable_number (usable_test n xmax (ids_of s) (count_of s) (txid own) (txid id)))

unfoldable pub check_answer : ℕ → List ℕ → ℕ
check_answer n s = answer_by (image_test n s) (yes_or_no (table_passes n (table_of n s)))
