-- What a call prints: the numbers of its answer in eight lines, under proc-2 in nine, then a line for each listed id.
use Rattle.std.specs.Prelude.{ℕ, ◌+◌, ◌-◌, ◌*◌, Bool, cond, ◌&&◌, List, [], ◌∷◌, ◌++◌, leb, length}
use Rattle.kinds.specs.declared.told.Told.{Told}
use Rattle.model.specs.declared.Table.{Table}
use Rattle.model.specs.declared.answer.Numbers.{Numbers}
use Rattle.model.specs.Tables.{line_of}
use Rattle.model.specs.Answers.{numbers_beside, listing}
use Rattle.model.specs.Calls.{Call, after, answer, shown}
use Rattle.text.specs.Put.{Put, Past, NoRoom}
use Rattle.text.specs.Keys.{answer_key, slot_key, id_key, seen_key, xmin_key, xmax_key, vacuum_key, count_key, holder_key, in_key}
use Rattle.text.specs.Line.{line_text}
use Rattle.text.specs.Write.{spliced}
use Rattle.trace.specs.declared.Version.{Version}
use Rattle.trace.specs.declared.Version.TheVariants.{Proc1, Proc2, Proc3}

-- what the answer tells
unfoldable pub told_lines : Told → List ℕ
told_lines t =
    line_text answer_key t.number ++ line_text slot_key t.slot ++ line_text id_key t.id ++ line_text seen_key t.seen

unfoldable pub rest_lines : Numbers → List ℕ
rest_lines n =
    line_text xmin_key n.xmin
    ++ line_text xmax_key n.xmax
    ++ line_text vacuum_key n.vacuum_line
    ++ line_text count_key n.count

unfoldable pub in_lines : List ℕ → List ℕ
in_lines [] = []
in_lines (x ∷ xs) = line_text in_key x ++ in_lines xs

-- the ninth line, under proc-2 and proc-3
unfoldable pub holder_line : Version → ℕ → List ℕ
holder_line Proc1 holder = []
holder_line Proc2 holder = line_text holder_key holder
holder_line Proc3 holder = line_text holder_key holder

unfoldable pub answer_text : Version → Numbers → List ℕ → List ℕ
answer_text v n ids = told_lines n.told ++ rest_lines n ++ holder_line v n.holder ++ in_lines ids

-- what a call prints: its answer beside the snapshot that it shows and the vacuum line after it, and the ids that it lists
unfoldable pub printed : Version → ℕ → Table → Call → List ℕ
printed v n t c =
    answer_text v (numbers_beside (answer n t c) (shown n t c) (line_of (after n t c))) (listing (shown n t c))

-- the room that a record is given: 224 bytes hold eight lines, 28 the holder's, 24 an id's
abbrev pub holder_room : Version → ℕ
holder_room Proc1 = 0
holder_room Proc2 = 28
holder_room Proc3 = 28

abbrev pub need : Version → ℕ → ℕ
need v count = 224 + holder_room v + 24 * count

-- a record with count ids goes into what is left of size bytes from `at` on, at n slots
abbrev pub fits : Version → ℕ → ℕ → ℕ → ℕ → Bool
fits v n size at count = leb count n && leb (need v count) (size - at)

-- what putting a text of count ids answers, and what it leaves
unfoldable pub put_text : Version → ℕ → List ℕ → ℕ → ℕ → List ℕ → Put
put_text v n xs at count t = cond (fits v n (length xs) at count) (Past (at + length t)) NoRoom

unfoldable pub left_text : Version → ℕ → List ℕ → ℕ → ℕ → List ℕ → List ℕ
left_text v n xs at count t = cond (fits v n (length xs) at count) (spliced xs at t) xs
