-- A whole replay into one buffer: what it leaves there, and what it promises.
use Rattle.std.specs.Prelude.{ℕ, ◌+◌, ◌≡◌, cond, List, [], ◌∷◌, ◌++◌, leb, length}
use Rattle.model.specs.Tables.{fresh_table}
use Rattle.text.specs.Keys.{records_key}
use Rattle.text.specs.Line.{line_text}
use Rattle.text.specs.Write.{spliced, written}
use Rattle.trace.specs.declared.Record.{Record}
use Rattle.grammar.specs.Texts.{Read, Whole, Broken}
use Rattle.trace.specs.declared.Version.{Version}
use Rattle.trace.specs.Trace.{trace_of}
use Rattle.replay.specs.Replayed.{Replayed, Written, NoRoom}
use Rattle.replay_text.specs.Replay.{broken_text}
use Rattle.replay_part.specs.Part.{part_of}

-- what a replay into a buffer of size bytes leaves at its start: the whole text, or as much of it as had room
pub data Into : Type 0 where
  whole : List ℕ → Into
  cut : List ℕ → Into

abbrev pub text_in : Into → List ℕ
text_in (whole t) = t
text_in (cut t) = t

-- the records' own text, then `records=` and their number
abbrev pub into_end : ℕ → ℕ → List Record → List ℕ → Into
into_end size count [] t =
    cond (leb (length t + length (line_text records_key count)) size) (whole (t ++ line_text records_key count)) (cut t)
into_end size count (r ∷ rs) t = cut t

-- 33 bytes hold the two lines of refusal 9, whatever the line
abbrev pub into_by : ℕ → ℕ → Read Version Record → Into
into_by n size (Whole v rs) =
    into_end size (length rs) (part_of v n size 0 (fresh_table n) rs).left (part_of v n size 0 (fresh_table n) rs).text
into_by n size (Broken line) = cond (leb 33 size) (whole (broken_text line)) (cut [])

unfoldable pub into_of : ℕ → ℕ → List ℕ → Into
into_of n size s = into_by n size (trace_of s)

-- the answer of a replay into a buffer: the text's length, or how much of it had room
abbrev pub replayed : Into → Replayed
replayed (whole t) = Written (length t)
replayed (cut t) = NoRoom (length t)

pub record IntoFits (n : ℕ) (s xs ys : List ℕ) (r : Replayed) : Type 0 where
  pub says : r ≡ replayed (into_of n (length xs) s)
  pub text : ys ≡ spliced xs 0 (text_in (into_of n (length xs) s))

-- what putting the two lines of refusal 9 at the start leaves
pub record BrokenFits (line : ℕ) (xs ys : List ℕ) (r : Replayed) : Type 0 where
  pub says : r ≡ cond (leb 33 (length xs)) (Written (length (broken_text line))) (NoRoom 0)
  pub text : ys ≡ cond (leb 33 (length xs)) (spliced xs 0 (broken_text line)) xs

-- what putting the last line after `filled` bytes leaves
pub record EndFits (count filled : ℕ) (xs ys : List ℕ) (r : Replayed) : Type 0 where
  pub says :
      r
      ≡ cond (leb (filled + length (line_text records_key count)) (length xs))
      (Written (filled + length (line_text records_key count)))
      (NoRoom filled)
  pub text : ys ≡ written xs filled (line_text records_key count)
