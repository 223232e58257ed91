-- What a call in place answers, and what it leaves in the host's runs: the model's call on the table that the words say. Where the
-- runs have no fitting lengths nothing is called and nothing is written.
use Rattle.std.specs.Prelude.{ℕ, cond, List, eqb, length}
use Rattle.std.proofs.lemmas.List.Edits.{sets}
use Rattle.model.specs.declared.Table.{Table}
use Rattle.model.specs.declared.answer.Numbers.{Numbers}
use Rattle.model.specs.Tables.{line_of}
use Rattle.model.specs.Answers.{numbers_beside, listing}
use Rattle.model.specs.Calls.{Call, after, answer, shown}
use Rattle.place.specs.Words.{table_of, words_of}
use Rattle.place.specs.Shapes.{answer_words, shape_of, list_shape}

-- a call's answer in numbers
unfoldable pub said : ℕ → Table → Call → Numbers
said n t c = numbers_beside (answer n t c) (shown n t c) (line_of (after n t c))

module _ (shape n : ℕ) (table : List ℕ) (c : Call) where
  -- the number answered: of the shape, or of the call's refusal, or 0
  unfoldable pub number_by : ℕ
  number_by = cond (eqb shape 0) (said n (table_of n table) c).told.number shape

  -- the words of the table after the call
  unfoldable pub table_by : List ℕ
  table_by = cond (eqb shape 0) (words_of (after n (table_of n table) c)) table

  -- the answer's words in the first places of `out`; the others stay
  unfoldable pub out_by : List ℕ → List ℕ
  out_by out = cond (eqb shape 0) (sets out 0 (answer_words (said n (table_of n table) c))) out

  -- the ids listed in flight in the first places of `ids`; the others stay
  unfoldable pub ids_by : List ℕ → List ℕ
  ids_by ids = cond (eqb shape 0) (sets ids 0 (listing (shown n (table_of n table) c))) ids

module _ (n : ℕ) (table out : List ℕ) (c : Call) where
  abbrev pub number_of : ℕ
  number_of = number_by (shape_of n (length table) (length out)) n table c

  abbrev pub table_left : List ℕ
  table_left = table_by (shape_of n (length table) (length out)) n table c

  abbrev pub out_left : List ℕ
  out_left = out_by (shape_of n (length table) (length out)) n table c out

module _ (n : ℕ) (table out ids : List ℕ) (c : Call) where
  abbrev pub list_number : ℕ
  list_number = number_by (list_shape n (length table) (length out) (length ids)) n table c

  abbrev pub list_table : List ℕ
  list_table = table_by (list_shape n (length table) (length out) (length ids)) n table c

  abbrev pub list_out : List ℕ
  list_out = out_by (list_shape n (length table) (length out) (length ids)) n table c out

  abbrev pub list_ids : List ℕ
  list_ids = ids_by (list_shape n (length table) (length out) (length ids)) n table c ids
