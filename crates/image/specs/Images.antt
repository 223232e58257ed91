-- The image of a table (SPEC 18.3).
use Rattle.std.specs.Prelude.{ℕ, ◌+◌, ◌*◌, ◌≤◌, ◌≡◌, cond, List, [], ◌∷◌, ◌++◌, eqb, length, Result, Ok, Err}
use Rattle.kinds.specs.Kinds.{top, pin_count}
use Rattle.kinds.specs.declared.refusal.Refusal.{Refusal}
use Rattle.kinds.specs.declared.refusal.Refusal.TheVariants.{BadImage}
use Rattle.model.specs.declared.Counters.{Counters}
use Rattle.model.specs.declared.Table.{Table}
use Rattle.model.specs.Tables.{counted, lent, clock_of, sample_of, line_of}
use Rattle.image.specs.Words.{word_bytes, words_bytes, word_at, words_from, Words}

-- slot after slot: its txid, then its snapshot_xmin
unfoldable pub slots_bytes : List ℕ → List ℕ → List ℕ
slots_bytes [] ys = []
slots_bytes (x ∷ xs) [] = []
slots_bytes (x ∷ xs) (y ∷ ys) = word_bytes x ++ (word_bytes y ++ slots_bytes xs ys)

abbrev pub counters_bytes : Counters → List ℕ
counters_bytes c = words_bytes (c.clock ∷ c.sampled_clock ∷ c.vacuum_line ∷ [])

-- the slots, then the pins, then clock, sample and line
unfoldable pub image_of : Table → List ℕ
image_of t = slots_bytes t.txids t.snapshot_xmins ++ (words_bytes t.pins ++ counters_bytes t.counters)

-- where the pins and the counters begin, and how many bytes the image of a table of n slots has
abbrev pub pins_from : ℕ → ℕ
pins_from n = 16 * n

abbrev pub counters_from : ℕ → ℕ
counters_from n = pins_from n + 8 * pin_count

abbrev pub image_size : ℕ → ℕ
image_size n = counters_from n + 24

-- the table of n slots that bytes say
abbrev pub counters_at : List ℕ → ℕ → Counters
counters_at s at = counted (word_at s at) (word_at s (at + 8)) (word_at s (at + 16))

unfoldable pub table_of : ℕ → List ℕ → Table
table_of n s =
    lent (words_from n s 0 16) (words_from n s 8 16) (words_from pin_count s (pins_from n) 8) (counters_at s (counters_from n))

-- what bytes are read as: a table, or a refusal
abbrev pub ImageRead : Type 0
ImageRead = Result Table Refusal

-- 18, for bytes of any other length
abbrev pub no_image : ImageRead
no_image = Err BadImage

abbrev pub whole : ℕ → List ℕ → ImageRead
whole n s = Ok (table_of n s)

unfoldable pub image_read : ℕ → List ℕ → ImageRead
image_read n s = cond (eqb (length s) (image_size n)) (whole n s) no_image

-- a table that some image says: n slots, all pins, and numbers of 64 bits
pub record Expressible (n : ℕ) (t : Table) : Type 0 where
  pub txids : length t.txids ≡ n
  pub xmins : length t.snapshot_xmins ≡ n
  pub txid : Words t.txids
  pub xmin : Words t.snapshot_xmins
  pub pins : length t.pins ≡ pin_count
  pub pin : Words t.pins
  pub clock : clock_of t ≤ top
  pub sample : sample_of t ≤ top
  pub line : line_of t ≤ top
