-- The keys of the text lines of a trace, of its output, of a wait and of a table (SPEC 9.1, 10.2, 16), each with its `=`.
use Rattle.std.specs.Prelude.{ℕ, List}
use Rattle.text.specs.Bytes.{bytes}

-- of a record
abbrev pub op_key : List ℕ
op_key = bytes "op="

abbrev pub slot_key : List ℕ
slot_key = bytes "slot="

abbrev pub id_key : List ℕ
id_key = bytes "id="

abbrev pub stamp_key : List ℕ
stamp_key = bytes "stamp="

abbrev pub clock_key : List ℕ
clock_key = bytes "clock="

abbrev pub sample_key : List ℕ
sample_key = bytes "sample="

-- of an answer, where `slot` and `id` stand again
abbrev pub answer_key : List ℕ
answer_key = bytes "answer="

abbrev pub seen_key : List ℕ
seen_key = bytes "seen="

abbrev pub xmin_key : List ℕ
xmin_key = bytes "xmin="

abbrev pub xmax_key : List ℕ
xmax_key = bytes "xmax="

abbrev pub vacuum_key : List ℕ
vacuum_key = bytes "vacuum="

abbrev pub count_key : List ℕ
count_key = bytes "count="

abbrev pub holder_key : List ℕ
holder_key = bytes "holder="

abbrev pub in_key : List ℕ
in_key = bytes "in="

-- of a run's end, and of refusal 9
abbrev pub records_key : List ℕ
records_key = bytes "records="

abbrev pub at_key : List ℕ
at_key = bytes "at="

-- of a table, where `xmin`, `clock` and `sample` stand again
abbrev pub txid_key : List ℕ
txid_key = bytes "txid="

abbrev pub line_key : List ℕ
line_key = bytes "line="
