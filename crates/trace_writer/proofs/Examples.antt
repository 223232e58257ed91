-- Runs of rows and what a writer answers, computed.
use mathlib.Core.Path.{◌≡◌, refl}
use mathlib.Core.List.{[], ◌∷◌, ◌++◌}
use Rattle.kinds.specs.declared.refusal.Refusal.TheVariants as refusal
use Rattle.text.specs.Bytes.{bytes}
use Rattle.text.specs.Decimal.{decimal, decimal_in, number_text}
use Rattle.text.specs.Line.{line_text, line_texts, joined}
use Rattle.text.specs.FiveLines.{field_rules, five_lines}
use Rattle.text.specs.Write.{spliced}
use Rattle.grammar.specs.Names.{name_line}
use Rattle.grammar.specs.Items.{lines_of}
use Rattle.grammar.specs.Named.{six_lines}
use Rattle.grammar.specs.Texts.{first_line, text_lines, whole_text}
use Rattle.trace.specs.Version.{allowed}
use Rattle.trace.specs.declared.Version.TheVariants.{Proc1, Proc2}
use Rattle.op_numbers.specs.Numbers.{try_number, op_numbered}
use Rattle.record_rows.specs.Rows.{may_be, allowed_by, of_op, record_row}
use Rattle.rows_measure.specs.Measuring.{row_under, records_of}
use Rattle.trace_writer.specs.Writing.{wrote_of, left_of}
use Rattle.trace_writer.specs.Wrote.{Length, Refused}

record Answers : Type 0 where
  -- no rows: the header alone, and a buffer exactly as long
  header_alone : wrote_of Proc1 [] 13 ≡ Length 13
  one_short : wrote_of Proc1 [] 12 ≡ Refused refusal.NoRoom
  -- the other header
  other_header : left_of Proc2 [] (bytes ".............!") ≡ bytes "trace=proc-2\n!"
  -- a row of zeros, and 20 before 12
  zeros : wrote_of Proc1 ((0 ∷ 0 ∷ 0 ∷ 0 ∷ 0 ∷ 0 ∷ []) ∷ []) 0 ≡ Refused refusal.BadRecord
  -- begin with the stamp 5, in a buffer of one byte more, which stays
  begins : left_of Proc1 ((1 ∷ 0 ∷ 0 ∷ 5 ∷ 0 ∷ 0 ∷ []) ∷ [])
      (bytes "..........................................................." ++ bytes "!")
      ≡ bytes "trace=proc-1\nop=begin\nslot=0\nid=0\nstamp=5\nclock=0\nsample=0\n" ++ bytes "!"

answers : Answers
unfolding wrote_of left_of records_of row_under record_row op_numbered try_number of_op allowed_by may_be allowed
    whole_text text_lines first_line name_line lines_of six_lines five_lines field_rules line_texts joined line_text number_text decimal
    decimal_in spliced
answers = record { header_alone = refl; one_short = refl; other_header = refl; zeros = refl; begins = refl }
