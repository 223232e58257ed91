-- Whole replays on a table of two slots, computed: `refl` with every definition from the bytes that are read to the bytes that are
-- printed opened. specs/Examples has the texts.
use mathlib.Core.Path.{refl}
use lib.ListN.{length}
use borrow.Author.Tests.{lt-ltb}
use Rattle.kinds.specs.Kinds.{free_pins}
use Rattle.kinds.specs.Refusals.{told, consumed}
use Rattle.settled.specs.Snapshots.{no_snapshot}
use Rattle.model.specs.Tally.{active, retained, holder_from, lowest_empty, minimum, maximum, snapshot_of}
use Rattle.model.specs.Tables.{fresh_table}
use Rattle.model.specs.Answers.{tells_of, xmin_told, holder_told, numbers_of}
use Rattle.model.specs.Calls.{refusal, change_accepted, spent, change_of, after, answer_accepted, answer, shown_accepted, shown}
use Rattle.text.specs.Decimal.{decimal_in, decimal, number_text, number_tail, number_from, number_at}
use Rattle.text.specs.Bytes.{starts}
use Rattle.text.specs.Line.{line_text, field_at, lines_at}
use Rattle.text.specs.FiveLines.{limit, field_rules, fields_at}
use Rattle.grammar.specs.Names.{name_line, first_named, name_at}
use Rattle.grammar.specs.Items.{found_in, found_from}
use Rattle.grammar.specs.Named.{item_at}
use Rattle.grammar.specs.Texts.{read_text}
use Rattle.trace.specs.Version.{allowed}
use Rattle.output.specs.Output.{told_lines, rest_lines, holder_line, in_lines, answer_text, printed}
use Rattle.step.specs.Named.{call_of}
use Rattle.replay_text.specs.Replay.{text_of, broken_text, agree_line, replay_of}
use Rattle.replay_text.specs.Examples.{reads_of, prints_of, every_refusal, who_holds, Examples}

pub examples : Examples
unfolding
    reads_of prints_of every_refusal who_holds
    replay_of text_of broken_text agree_line call_of printed answer_text told_lines rest_lines holder_line in_lines line_text number_text decimal decimal_in
    told consumed no_snapshot active retained holder_from lowest_empty minimum maximum snapshot_of free_pins fresh_table
    tells_of xmin_told holder_told numbers_of refusal change_accepted spent change_of after answer_accepted answer shown_accepted shown
    read_text name_at first_named name_line found_from found_in item_at allowed fields_at field_rules limit
    lines_at field_at number_at number_from number_tail starts
examples = record {
  whole-case = refl;
  whole-case-2 = refl;
  holders = refl;
  every_refusal_lem = refl;
  no_record = refl;
  no_record_3 = refl;
  empty = refl;
  carriage_return = refl;
  carriage_return_later = refl;
  open-last-line = refl;
  too_long_lem = λ n s h. rw (lt-ltb 65536 (length s) h);
}
