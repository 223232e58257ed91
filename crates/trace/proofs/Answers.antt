-- What the answers of this crate's code mean in the grammar's words.
use Prim.Native.Nat.{ℕ}
use mathlib.Core.Path.{◌≡◌, refl}
use mathlib.Core.List.{List}
use Rattle.grammar.specs.Names.{NameAt, Named, name_at}
use Rattle.grammar.specs.Names as name
use Rattle.grammar.specs.Items.{ItemAt}
use Rattle.grammar.specs.Items as item
use Rattle.grammar.specs.Texts.{Count, Many, Refused, count_text}
use Rattle.grammar.proofs.Said.{name_said, item_said, count_said}
use Rattle.trace.specs.Op.{op_names, op_at}
use Rattle.trace.specs.Version.{versions, header_at}
use Rattle.trace.specs.Record.{record_form, any_form, record_under, record_at}
use Rattle.trace.specs.Trace.{trace_format, reading}
use Rattle.trace.specs.declared.Op.{Op}
use Rattle.trace.specs.declared.Version.{Version}
use Rattle.trace.specs.declared.Record.{Record}
use Rattle.trace.specs.RecordAt.{RecordAt, Is, Broken}
use Rattle.trace.specs.Reading.{Reading}
use Rattle.trace.specs.Reading as reading
use Rattle.trace.specs.OpAt.{OpAt}
use Rattle.trace.specs.OpAt as op
use Rattle.trace.specs.HeaderAt.{HeaderAt}
use Rattle.trace.specs.HeaderAt as header

abbrev pub op_meant : OpAt → NameAt Op
op_meant (op.Is o e) = Named o e
op_meant op.Unknown = name.Unknown

abbrev pub header_meant : HeaderAt → NameAt Version
header_meant (header.Is v e) = Named v e
header_meant header.Unknown = name.Unknown

abbrev pub record_meant : RecordAt → ItemAt Record
record_meant (Is r e) = item.Is r e
record_meant (Broken k) = item.Broken k

abbrev pub reading_meant : Reading → Count Version
reading_meant (reading.Whole v n) = Many v n
reading_meant (reading.Broken k) = Refused k

module _ (s : List ℕ) where
  pub header_is : {a : HeaderAt} → header_at s ≡ a → name_at versions s 0 ≡ header_meant a
  unfolding header_at
  header_is h = name_said header.Is header.Unknown header_meant (λ v e. refl) refl (name_at versions s 0) h

  pub reading_is : {a : Reading} → reading s ≡ a → count_text trace_format s ≡ reading_meant a
  unfolding reading
  reading_is h = count_said reading.Whole reading.Broken reading_meant (λ v n. refl) (λ k. refl) (count_text trace_format s) h

  module _ (at : ℕ) where
    pub op_is : {a : OpAt} → op_at s at ≡ a → name_at op_names s at ≡ op_meant a
    unfolding op_at
    op_is h = name_said op.Is op.Unknown op_meant (λ o e. refl) refl (name_at op_names s at) h

    pub record_is : {a : RecordAt} → record_at s at ≡ a → any_form.at s at ≡ record_meant a
    unfolding record_at
    record_is h = item_said Is Broken record_meant (λ r e. refl) (λ k. refl) (any_form.at s at) h

    pub under_is : (v : Version) {a : RecordAt} → record_under v s at ≡ a → (record_form v).at s at ≡ record_meant a
    unfolding record_under
    under_is v h = item_said Is Broken record_meant (λ r e. refl) (λ k. refl) ((record_form v).at s at) h
