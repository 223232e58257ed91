-- What the grammar asks of traces, proved by computing: ops and headers are found where they stand, each of their lines is one line,
-- all headers have one length, and each allows some op.
use Prim.Native.Nat.{ℕ, ◌+◌}
use mathlib.Core.Path.{◌≡◌, refl}
use mathlib.Core.List.{List, ◌++◌}
use mathlib.Core.Bool.{true}
use lib.ListN.{length, drop}
use Rattle.text.specs.Bytes.{starts}
use Rattle.text.specs.Line.{one_line}
use Rattle.grammar.specs.Names.{name_line, Named, first_named}
use Rattle.grammar.proofs.Named.{ShapeLaws}
use Rattle.grammar.proofs.Facts.{Facts, Laws}
use Rattle.grammar.proofs.Laws as grammar
use Rattle.grammar.proofs.Laws.{GrammarLaws, format_laws}
use Rattle.trace.specs.Op.{op_name, ops, op_names}
use Rattle.trace.specs.Version.{version_name, versions, header_of, allowed}
use Rattle.trace.specs.Record.{record_shape, any_form}
use Rattle.trace.specs.Trace.{first_record, trace_grammar, trace_format}
use Rattle.trace.specs.declared.Op.{Op}
use Rattle.trace.specs.declared.Op.TheVariants.{Begin, End, Snap, Own, Oldest, Vacuum, Stamp, Finish, Pin, Unpin}
use Rattle.trace.specs.declared.Version.{Version}
use Rattle.trace.specs.declared.Version.TheVariants.{Proc1, Proc2, Proc3}

op_found : (o : Op) (s : List ℕ) (at : ℕ) (rest : List ℕ) → drop at s ≡ op_name o ++ rest
    → first_named op_name ops s at ≡ Named o (at + length (op_name o))
unfolding starts first_named
op_found Begin s at rest e = rw e
op_found End s at rest e = rw e
op_found Snap s at rest e = rw e
op_found Own s at rest e = rw e
op_found Oldest s at rest e = rw e
op_found Vacuum s at rest e = rw e
op_found Stamp s at rest e = rw e
op_found Finish s at rest e = rw e
op_found Pin s at rest e = rw e
op_found Unpin s at rest e = rw e

op_one : (o : Op) → one_line (name_line op_names o) ≡ true
unfolding one_line name_line
op_one Begin = refl
op_one End = refl
op_one Snap = refl
op_one Own = refl
op_one Oldest = refl
op_one Vacuum = refl
op_one Stamp = refl
op_one Finish = refl
op_one Pin = refl
op_one Unpin = refl

record_laws : ShapeLaws record_shape
unfolding one_line
record_laws = record {
  names = record { found = op_found; one = op_one };
  again = λ r. refl;
  kind_is = λ o v. refl;
  values_are = λ o v. refl;
  plain = λ t. refl;
}

version_found : (v : Version) (s : List ℕ) (at : ℕ) (rest : List ℕ) → drop at s ≡ version_name v ++ rest
    → first_named version_name versions.kinds s at ≡ Named v (at + length (version_name v))
unfolding starts first_named
version_found Proc1 s at rest e = rw e
version_found Proc2 s at rest e = rw e
version_found Proc3 s at rest e = rw e

version_one : (v : Version) → one_line (header_of v) ≡ true
unfolding one_line name_line
version_one Proc1 = refl
version_one Proc2 = refl
version_one Proc3 = refl

pub header-length : (v : Version) → length (header_of v) ≡ first_record
unfolding name_line
header-length Proc1 = refl
header-length Proc2 = refl
header-length Proc3 = refl

begin-allowed : (v : Version) → allowed v Begin ≡ true
unfolding allowed
begin-allowed Proc1 = refl
begin-allowed Proc2 = refl
begin-allowed Proc3 = refl

pub trace_grammar_lem : GrammarLaws trace_grammar
trace_grammar_lem = record {
  heads = record { found = version_found; one = version_one };
  long = header-length;
  shape = record_laws;
  head = Proc1;
  kind = Begin;
  allowed = begin-allowed;
}

-- so traces have all of the grammar's laws
pub trace_laws : Laws trace_format
trace_laws = format_laws trace_grammar trace_grammar_lem

pub any_facts : Facts any_form
any_facts = grammar.any_facts trace_grammar trace_grammar_lem
