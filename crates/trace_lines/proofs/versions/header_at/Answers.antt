-- `header_at` meets its contract: the first lines that are known, one after the other. No two can stand in front.
use mathlib.Core.Path.{◌≡◌, sym, ◌∙◌}
use mathlib.Core.Bool.{false}
use mathlib.Core.List.{List}
use Prim.Native.Nat.{ℕ}
use lib.ListN.{drop}
use Rattle.text.specs.Bytes.{starts}
use Rattle.grammar.specs.Names.{name_line}
use Rattle.grammar.proofs.Laws.{head_is, no_head}
use Rattle.trace.specs.Version.{header_of, header_at}
use Rattle.trace.specs.Trace.{trace_grammar}
use Rattle.trace.specs.declared.Version.{Version}
use Rattle.trace.specs.declared.Version.TheVariants.{Proc1, Proc2, Proc3}
use Rattle.trace.proofs.Shape.{trace_grammar_lem}
use Rattle.trace_lines.proofs.versions.header_at.Goals as goal

none : (s : List ℕ) → starts (header_of Proc1) (drop 0 s) ≡ false → starts (header_of Proc2) (drop 0 s) ≡ false
    → starts (header_of Proc3) (drop 0 s) ≡ false → (v : Version) → starts (header_of v) (drop 0 s) ≡ false
none s p q r Proc1 = p
none s p q r Proc2 = q
none s p q r Proc3 = r

pub returns-then-bytes_at : goal.returns-then-bytes_at
unfolding header_at name_line
returns-then-bytes_at c = rw (head_is trace_grammar trace_grammar_lem _ Proc1 (sym c.bytes_at.ensures ∙ c.if-bytes_at.true))

pub returns-then-bytes_at-2 : goal.returns-then-bytes_at-2
unfolding header_at name_line
returns-then-bytes_at-2 c = rw (head_is trace_grammar trace_grammar_lem _ Proc2 (sym c.bytes_at-2.ensures ∙ c.if-bytes_at-2.true))

pub returns-then-bytes_at-3 : goal.returns-then-bytes_at-3
unfolding header_at name_line
returns-then-bytes_at-3 c = rw (head_is trace_grammar trace_grammar_lem _ Proc3 (sym c.bytes_at-3.ensures ∙ c.if-bytes_at-3.true))

pub returns : goal.returns
unfolding header_at name_line
returns c =
    let one = sym c.bytes_at.ensures ∙ c.if-bytes_at.false in
    let two = sym c.bytes_at-2.ensures ∙ c.if-bytes_at-2.false in
    rw (no_head trace_grammar trace_grammar_lem _ (none _ one two (sym c.bytes_at-3.ensures ∙ c.if-bytes_at-3.false)))
