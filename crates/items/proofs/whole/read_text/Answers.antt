use mathlib.Core.Path.{sym, ◌∙◌}
use native.Mathlib.Omega.{arith}
use borrow.Author.Tests.{lt-ltb, le-ltb}
use Rattle.std.proofs.Common.{rules}
use Rattle.grammar.specs.Texts.{count_text, read_text}
use Rattle.grammar.proofs.Laws.{under_facts}
use Rattle.grammar.proofs.Count.{stands_start, stands_next, stands_small, stands_broken, stands_end}
use Rattle.items.proofs.Said.{head_is, item_is}
use Rattle.items.proofs.whole.read_text.Goals as goal

pub returns-then-s-gt-LONGEST : goal.returns-then-s-gt-LONGEST
unfolding count_text read_text
returns-then-s-gt-LONGEST g c = rw (lt-ltb _ _ c.if-s-gt-LONGEST.true)

pub returns-in_err-head : goal.returns-in_err-head
unfolding count_text read_text
returns-in_err-head g c =
    let none = head_is g.F.Format.grammar _ (sym c.head_at.ensures ∙ c.in_err-head.ensures.ok_part) in
    rw (le-ltb _ _ c.if-s-gt-LONGEST.false, none) (search rules)

pub loop-at-init : goal.loop-at-init
loop-at-init g c =
    let head = head_is g.F.Format.grammar _ (sym c.head_at.ensures ∙ c.in_ok-head.ensures.ok_part) in
    stands_start g.F.Format.grammar g.met.F.Format.laws _ _ _ c.if-s-gt-LONGEST.false head

pub loop-at-smaller : goal.loop-at-smaller
loop-at-smaller g c =
    let read = item_is g.F.Format.grammar _ _ _ (sym c.item_under.ensures ∙ c.in-Ok.is) in
    let m = (under_facts g.F.Format.grammar g.met.F.Format.laws _).moves _ _ _ _ read in
    omega (arith, m.0, m.1)

pub loop-at-preserved : goal.loop-at-preserved
loop-at-preserved g c =
    let read = item_is g.F.Format.grammar _ _ _ (sym c.item_under.ensures ∙ c.in-Ok.is) in
    stands_next g.F.Format.grammar g.met.F.Format.laws _ _ _ _ _ _ c.loop-at.invariant read

pub overflow_add-result-in-Err : goal.overflow_add-result-in-Err
overflow_add-result-in-Err g c =
    let read = item_is g.F.Format.grammar _ _ _ (sym c.item_under.ensures ∙ c.in-Err.is) in
    let small = stands_small g.F.Format.grammar g.met.F.Format.laws _ _ _ _ _ c.loop-at.invariant read in
    omega (arith, small)

pub returns-in-Err : goal.returns-in-Err
returns-in-Err g c =
    let read = item_is g.F.Format.grammar _ _ _ (sym c.item_under.ensures ∙ c.in-Err.is) in
    rw (stands_broken g.F.Format.grammar g.met.F.Format.laws _ _ _ _ _ c.loop-at.invariant c.loop-at-test.true read)

pub returns : goal.returns
returns g c = rw (stands_end g.F.Format.grammar g.met.F.Format.laws _ _ _ _ c.loop-at.invariant c.loop-at-test.false)
