-- `head_at` meets its contract: the one first line, or none.
use Prim.Native.Nat.{ℕ}
use mathlib.Core.Path.{◌≡◌, refl, ◌∙◌}
use mathlib.Core.Bool.{Bool, true, false, cond}
use mathlib.Core.List.{List}
use lib.ListN.{drop}
use Rattle.std.specs.Prelude.{Some, None}
use Rattle.text.specs.Bytes.{starts}
use Rattle.grammar.specs.Names.{name_line}
use Rattle.grammar.proofs.Laws.{head_is, no_head}
use Rattle.items.specs.Said.{head_said}
use Rattle.events.specs.Wait.{Header, Wait1, headers, header, first_event, wait_grammar}
use Rattle.events.specs.Laws.{wait_grammar_lem}
use Rattle.events.proofs.whole.WaitFormat.head_at.Goals as goal

no_other : (s : List ℕ) → starts header (drop 0 s) ≡ false → (h : Header) → starts (name_line headers h) (drop 0 s) ≡ false
no_other s e Wait1 = e

in_front : (s : List ℕ) (b : Bool) → starts header (drop 0 s) ≡ b → cond b (Some (Wait1, first_event)) None ≡ head_said wait_grammar s
in_front s true e = rw (head_is wait_grammar wait_grammar_lem s Wait1 e)
in_front s false e = rw (no_head wait_grammar wait_grammar_lem s (no_other s e))

pub returns : goal.returns
unfolding name_line
returns c = c.named_at.ensures ∙ in_front c.args.s.now (starts header (drop 0 c.args.s.now)) refl
