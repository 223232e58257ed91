-- The grammar of a text of named items: all that a text gives of itself. A trace is one such text, a wait another.
use Rattle.std.specs.Prelude.{ℕ, Bool, true}
use Rattle.grammar.specs.Names.{Names}
use Rattle.grammar.specs.Items.{Form}
use Rattle.grammar.specs.Named.{Shape, form_of}
use Rattle.grammar.specs.Texts.{Format}

-- the first lines that are known, and the place past any of them; an item's shape, and the kinds that a first line allows
pub record Grammar (H K I : Type 0) : Type 0 where
  pub heads : Names H
  pub first : ℕ
  pub shape : Shape K I
  pub allowed : H → K → Bool

abbrev pub format_of : {H K I : Type 0} → Grammar H K I → Format H I
format_of g = record { heads = g.heads; form = λ h. form_of g.shape (g.allowed h) }

-- items under any first line
abbrev pub every_kind : {K : Type 0} → K → Bool
every_kind k = true

abbrev pub any_form : {H K I : Type 0} → Grammar H K I → Form I
any_form g = form_of g.shape every_kind
