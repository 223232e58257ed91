-- An item of six lines: a line that names its kind, and five lines of numbers. What is read of a text, and the item's lines.
use Rattle.std.specs.Prelude.{ℕ, ◌≡◌, Bool, true, cond, List, ◌∷◌}
use Rattle.text.specs.FiveLines.{Fits, five_lines, fields_at}
use Rattle.text.specs.declared.Reads.{Reads}
use Rattle.text.specs.declared.Values.{Values}
use Rattle.text.specs.Fields.{Fields}
use Rattle.text.specs.Fields as fields
use Rattle.grammar.specs.Names.{Names, name_line, NameAt, Named, Unknown, name_at}
use Rattle.grammar.specs.Items.{ItemAt, Is, Broken, Form}

-- items of some kinds: the key of the fourth line, the numbers that each kind reads, and an item as its kind and its numbers
pub record Shape (K I : Type 0) : Type 0 where
  pub names : Names K
  pub fourth : List ℕ
  pub reads : K → Reads
  pub item : K → Values → I
  pub kind : I → K
  pub values : I → Values

abbrev pub on_name : {K I : Type 0} → NameAt K → (K → ℕ → ItemAt I) → ItemAt I
on_name (Named k e) f = f k e
on_name Unknown f = Broken 1

abbrev pub on_fields : {I : Type 0} → (Values → I) → Fields → ItemAt I
on_fields f (fields.Are v e) = Is (f v) e
on_fields f (fields.Broken k) = Broken k

-- the item at `at`, of a kind that is allowed there, or the first of its six lines that breaks a rule
unfoldable pub item_at : {K I : Type 0} → Shape K I → (K → Bool) → List ℕ → ℕ → ItemAt I
item_at w allowed s at =
    on_name (name_at w.names s at) λ k a.
    cond (allowed k) (on_fields (w.item k) (fields_at s a w.fourth (w.reads k))) (Broken 1)

-- the six lines of an item
unfoldable pub six_lines : {K I : Type 0} → Shape K I → I → List (List ℕ)
six_lines w x = name_line w.names (w.kind x) ∷ five_lines w.fourth (w.reads (w.kind x)) (w.values x)

-- an item that a text can express: its kind is allowed, and no number is above the limit that the kind sets
pub record Expressed {K I : Type 0} (w : Shape K I) (allowed : K → Bool) (x : I) : Type 0 where
  pub permitted : allowed (w.kind x) ≡ true
  pub fits : Fits w.fourth (w.reads (w.kind x)) (w.values x)

abbrev pub form_of : {K I : Type 0} → Shape K I → (K → Bool) → Form I
form_of w allowed = record { at = item_at w allowed; lines = six_lines w; Good = Expressed w allowed }
