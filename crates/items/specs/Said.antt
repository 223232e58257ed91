-- What code says of a text of some grammar: of a name, an item, the first line and the whole.
use Rattle.std.specs.Prelude.{ℕ, List, Option, Some, None, Result, Ok, Err}
use Rattle.text.specs.FiveLines.{fields_at}
use Rattle.grammar.specs.Names.{first_named, name_at, say_name}
use Rattle.grammar.specs.Items.{say_item}
use Rattle.grammar.specs.Named.{Shape, on_fields, item_at}
use Rattle.grammar.specs.Texts.{count_text, say_count}
use Rattle.grammar.specs.Grammar.{Grammar, format_of, every_kind}

-- the kind whose name stands at `at`, and the one whose line does, with the place past it
abbrev pub name_said : {K I : Type 0} → Shape K I → List ℕ → ℕ → Option (K × ℕ)
name_said w s at = say_name (λ k e. Some (k, e)) None (first_named w.names.name w.names.kinds s at)

abbrev pub kind_said : {K I : Type 0} → Shape K I → List ℕ → ℕ → Option (K × ℕ)
kind_said w s at = say_name (λ k e. Some (k, e)) None (name_at w.names s at)

-- the item of a kind whose line ends just before `at`, with the place past it, or the first of its lines that breaks a rule
abbrev pub after_said : {K I : Type 0} → Shape K I → List ℕ → K → ℕ → Result (I × ℕ) ℕ
after_said w s k at = say_item (λ x e. Ok (x, e)) (λ j. Err j) (on_fields (w.item k) (fields_at s at w.fourth (w.reads k)))

-- the item at `at`, whatever its kind
abbrev pub any_said : {K I : Type 0} → Shape K I → List ℕ → ℕ → Result (I × ℕ) ℕ
any_said w s at = say_item (λ x e. Ok (x, e)) (λ j. Err j) (item_at w every_kind s at)

-- the first line that stands in front, with the place past it
abbrev pub head_said : {H K I : Type 0} → Grammar H K I → List ℕ → Option (H × ℕ)
head_said g s = say_name (λ h e. Some (h, e)) None (name_at g.heads s 0)

-- the item at `at` under a first line
abbrev pub item_said : {H K I : Type 0} → Grammar H K I → H → List ℕ → ℕ → Result (I × ℕ) ℕ
item_said g h s at = say_item (λ x e. Ok (x, e)) (λ k. Err k) (((format_of g).form h).at s at)

-- the first line and the number of the items, or the first line that breaks a rule
abbrev pub text_said : {H K I : Type 0} → Grammar H K I → List ℕ → Result (H × ℕ) ℕ
text_said g s = say_count (λ h n. Ok (h, n)) (λ k. Err k) (count_text (format_of g) s)
