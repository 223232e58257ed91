-- What the code's answers mean in the grammar's words, whatever the grammar.
use Prim.Native.Nat.{ℕ}
use mathlib.Core.Path.{◌≡◌, refl}
use mathlib.Core.List.{List}
use Rattle.std.specs.Prelude.{Option, Some, None, Result, Ok, Err}
use Rattle.grammar.specs.Names.{NameAt, Named, Unknown, name_at}
use Rattle.grammar.specs.Items.{ItemAt, Is, Broken}
use Rattle.grammar.specs.Named.{Shape}
use Rattle.grammar.specs.Grammar.{Grammar, format_of}
use Rattle.grammar.proofs.Said.{name_said, item_said}
use Rattle.items.specs.Said as says

abbrev pub name_meant : {H : Type 0} → Option (H × ℕ) → NameAt H
name_meant (Some (h, e)) = Named h e
name_meant None = Unknown

abbrev pub item_meant : {I : Type 0} → Result (I × ℕ) ℕ → ItemAt I
item_meant (Ok (x, e)) = Is x e
item_meant (Err k) = Broken k

module _ {K I : Type 0} (w : Shape K I) (s : List ℕ) (at : ℕ) where
  pub kind_is : {a : Option (K × ℕ)} → says.kind_said w s at ≡ a → name_at w.names s at ≡ name_meant a
  kind_is h = name_said (λ k e. Some (k, e)) None name_meant (λ k e. refl) refl (name_at w.names s at) h

module _ {H K I : Type 0} (g : Grammar H K I) (s : List ℕ) where
  pub head_is : {a : Option (H × ℕ)} → says.head_said g s ≡ a → name_at g.heads s 0 ≡ name_meant a
  head_is h = name_said (λ h e. Some (h, e)) None name_meant (λ h e. refl) refl (name_at g.heads s 0) h

  pub item_is : (h : H) (at : ℕ) {a : Result (I × ℕ) ℕ} → says.item_said g h s at ≡ a → ((format_of g).form h).at s at ≡ item_meant a
  item_is h at e = item_said (λ x e. Ok (x, e)) (λ k. Err k) item_meant (λ x e. refl) (λ k. refl) (((format_of g).form h).at s at) e
