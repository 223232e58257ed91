-- What a code says, in its own words, for the grammar's answers, and what its words mean: a text gives their meaning, word by word.
use Prim.Native.Nat.{ℕ, ◌+◌}
use mathlib.Core.Path.{◌≡◌, refl, sym, ap, ◌∙◌}
use mathlib.Core.List.{List, [], ◌∷◌}
use mathlib.Core.Bool.{Bool, true, false, cond}
use lib.ListN.{length, drop}
use Rattle.text.specs.Bytes.{starts}
use Rattle.grammar.specs.Names.{NameAt, Named, Unknown, first_named, if_named, say_name}
use Rattle.grammar.specs.Items.{ItemAt, Is, Broken, say_item}
use Rattle.grammar.specs.Texts.{Count, Many, Refused, say_count}

module _ {K A : Type 0} (named : K → ℕ → A) (unknown : A) where
  pub name_said : (means : A → NameAt K) → ((k : K) (e : ℕ) → means (named k e) ≡ Named k e) → means unknown ≡ Unknown
      → (x : NameAt K) {a : A} → say_name named unknown x ≡ a → x ≡ means a
  name_said means p q (Named k e) h = sym (p k e) ∙ ap means h
  name_said means p q Unknown h = sym q ∙ ap means h

  -- names that are tried one after the other, the last one first, are the first name
  abbrev pub tried : (K → List ℕ) → List K → List ℕ → ℕ → A
  tried name [] s at = unknown
  tried name (k ∷ ks) s at = if_named s at (name k) (named k (at + length (name k))) (tried name ks s at)

  pub first_tried : (name : K → List ℕ) (ks : List K) (s : List ℕ) (at : ℕ)
      → tried name ks s at ≡ say_name named unknown (first_named name ks s at)
  unfolding if_named first_named
  first_tried name [] s at = refl
  first_tried name (k ∷ ks) s at = go (starts (name k) (drop at s)) (first_tried name ks s at)
    where
      go : (b : Bool) → tried name ks s at ≡ say_name named unknown (first_named name ks s at)
          → cond b (named k (at + length (name k))) (tried name ks s at)
          ≡ say_name named unknown (cond b (Named k (at + length (name k))) (first_named name ks s at))
      go true ih = refl
      go false ih = ih

module _ {I A : Type 0} (is : I → ℕ → A) (broken : ℕ → A) where
  pub item_said : (means : A → ItemAt I) → ((x : I) (e : ℕ) → means (is x e) ≡ Is x e) → ((k : ℕ) → means (broken k) ≡ Broken k)
      → (x : ItemAt I) {a : A} → say_item is broken x ≡ a → x ≡ means a
  item_said means p q (Is x e) h = sym (p x e) ∙ ap means h
  item_said means p q (Broken k) h = sym (q k) ∙ ap means h

module _ {H A : Type 0} (whole : H → ℕ → A) (broken : ℕ → A) where
  pub count_said : (means : A → Count H) → ((h : H) (n : ℕ) → means (whole h n) ≡ Many h n) → ((k : ℕ) → means (broken k) ≡ Refused k)
      → (x : Count H) {a : A} → say_count whole broken x ≡ a → x ≡ means a
  count_said means p q (Many h n) e = sym (p h n) ∙ ap means e
  count_said means p q (Refused k) e = sym (q k) ∙ ap means e
