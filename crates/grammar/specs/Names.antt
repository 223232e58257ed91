-- A line that names one of some kinds: its text, and what is read of a text.
use Rattle.std.specs.Prelude.{ℕ, ◌+◌, cond, List, [], ◌∷◌, ◌++◌, length, drop}
use Rattle.text.specs.Bytes.{starts}

-- the key of such a line, the kinds that it can name, and their names, each with the newline that ends its line
pub record Names (K : Type 0) : Type 0 where
  pub key : List ℕ
  pub kinds : List K
  pub name : K → List ℕ

unfoldable pub name_line : {K : Type 0} → Names K → K → List ℕ
name_line w k = w.key ++ w.name k

-- the kind that is named at a place, with the place past its line, or none
pub data NameAt (K : Type 0) : Type 0 where
  Named : K → ℕ → NameAt K
  Unknown : NameAt K

-- the first of some kinds whose name stands at `at`
unfoldable pub first_named : {K : Type 0} → (K → List ℕ) → List K → List ℕ → ℕ → NameAt K
first_named name [] s at = Unknown
first_named name (k ∷ ks) s at = cond (starts (name k) (drop at s)) (Named k (at + length (name k))) (first_named name ks s at)

unfoldable pub name_at : {K : Type 0} → Names K → List ℕ → ℕ → NameAt K
name_at w s at = cond (starts w.key (drop at s)) (first_named w.name w.kinds s (at + length w.key)) Unknown

-- one answer where a name stands at `at`, and another where it doesn't
unfoldable pub if_named : {A : Type 0} → List ℕ → ℕ → List ℕ → A → A → A
if_named s at name this other = cond (starts name (drop at s)) this other

-- the same in a code's own words
abbrev pub say_name : {K A : Type 0} → (K → ℕ → A) → A → NameAt K → A
say_name named unknown (Named k e) = named k e
say_name named unknown Unknown = unknown
