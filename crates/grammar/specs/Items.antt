-- Items of six lines each, one after the other: their text, and what is read of a text. What an item is, its `Form` says.
use Rattle.std.specs.Prelude.{ℕ, zero, suc, ◌+◌, ◌-◌, ◌≡◌, cond, List, [], ◌∷◌, ◌++◌, eqb, length}
use Rattle.text.specs.Line.{joined}

-- what stands at a place: an item, with the place past it, or the first of its six lines, from 1, that breaks a rule
pub data ItemAt (I : Type 0) : Type 0 where
  Is : I → ℕ → ItemAt I
  Broken : ℕ → ItemAt I

-- the same in a code's own words
abbrev pub say_item : {I A : Type 0} → (I → ℕ → A) → (ℕ → A) → ItemAt I → A
say_item is broken (Is x e) = is x e
say_item is broken (Broken k) = broken k

-- a kind of item: what is read at a place, the lines of an item, and which items a text can express
pub record Form (I : Type 0) : Type 1 where
  pub at : List ℕ → ℕ → ItemAt I
  pub lines : I → List (List ℕ)
  pub Good : I → Type 0

unfoldable pub item_text : {I : Type 0} → Form I → I → List ℕ
item_text f x = joined (f.lines x)

-- the lines of some items
unfoldable pub lines_of : {I : Type 0} → Form I → List I → List (List ℕ)
lines_of f [] = []
lines_of f (x ∷ xs) = f.lines x ++ lines_of f xs

-- items that a text can express, each of them
pub data AllGood {I : Type 0} (f : Form I) : List I → Type 0 where
  none : AllGood f []
  also : {x : I} {xs : List I} → f.Good x → AllGood f xs → AllGood f (x ∷ xs)

-- what the rest of a text is read as: items, or the first line that breaks a rule
pub data Found (I : Type 0) : Type 0 where
  Items : List I → Found I
  Breaks : ℕ → Found I

abbrev pub with_first : {I : Type 0} → I → Found I → Found I
with_first x (Items xs) = Items (x ∷ xs)
with_first x (Breaks k) = Breaks k

abbrev pub on_item : {I : Type 0} → ItemAt I → ℕ → (ℕ → Found I) → Found I
on_item (Is x e) before f = with_first x (f e)
on_item (Broken k) before f = Breaks (before + k)

-- what stands from `at` to the end, where `before` lines stand before it; the first number bounds how many items are tried
unfoldable pub found_in : {I : Type 0} → Form I → ℕ → List ℕ → ℕ → ℕ → Found I
found_in f zero s at before = Breaks (before + 1)
found_in f (suc more) s at before =
    cond (eqb at (length s))
    (Items [])
    (on_item (f.at s at) before (λ e. found_in f more s e (before + 6)))

-- no more items than bytes are left, and one more try finds the end
unfoldable pub found_from : {I : Type 0} → Form I → List ℕ → ℕ → ℕ → Found I
found_from f s at before = found_in f (length s - at + 1) s at before

abbrev pub listed : {I : Type 0} → Found I → List I
listed (Items xs) = xs
listed (Breaks k) = []

-- the items that are left from `at` on
unfoldable pub items_from : {I : Type 0} → Form I → List ℕ → ℕ → List I
items_from f s at = listed (found_from f s at 0)

-- from `at` on the text is those items and nothing else: where a loop over the items stands
abbrev pub Boundary : {I : Type 0} → Form I → List ℕ → ℕ → Type 0
Boundary f s at = found_from f s at 0 ≡ Items (items_from f s at)
