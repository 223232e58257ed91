-- A whole text: a first line that is known, and items. Its text, and what is read of a text.
use Rattle.std.specs.Prelude.{ℕ, ◌+◌, ◌≤◌, ◌≡◌, cond, List, [], ◌∷◌, ◌++◌, ltb, length, take}
use Rattle.text.specs.Line.{joined}
use Rattle.grammar.specs.Names.{Names, name_line, NameAt, Named, Unknown, name_at}
use Rattle.grammar.specs.Items.{Form, Found, Items, Breaks, lines_of, AllGood, found_from}

-- a format: the first lines that are known, and the items that may follow each
pub record Format (H I : Type 0) : Type 1 where
  pub heads : Names H
  pub form : H → Form I

unfoldable pub first_line : {H I : Type 0} → Format H I → H → List ℕ
first_line t h = name_line t.heads h

-- the most bytes that a text may have
abbrev pub longest : ℕ
longest = 65536

-- the lines of a text, and the text
unfoldable pub text_lines : {H I : Type 0} → Format H I → H → List I → List (List ℕ)
text_lines t h xs = first_line t h ∷ lines_of (t.form h) xs

unfoldable pub whole_text : {H I : Type 0} → Format H I → H → List I → List ℕ
whole_text t h xs = joined (text_lines t h xs)

-- what a text is read as: its first line and its items, or the first line that breaks a rule; 0 stands for a text that is too long
pub data Read (H I : Type 0) : Type 0 where
  Whole : H → List I → Read H I
  Broken : ℕ → Read H I

abbrev pub under : {H I : Type 0} → H → Found I → Read H I
under h (Items xs) = Whole h xs
under h (Breaks k) = Broken k

abbrev pub on_head : {H I : Type 0} → NameAt H → (H → ℕ → Read H I) → Read H I
on_head (Named h e) f = f h e
on_head Unknown f = Broken 1

-- the length is tested first, then the first line
unfoldable pub read_text : {H I : Type 0} → Format H I → List ℕ → Read H I
read_text t s =
    cond (ltb longest (length s))
    (Broken 0)
    (on_head (name_at t.heads s 0) (λ h e. under h (found_from (t.form h) s e 1)))

-- the same, with the number of the items in their place
pub data Count (H : Type 0) : Type 0 where
  Many : H → ℕ → Count H
  Refused : ℕ → Count H

abbrev pub counted : {H I : Type 0} → Read H I → Count H
counted (Whole h xs) = Many h (length xs)
counted (Broken k) = Refused k

unfoldable pub count_text : {H I : Type 0} → Format H I → List ℕ → Count H
count_text t s = counted (read_text t s)

-- the same in a code's own words
abbrev pub say_count : {H A : Type 0} → (H → ℕ → A) → (ℕ → A) → Count H → A
say_count whole broken (Many h n) = whole h n
say_count whole broken (Refused k) = broken k

-- s begins with the first k lines of some text of this format, each with its newline
pub record Opens {H I : Type 0} (t : Format H I) (k : ℕ) (s : List ℕ) : Type 0 where
  pub head : H
  pub items : List I
  pub good : AllGood (t.form head) items
  pub enough : k ≤ length (text_lines t head items)
  pub rest : List ℕ
  pub text : s ≡ joined (take k (text_lines t head items)) ++ rest

-- line k + 1 is the first that breaks a rule: s begins with the first k lines of some text of this format, and with no first k + 1
pub record FirstBroken {H I : Type 0} (t : Format H I) (k : ℕ) (s : List ℕ) : Type 0 where
  pub before : Opens t k s
  pub broken : Opens t (k + 1) s → ⊥
