-- What has to be proved of a kind of item, and of a format, for the laws of this crate to hold of it.
use Prim.Native.Nat.{ℕ, ◌+◌, ◌≤◌, ◌<◌}
use mathlib.Core.Path.{◌≡◌}
use mathlib.Core.Bool.{true}
use mathlib.Core.List.{List, [], ◌∷◌, ◌++◌}
use lib.ListN.{length, take, drop}
use Rattle.text.specs.Line.{joined, one_line}
use Rattle.text.proofs.Places.{There}
use Rattle.grammar.specs.Items.{Form, Is, Broken, item_text}
use Rattle.grammar.specs.Texts.{Format}
use Rattle.grammar.proofs.Names.{NameLaws}

-- lines, each of which ends in a newline and has no other
pub data AllLines : List (List ℕ) → Type 0 where
  none : AllLines []
  also : {l : List ℕ} {ls : List (List ℕ)} → one_line l ≡ true → AllLines ls → AllLines (l ∷ ls)

-- an item's text stands at `at`, and e is past it
pub record Written {I : Type 0} (f : Form I) (s : List ℕ) (at : ℕ) (x : I) (e : ℕ) : Type 0 where
  pub text : There s at (item_text f x) e
  pub good : f.Good x

-- line k of an item broke a rule: the lines before it are the first of some item that a text can express
pub record BrokenOff {I : Type 0} (f : Form I) (s : List ℕ) (at k : ℕ) : Type 0 where
  pub maybe : I
  pub good : f.Good maybe
  pub before : ℕ
  pub which : k ≡ before + 1
  pub short : before < 6
  pub rest : List ℕ
  pub text : drop at s ≡ joined (take before (f.lines maybe)) ++ rest

-- six lines
pub record SixLines (ls : List (List ℕ)) : Type 0 where
  pub many : length ls ≡ 6
  pub each : AllLines ls

-- the six facts of a kind of item
pub record Facts {I : Type 0} (f : Form I) : Type 0 where
  -- an item's text is read as that item
  pub item_of : (x : I) (s : List ℕ) (at : ℕ) (rest : List ℕ) → f.Good x
      → drop at s ≡ item_text f x ++ rest → f.at s at ≡ Is x (at + length (item_text f x))
  -- what is read as an item is that item's text
  pub item_text_lem : (s : List ℕ) (at : ℕ) (x : I) (e : ℕ) → f.at s at ≡ Is x e → Written f s at x e
  -- an item that is read is gone past
  pub moves : (s : List ℕ) (at : ℕ) (x : I) (e : ℕ) → f.at s at ≡ Is x e → (at < e) × (e ≤ length s)
  -- a broken line comes after the first lines of some item
  pub item_open : (s : List ℕ) (at k : ℕ) → f.at s at ≡ Broken k → BrokenOff f s at k
  -- and where the first j lines of an item stand, it comes later
  pub item_late : (x : I) (j : ℕ) (s : List ℕ) (at k : ℕ) (rest : List ℕ) → f.Good x
      → drop at s ≡ joined (take j (f.lines x)) ++ rest → f.at s at ≡ Broken k → j < k
  pub six : (x : I) → SixLines (f.lines x)

-- of a format: a first line is known where it stands, and the items under it are as above
pub record Laws {H I : Type 0} (t : Format H I) : Type 0 where
  -- one of the first lines, where there is no text to find one in
  pub any : H
  pub heads : NameLaws t.heads
  pub facts : (h : H) → Facts (t.form h)
