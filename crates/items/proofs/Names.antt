-- Names that are tried one after the other: one that stands at the place is the first that does, and one that doesn't is gone past.
use Prim.Native.Nat.{ℕ, suc, ◌+◌, ◌<◌}
use native.Mathlib.Numerals.{add-one}
use mathlib.Core.Path.{◌≡◌, refl, sym, ap, ◌∙◌}
use mathlib.Core.List.{List, ◌∷◌}
use mathlib.Core.Bool.{Bool, true, false, cond}
use lib.ListN.{length, get_or, drop}
use Rattle.std.proofs.Math.Seq.{drop-cons}
use Rattle.std.specs.Prelude.{Some, None}
use Rattle.text.specs.Bytes.{starts}
use Rattle.grammar.specs.Names.{Named, first_named}

pub past_some : (b : Bool) (n : ℕ) {p : ℕ} → cond b (Some n) None ≡ Some p → (b ≡ true) × (n ≡ p)
past_some true n h = (refl, cc)
past_some false n h = cc

pub past_none : (b : Bool) (n : ℕ) → cond b (Some n) None ≡ None → b ≡ false
past_none true n h = cc
past_none false n h = refl

-- what is left at a place of a list: the item there, and what is left past it
pub left_at : {K : Type 0} (ks : List K) (i : ℕ) (k : K) → i < length ks → k ≡ get_or ks i k → drop i ks ≡ k ∷ drop (i + 1) ks
left_at {K} ks i k l h = rw add-one (drop-cons ks i k l ∙ ap (λ (x : K). x ∷ drop (suc i) ks) (sym h))

module _ {K : Type 0} (name : K → List ℕ) (k : K) (ks ls : List K) (s : List ℕ) (at : ℕ) (left : ls ≡ k ∷ ks) where
  pub first_here : starts (name k) (drop at s) ≡ true → first_named name ls s at ≡ Named k (at + length (name k))
  unfolding first_named
  first_here h = rw (left, h)

  pub first_later : starts (name k) (drop at s) ≡ false → first_named name ls s at ≡ first_named name ks s at
  unfolding first_named
  first_later h = rw (left, h)
