-- A line that names a kind is read as that kind, and what is read as a kind is its line.
use Prim.Native.Nat.{ℕ, ◌+◌, ◌<◌}
use native.Mathlib.Omega.{arith}
use mathlib.Core.Path.{◌≡◌, refl, ap, ◌∙◌}
use mathlib.Core.List.{List, [], ◌∷◌, ◌++◌, append_assoc}
use mathlib.Core.Bool.{Bool, true, false, cond, false≢true}
use lib.ListN.{length, drop, length-append}
use Rattle.text.specs.Bytes.{starts}
use Rattle.text.specs.Line.{one_line}
use Rattle.text.proofs.Bytes.{starts_of}
use Rattle.text.proofs.Places.{rest_of, There, then, key_there}
use Rattle.grammar.specs.Names.{Names, name_line, NameAt, Named, Unknown, first_named, name_at}

-- what has to be proved of the names: each is found where it stands, and its line is one line
pub record NameLaws {K : Type 0} (w : Names K) : Type 0 where
  pub found : (k : K) (s : List ℕ) (at : ℕ) (rest : List ℕ) → drop at s ≡ w.name k ++ rest
      → first_named w.name w.kinds s at ≡ Named k (at + length (w.name k))
  pub one : (k : K) → one_line (name_line w k) ≡ true

pub no_name : {K : Type 0} (k : K) (e : ℕ) → Unknown ≡ Named k e → ⊥
no_name k e h = let z : ◌≡◌ {A = ℕ} 0 1 = cc in omega arith

module _ {K : Type 0} (w : Names K) (laws : NameLaws w) where
  name-there : (ks : List K) (s : List ℕ) (at : ℕ) (k : K) (e : ℕ) → first_named w.name ks s at ≡ Named k e → There s at (w.name k) e
  unfolding first_named
  name-there [] s at k e h = absurd (let z : ◌≡◌ {A = ℕ} 0 1 = cc in omega arith)
  name-there (p ∷ ks) s at k e h = go (starts (w.name p) (drop at s)) refl (name-there ks s at k e) h
    where
      go : (x : Bool) → starts (w.name p) (drop at s) ≡ x → (first_named w.name ks s at ≡ Named k e → There s at (w.name k) e)
          → cond x (Named p (at + length (w.name p))) (first_named w.name ks s at) ≡ Named k e → There s at (w.name k) e
      go false q ih h = ih h
      go true q ih h =
          let same : p ≡ k = cc in
          let past : at + length (w.name p) ≡ e = cc in
          rw (past, same) at (key_there s at (w.name p) q)

  pub line_of : (s : List ℕ) (at : ℕ) (k : K) (rest : List ℕ) → drop at s ≡ name_line w k ++ rest
      → name_at w s at ≡ Named k (at + length (name_line w k))
  unfolding name_at name_line
  line_of s at k rest e =
      let e' : drop at s ≡ w.key ++ (w.name k ++ rest) = e ∙ append_assoc w.key (w.name k) rest in
      let key : starts w.key (drop at s) ≡ true = rw e' (starts_of w.key (w.name k ++ rest)) in
      rw (key, laws.found k s (at + length w.key) rest (rest_of s w.key (w.name k ++ rest) at e'))
      (ap (Named k) (simp length-append (omega arith)))

  pub line_there : (s : List ℕ) (at : ℕ) (k : K) (e : ℕ) → name_at w s at ≡ Named k e → There s at (name_line w k) e
  unfolding name_at name_line
  line_there s at k e = go (starts w.key (drop at s)) refl
    where
      past : ℕ
      past = at + length w.key

      go : (b : Bool) → starts w.key (drop at s) ≡ b → cond b (first_named w.name w.kinds s past) Unknown ≡ Named k e
          → There s at (name_line w k) e
      go false q h = absurd (no_name k e h)
      go true q h = then s at w.key past (w.name k) e (key_there s at w.key q) (name-there w.kinds s past k e h)

  -- a line that ends in a newline has a byte
  pub line-length : (k : K) → 0 < length (name_line w k)
  line-length k = go (name_line w k) (laws.one k)
    where
      go : (l : List ℕ) → one_line l ≡ true → 0 < length l
      go [] h = absurd (false≢true (unfold one_line in h))
      go (b ∷ l) h = omega arith
