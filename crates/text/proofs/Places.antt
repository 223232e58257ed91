-- Texts that stand at a place, one after the other.
use Prim.Native.Nat.{ℕ, ◌+◌}
use native.Mathlib.Omega.{arith}
use mathlib.Core.Path.{◌≡◌, refl, sym, ap, ◌∙◌}
use mathlib.Core.List.{List, ◌++◌, append_assoc}
use mathlib.Core.Bool.{true}
use lib.ListN.{length, drop, length-append}
use lib.Seq.{drop-drop, drop-append_seam}
use Rattle.text.specs.Bytes.{starts}
use Rattle.text.proofs.Bytes.{starts_text}

-- past a text that stands at `at`
pub rest_of : (s t rest : List ℕ) (at : ℕ) → drop at s ≡ t ++ rest → drop (at + length t) s ≡ rest
rest_of s t rest at e = sym (drop-drop (length t) at s) ∙ ap (drop (length t)) e ∙ drop-append_seam t rest

-- t stands at `at`, and e is past it
pub record There (s : List ℕ) (at : ℕ) (t : List ℕ) (e : ℕ) : Type 0 where
  pub text : drop at s ≡ t ++ drop e s
  pub past : e ≡ at + length t

pub there : (s t rest : List ℕ) (at e : ℕ) → drop at s ≡ t ++ rest → e ≡ at + length t → There s at t e
there s t rest at e h p =
    let left : rest ≡ drop e s = sym (rest_of s t rest at h) ∙ ap (λ (x : ℕ). drop x s) (sym p) in
    record { text = h ∙ ap (λ (r : List ℕ). t ++ r) left; past = p }

pub then : (s : List ℕ) (at : ℕ) (t : List ℕ) (a : ℕ) (u : List ℕ) (e : ℕ) → There s at t a → There s a u e → There s at (t ++ u) e
then s at t a u e p q = record {
  text = p.text ∙ ap (λ (x : List ℕ). t ++ x) q.text ∙ sym (append_assoc t u (drop e s));
  past = omega (arith, p.past, q.past, length-append t u);
}

pub key_there : (s : List ℕ) (at : ℕ) (key : List ℕ) → starts key (drop at s) ≡ true → There s at key (at + length key)
key_there s at key h =
    let left = drop-drop (length key) at s in
    record { text = starts_text key (drop at s) h ∙ ap (λ (x : List ℕ). key ++ x) left; past = refl }
