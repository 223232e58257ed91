-- A constant of the code as an operand. The code writes a large number in another way than a small one,
-- so a walk that says which way breaks when a constant grows.
--     constant n fits e      the operand reads as n, whichever way the code writes it. e is `(refl, refl)`
use mathlib.Core.Path.{◌≡◌, sym, subst}
use mathlib.Core.List.{List}
use Prim.Native.Nat.{ℕ, ◌<◌, ◌^◌}
use lib.Dec.{lt→ltb}
use seplogic.Ra.Ura.{Ura}
use mir.Syntax.{Width, w64, Opd as Operand, copy, int, int_neg, int_big, float, opd_true, opd_false, opd_unit, ptr_const, size_of, align_of, num_of, fn_addr, vtable}
use mir.Val.{Fits, vint}
use base.Logic.{via, guard_i}
use prog.Wp.{Env}
use types.Logic.{Logic}
use types.Kit.{Item}
use types.Run.{Opd, lit}

-- an operand that writes the number n: the code has two ways, by n's size
abbrev pub Constant : Operand → ℕ → Type 0
Constant (int w m) n = (w ≡ w64) × (m ≡ n)
Constant (int_big w m) n = (w ≡ w64) × (m ≡ n)
Constant (copy p) n = ⊥
Constant (int_neg w k) n = ⊥
Constant (float f k) n = ⊥
Constant opd_true n = ⊥
Constant opd_false n = ⊥
Constant opd_unit n = ⊥
Constant (ptr_const k) n = ⊥
Constant (size_of τ) n = ⊥
Constant (align_of τ) n = ⊥
Constant (num_of w τ) n = ⊥
Constant (fn_addr c s) n = ⊥
Constant (vtable τ m) n = ⊥

module _ {M : Type 1} {𝓤 : Ura M} {𝓛 : Logic 𝓤} {K : Type 0} {Γ : List (Item 𝓤)} {E : Env 𝓤 𝓛.H} where
  small : K → (n : ℕ) → n < 2 ^ 64 → Opd K 𝓛 Γ E (int w64 n) (vint w64 n)
  small t n fits = lit t (lt→ltb n (2 ^ 64) fits)

  large : K → (n : ℕ) → n < 2 ^ 64 → Opd K 𝓛 Γ E (int_big w64 n) (vint w64 n)
  large t n fits = record { go = λ Kt h. via 𝓤 (Kt (vint w64 n)) h (guard_i 𝓤 (Fits w64 n) (Kt (vint w64 n)) (record { fits = fits })) }

  by_form : K → (x : Operand) (n : ℕ) → n < 2 ^ 64 → Constant x n → Opd K 𝓛 Γ E x (vint w64 n)
  by_form t (int w m) n fits e =
      subst (λ (w' : Width). Opd K 𝓛 Γ E (int w' m) (vint w64 n)) (sym e.0)
      (subst (λ (m' : ℕ). Opd K 𝓛 Γ E (int w64 m') (vint w64 n)) (sym e.1) (small t n fits))
  by_form t (int_big w m) n fits e =
      subst (λ (w' : Width). Opd K 𝓛 Γ E (int_big w' m) (vint w64 n)) (sym e.0)
      (subst (λ (m' : ℕ). Opd K 𝓛 Γ E (int_big w64 m') (vint w64 n)) (sym e.1) (large t n fits))
  by_form t (copy p) n fits e = absurd e
  by_form t (int_neg w k) n fits e = absurd e
  by_form t (float f k) n fits e = absurd e
  by_form t opd_true n fits e = absurd e
  by_form t opd_false n fits e = absurd e
  by_form t opd_unit n fits e = absurd e
  by_form t (ptr_const k) n fits e = absurd e
  by_form t (size_of τ) n fits e = absurd e
  by_form t (align_of τ) n fits e = absurd e
  by_form t (num_of w τ) n fits e = absurd e
  by_form t (fn_addr c s) n fits e = absurd e
  by_form t (vtable τ m) n fits e = absurd e

  pub constant : K → {x : Operand} (n : ℕ) → n < 2 ^ 64 → Constant x n → Opd K 𝓛 Γ E x (vint w64 n)
  constant t {x} n fits e = by_form t x n fits e
