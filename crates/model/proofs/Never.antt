-- None of the calls is an accepted one of a kind: from one call to the next.
use Prim.Native.Nat.{ℕ}
use mathlib.Core.Path.{◌≡◌, refl, sym, ◌∙◌, ap}
use mathlib.Core.Bool.{Bool, true, false, true≢false}
use mathlib.Core.List.{List, [], ◌∷◌, ◌++◌, nil≢cons, head-eq_of_cons-eq, tail-eq_of_cons-eq}
use Rattle.model.specs.declared.Table.{Table}
use Rattle.model.specs.Calls.{Call, after}
use Rattle.model.specs.History.{run, Accepts, Never}

module _ (n : ℕ) (t : Table) (kind : Call → Bool) where
  pub never_nil : Never n t kind []
  never_nil = record { nowhere = λ p q c e k a. late p c q e }
    where
      late : (p : List Call) (c : Call) (q : List Call) → [] ≡ p ++ c ∷ q → ⊥
      late [] c q e = nil≢cons e
      late (d ∷ p) c q e = nil≢cons e

  module _ (c : Call) (cs : List Call) where
    pub never_cons : (Accepts n t c → kind c ≡ false) → Never n (after n t c) kind cs → Never n t kind (c ∷ cs)
    unfolding run
    never_cons h k = record { nowhere = nowhere }
      where
        nowhere : (p q : List Call) (d : Call) → c ∷ cs ≡ p ++ d ∷ q → kind d ≡ true → Accepts n (run n t p) d → ⊥
        nowhere [] q d e y a =
            let w = head-eq_of_cons-eq e in
            true≢false (sym y ∙ rw w at (h (rw w a)))
        nowhere (x ∷ p) q d e y a = k.nowhere p q d (tail-eq_of_cons-eq e) y (rw (head-eq_of_cons-eq e) a)

    pub never_head : Never n t kind (c ∷ cs) → Accepts n t c → kind c ≡ false
    unfolding run
    never_head k a = go (kind c) refl
      where
        go : (b : Bool) → kind c ≡ b → b ≡ false
        go true y = absurd (k.nowhere [] cs c refl y a)
        go false y = refl

    pub never_tail : Never n t kind (c ∷ cs) → Never n (after n t c) kind cs
    unfolding run
    never_tail k = record { nowhere = λ p q d e. k.nowhere (c ∷ p) q d (ap (λ (l : List Call). c ∷ l) e) }
