-- How a walk begins: a block of memory is made for each local of the function, and the arguments are stored. The context is then
--     [what was there; _0; _1; ..; that they all die]
-- so that local i stands d + i places from the head, where d entries stand in front of the locals.
--     frame ls         the environment that the locals make: a type and a block of memory for each
--     begins           the function runs, from a walk of its body for each choice of the blocks
use mathlib.Core.Path.{refl}
use mathlib.Core.List.{List, [], ◌∷◌, ◌++◌}
use Prim.Native.Nat.{ℕ, zero}
use lib.Dec.{T as Holds}
use seplogic.Ra.Ura.{Ura}
use base.Fraction.{full_share}
use mir.Syntax.{Ty, Local, local, Fn}
use mir.Val.{Val, WT, has_ty}
use base.Logic.{SProp, ent, sep, wand, emp, via, mono_l, wand_i, all_i, emp∗}
use base.Fml.{Fml, ftrue, fsep, fat, froom, fdies}
use prog.Wp.{Env, Calls, Loops, alloc, pass, params, Wp, at_return, WpFn}
use types.Logic.{Logic, sem}
use types.Kit.{Item, Sq, ‵, raw, ◌⊛◌, ⋆ as star, mean, push, pop, ++⊢, ⊢++, prop, runs, at_ret, passes}
use types.Kit.{◌$◌, ◌∵◌, !, qed, move, by, done, join, split, split3, fjoin, use1, use2}
use types.Run.{init, pass1}

-- a block for each local, and P of the locals with their blocks
abbrev pub Over {ℓ} : List Local → (List (Ty × ℕ) → Type ℓ) → Type ℓ
Over [] P = P []
Over (local τ h ∷ ls) P = (b : ℕ) → Over ls (λ E. P ((τ, b) ∷ E))

abbrev frame_from : (ls : List Local) → (List (Ty × ℕ) → List (Ty × ℕ)) → Over ls (λ E. List (Ty × ℕ))
frame_from [] k = k []
frame_from (local τ h ∷ ls) k = λ b. frame_from ls (λ E. k ((τ, b) ∷ E))

abbrev pub frame : (ls : List Local) → Over ls (λ E. List (Ty × ℕ))
frame ls = frame_from ls (λ E. E)

over_all {ℓ} : (ls : List Local) {P : List (Ty × ℕ) → Type ℓ} → ((E : List (Ty × ℕ)) → P E) → Over ls P
over_all [] f = f []
over_all (local τ h ∷ ls) f = λ b. over_all ls (λ E. f ((τ, b) ∷ E))

over_map {ℓ κ} : (ls : List Local) {P : List (Ty × ℕ) → Type ℓ} {Q : List (Ty × ℕ) → Type κ}
    → ((E : List (Ty × ℕ)) → P E → Q E) → Over ls P → Over ls Q
over_map [] f p = f [] p
over_map (local τ h ∷ ls) f p = λ b. over_map ls (λ E. f ((τ, b) ∷ E)) (p b)

over_both {ℓ κ μ} : (ls : List Local) {P : List (Ty × ℕ) → Type ℓ} {Q : List (Ty × ℕ) → Type κ} {R : List (Ty × ℕ) → Type μ}
    → ((E : List (Ty × ℕ)) → P E → Q E → R E) → Over ls P → Over ls Q → Over ls R
over_both [] f p q = f [] p q
over_both (local τ h ∷ ls) f p q = λ b. over_both ls (λ E. f ((τ, b) ∷ E)) (p b) (q b)

-- a machine value has a type
abbrev pub Typed : Ty → Val → Type 0
Typed τ v = Holds (has_ty τ v) × WT v

-- values have the types of the first locals
abbrev Fit : List (Ty × ℕ) → List Val → Type 0
Fit E [] = Unit {0}
Fit [] (v ∷ vs) = ⊥
Fit (e ∷ E) (v ∷ vs) = Typed e.0 v × Fit E vs

abbrev Fits : List Local → List Val → Type 0
Fits ls [] = Unit {0}
Fits [] (v ∷ vs) = ⊥
Fits (local τ h ∷ ls) (v ∷ vs) = Typed τ v × Fits ls vs

fit : (ls : List Local) (vs : List Val) → Fits ls vs → Over ls (λ E. Fit E vs)
fit ls [] ok = over_all ls (λ E. tt)
fit [] (v ∷ vs) ok = absurd ok
fit (local τ h ∷ ls) (v ∷ vs) ok = λ b. over_map ls (λ E more. (ok.0, more)) (fit ls vs ok.1)

-- the arguments have the types of the parameters, which are the locals after the result
abbrev pub Stored : List Local → List Val → Type 0
Stored [] vs = ⊥
Stored (l ∷ ls) vs = Fits ls vs

-- that each local dies
abbrev pub deaths : List (Ty × ℕ) → Fml
deaths [] = ftrue
deaths (e ∷ E) = fsep (fdies e.0 e.1) (deaths E)

module _ {M : Type 1} {𝓤 : Ura M} (𝓛 : Logic 𝓤) where
  open 𝓛 use {H}

  abbrev ⋆ : List (Item 𝓤) → SProp 𝓤
  ⋆ Γ = star 𝓛 Γ

  -- the locals, with values in the first of them
  abbrev pub cells : Env 𝓤 H → List Val → List (Item 𝓤)
  cells [] vs = []
  cells (e ∷ E) [] = ‵ (froom e.0 e.1 zero) ∷ cells E []
  cells (e ∷ E) (v ∷ vs) = ‵ (fat full_share e.0 e.1 zero v) ∷ cells E vs

  -- with the arguments stored
  abbrev pub entered : Env 𝓤 H → List Val → List (Item 𝓤)
  entered [] vs = []
  entered (e ∷ E) vs = ‵ (froom e.0 e.1 zero) ∷ (cells E vs ++ (‵ (deaths (e ∷ E)) ∷ []))

  -- what is made for all of them, and for one
  abbrev pub whole_frame : Env 𝓤 H → SProp 𝓤
  whole_frame E = sep 𝓤 (⋆ (cells E [])) (sem 𝓛 (deaths E))

  abbrev pub one : Ty × ℕ → SProp 𝓤
  one e = sep 𝓤 (H.room e.0 e.1 zero) (H.dies e.0 e.1)

  takes : (e : Ty × ℕ) (E : Env 𝓤 H) (P : SProp 𝓤) → ent 𝓤 (sep 𝓤 (whole_frame E) (sep 𝓤 P (one e))) (sep 𝓤 (whole_frame (e ∷ E)) P)
  takes e E P =
      let room = ‵ (froom e.0 e.1 zero) in
      qed 𝓛 ((raw (⋆ (cells E [])) ⊛ ‵ (deaths E)) ∷ (raw P ⊛ room ⊛ ‵ (fdies e.0 e.1)) ∷ []) ∵
      split ! $ move ! (2 ∷ []) $ split ! $ move ! (1 ∷ []) $ split ! $
      -- [room for it; that it dies; P; the others; that they die]
      move ! (0 ∷ 3 ∷ 1 ∷ 4 ∷ 2 ∷ []) $ use2 𝓛 (raw (⋆ (cells (e ∷ E) []))) (push 𝓛 room (cells E [])) $
      move ! (1 ∷ 2 ∷ []) $ fjoin ! $ move ! (1 ∷ 0 ∷ []) $ join ! $ done !

  alloc_all : (ls : List Local) (P : SProp 𝓤) (Kt : Env 𝓤 H → SProp 𝓤)
      → Over ls (λ E. ent 𝓤 (sep 𝓤 (whole_frame E) P) (Kt E)) → ent 𝓤 P (alloc 𝓤 H ls Kt)
  alloc_all [] P Kt h = via 𝓤 (sep 𝓤 (emp 𝓤) P) (emp∗ 𝓤 P) (via 𝓤 (sep 𝓤 (whole_frame []) P) (mono_l 𝓤 P (emp∗ 𝓤 (emp 𝓤))) h)
  alloc_all (local τ o ∷ ls) P Kt h =
      all_i 𝓤 (λ (b : ℕ). wand 𝓤 (one (τ, b)) (alloc 𝓤 H ls (λ E. Kt ((τ, b) ∷ E)))) (λ b.
      wand_i 𝓤 P (one (τ, b)) (alloc 𝓤 H ls (λ E. Kt ((τ, b) ∷ E)))
      (alloc_all ls (sep 𝓤 P (one (τ, b))) (λ E. Kt ((τ, b) ∷ E))
      (over_map ls (λ E g. via 𝓤 (sep 𝓤 (whole_frame ((τ, b) ∷ E)) P) (takes (τ, b) E P) g) (h b))))

  -- an entry goes behind others, or before them
  behind : (Δ Γ : List (Item 𝓤)) (i : Item 𝓤) → ent 𝓤 (⋆ (i ∷ (Δ ++ Γ))) (⋆ (Δ ++ (i ∷ Γ)))
  behind Δ Γ i =
      via 𝓤 (sep 𝓤 (mean 𝓛 i) (⋆ (Δ ++ Γ))) (pop 𝓛 i (Δ ++ Γ))
      (qed 𝓛 (i ∷ raw (⋆ (Δ ++ Γ)) ∷ []) ∵ move ! (1 ∷ []) $ use1 𝓛 (raw (⋆ Δ) ⊛ raw (⋆ Γ)) (⊢++ 𝓛 Δ Γ) $ split ! $
      move ! (2 ∷ 1 ∷ []) $ use2 𝓛 (raw (⋆ (i ∷ Γ))) (push 𝓛 i Γ) $ move ! (1 ∷ 0 ∷ []) $ by ! (++⊢ 𝓛 Δ (i ∷ Γ)))

  before : (Δ Γ : List (Item 𝓤)) (i : Item 𝓤) → ent 𝓤 (⋆ (Δ ++ (i ∷ Γ))) (⋆ (i ∷ (Δ ++ Γ)))
  before Δ Γ i =
      via 𝓤 (sep 𝓤 (⋆ Δ) (⋆ (i ∷ Γ))) (⊢++ 𝓛 Δ (i ∷ Γ))
      (qed 𝓛 (raw (⋆ Δ) ∷ raw (⋆ (i ∷ Γ)) ∷ []) ∵ move ! (1 ∷ []) $ use1 𝓛 (i ⊛ raw (⋆ Γ)) (pop 𝓛 i Γ) $ split ! $
      move ! (2 ∷ 1 ∷ []) $ use2 𝓛 (raw (⋆ (Δ ++ Γ))) (++⊢ 𝓛 Δ Γ) $ move ! (1 ∷ 0 ∷ []) $ by ! (push 𝓛 i (Δ ++ Γ)))

  -- the arguments are stored
  store-all : (E : Env 𝓤 H) (vs : List Val) (Γ : List (Item 𝓤)) (P : SProp 𝓤) → Fit E vs
      → ent 𝓤 (⋆ (cells E vs ++ Γ)) P → ent 𝓤 (⋆ (cells E [] ++ Γ)) (pass 𝓤 H E vs P)
  store-all E [] Γ P ok h = h
  store-all [] (v ∷ vs) Γ P ok h = absurd ok
  store-all (e ∷ E) (v ∷ vs) Γ P ok h =
      let i = ‵ (fat full_share e.0 e.1 zero v) in
      let s : Sq 𝓛 (‵ (froom e.0 e.1 zero) ∷ (cells E [] ++ Γ)) (passes (e ∷ E) (v ∷ vs) (prop P)) =
      pass1 ! (init ! 0 refl ok.0) $ by !
      (via 𝓤 (⋆ (cells E [] ++ (i ∷ Γ))) (behind (cells E []) Γ i)
      (store-all E vs (i ∷ Γ) P ok.1 (via 𝓤 (⋆ (i ∷ (cells E vs ++ Γ))) (before (cells E vs) Γ i) h))) in
      s.prf

  opens : (e : Ty × ℕ) (E : Env 𝓤 H) (vs : List Val) (Γ : List (Item 𝓤)) (P : SProp 𝓤) → Fit E vs
      → ent 𝓤 (⋆ (Γ ++ entered (e ∷ E) vs)) P → ent 𝓤 (sep 𝓤 (whole_frame (e ∷ E)) (⋆ Γ)) (pass 𝓤 H E vs P)
  opens e E vs Γ P ok h =
      let i = ‵ (froom e.0 e.1 zero) in
      let d = ‵ (deaths (e ∷ E)) in
      let last = i ∷ d ∷ raw (⋆ Γ) ∷ [] in
      via 𝓤 (⋆ (cells E [] ++ last))
      (qed 𝓛 ((raw (⋆ (i ∷ cells E [])) ⊛ d) ∷ raw (⋆ Γ) ∷ []) ∵
      split ! $ use1 𝓛 (i ⊛ raw (⋆ (cells E []))) (pop 𝓛 i (cells E [])) $ split ! $
      move ! (1 ∷ 0 ∷ []) $ by ! (++⊢ 𝓛 (cells E []) last))
      (store-all E vs last P ok
      (via 𝓤 (sep 𝓤 (⋆ (cells E vs)) (⋆ last)) (⊢++ 𝓛 (cells E vs) last)
      (via 𝓤 (⋆ (Γ ++ entered (e ∷ E) vs))
      (qed 𝓛 (raw (⋆ (cells E vs)) ∷ (i ⊛ d ⊛ raw (⋆ Γ)) ∷ []) ∵ move ! (1 ∷ []) $ split3 ! $
      -- [_0; that they die; Γ; the other locals]
      move ! (3 ∷ 1 ∷ []) $ use2 𝓛 (raw (⋆ (cells E vs ++ (d ∷ [])))) (++⊢ 𝓛 (cells E vs) (d ∷ [])) $ move ! (1 ∷ 0 ∷ []) $
      use2 𝓛 (raw (⋆ (entered (e ∷ E) vs))) (push 𝓛 i (cells E vs ++ (d ∷ []))) $
      move ! (1 ∷ 0 ∷ []) $ by ! (++⊢ 𝓛 Γ (entered (e ∷ E) vs)))
      h)))

  pub begins : (f : Fn) (vs : List Val) (C : Calls 𝓤 H) (Λ : Loops 𝓤 H) (Kf : Val → SProp 𝓤) (Γ : List (Item 𝓤)) → Stored f.locals vs
      → Over f.locals (λ E. Sq 𝓛 (Γ ++ entered E vs) (runs C Λ E f.body (at_ret E Kf))) → ent 𝓤 (⋆ Γ) (WpFn 𝓤 H C Λ f vs Kf)
  unfolding WpFn
  begins f vs C Λ Kf Γ ok k = from f.locals (λ E. Wp 𝓤 H C Λ E f.body (at_return 𝓤 H E Kf)) ok (over_map f.locals (λ E s. s.prf) k)
    where
      from : (ls : List Local) (Kt : Env 𝓤 H → SProp 𝓤) → Stored ls vs → Over ls (λ E. ent 𝓤 (⋆ (Γ ++ entered E vs)) (Kt E))
          → ent 𝓤 (⋆ Γ) (alloc 𝓤 H ls (λ E. params 𝓤 H E vs (Kt E)))
      from [] Kt ok h = absurd ok
      from (local τ o ∷ ls) Kt ok h =
          alloc_all (local τ o ∷ ls) (⋆ Γ) (λ E. params 𝓤 H E vs (Kt E))
          (λ b. over_both ls (λ E ok h. opens (τ, b) E vs Γ (Kt ((τ, b) ∷ E)) ok h) (fit ls vs ok) (h b))
