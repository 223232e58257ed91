-- Statements that read and write locals, where d entries stand in front of the locals: which local, the code says.
-- Each equation is `refl`, and says what the local holds.
--     local d e          an operand that is a local.        member d e f      one that is a field of a local, which holds a struct
--     through d e        the place to which a local points
--     locals d es        all the operands of a call or of a struct, each a local
--     sets d r e typed   a statement that assigns to an empty local, and the rest.        resets      to one that holds something
--     sets_last, resets_last     the same of the last statement of its part
--     lands d e typed    a call's result is stored in an empty local, and the rest.        lands_last      where the call ends its part
use mathlib.Core.Path.{◌≡◌, subst, sym, ap, ◌∙◌}
use mathlib.Core.List.{List, [], ◌∷◌}
use mathlib.Core.Option.{Option, some}
use Prim.Native.Nat.{ℕ, zero, ◌+◌}
use seplogic.Ra.Ura.{Ura}
use base.Fraction.{full_share}
use mir.Syntax.{Sym, Ty, Tys, ty_struct, Body, deref, field, place, Rv as RValue, assign, seq}
use mir.Syntax.{Opd as Operand, copy, int, int_neg, int_big, float, opd_true, opd_false, opd_unit, ptr_const, size_of, align_of, num_of, fn_addr, vtable}
use mir.Val.{Val, Vals, vptr, vstruct}
use mir.Fields.{get_v, set_v}
use base.Fml.{fat, froom}
use prog.Memory.{field_of, field_at}
use prog.Wp.{Env, Calls, Loops, next, spot_of}
use types.Logic.{Logic}
use types.Kit.{Item, Post, Step, ‵, nth, put, prop, post, runs, lands as landing, settles}
use types.Part.{Part, whole, sub, look_in}
use types.Run.{Finds, Opd, Opds, Rv, look, init, store, load, from, stop, hop, fld, and_then, no_more}
use types.Run.{assigns, assigns_last, land, land_last}
use Rattle.hand_proofs.proofs.Begin.{Typed}

module _ {M : Type 1} {𝓤 : Ura M} (𝓛 : Logic 𝓤) (Γ : List (Item 𝓤)) (E : Env 𝓤 𝓛.H) (d : ℕ) where
  -- local i is empty, or holds v
  open 𝓛 use {H}

  abbrev Empty : ℕ → Type 2
  Empty i = nth 𝓛 (d + i) Γ ≡ ‵ (froom (spot_of 𝓤 H E i).0 (spot_of 𝓤 H E i).1 zero)

  abbrev Holds : ℕ → Val → Type 2
  Holds i v = nth 𝓛 (d + i) Γ ≡ ‵ (fat full_share (spot_of 𝓤 H E i).0 (spot_of 𝓤 H E i).1 zero v)

  -- the context with v in local i
  abbrev Set : ℕ → Val → List (Item 𝓤)
  Set i v = put 𝓛 (d + i) (‵ (fat full_share (spot_of 𝓤 H E i).0 (spot_of 𝓤 H E i).1 zero v)) Γ

  abbrev No : Type 2
  No = ⊥ × Unit {2}

  abbrev Local : Operand → Val → Type 2
  Local (copy (place i [])) v = Holds i v
  Local (copy (place i (st ∷ sts))) v = No
  Local (int w n) v = No
  Local (int_neg w n) v = No
  Local (int_big w n) v = No
  Local (float f n) v = No
  Local opd_true v = No
  Local opd_false v = No
  Local opd_unit v = No
  Local (ptr_const k) v = No
  Local (size_of τ) v = No
  Local (align_of τ) v = No
  Local (num_of w τ) v = No
  Local (fn_addr c s) v = No
  Local (vtable τ m) v = No

  abbrev Locals : List Operand → List Val → Type 2
  Locals [] [] = Unit {2}
  Locals [] (v ∷ vs) = No
  Locals (x ∷ xs) [] = No
  Locals (x ∷ xs) (v ∷ vs) = Local x v × Locals xs vs

module _ {M : Type 1} {𝓤 : Ura M} {𝓛 : Logic 𝓤} {K : Type 0} {Γ : List (Item 𝓤)} {E : Env 𝓤 𝓛.H} where
  open 𝓛 use {H}

  pub local : K → (d : ℕ) {i : ℕ} {v : Val} → Holds 𝓛 Γ E d i v → Opd K 𝓛 Γ E (copy (place i [])) v
  local t d {i} e = load t (from t (stop t)) (look t (d + i) e)

  pub through : K → (d : ℕ) {i : ℕ} {τ : Ty} {b o : ℕ} → Holds 𝓛 Γ E d i (vptr b o) → Finds K 𝓛 Γ E (place i (deref τ ∷ [])) (τ, b, o)
  through t d {i} e = from t (hop t (look t (d + i) e) (stop t))

  pub member : K → (d : ℕ) {i k : ℕ} {ν : Sym} {τs : Tys} {vs : Vals} {τ : Ty} {δ : ℕ}
      → nth 𝓛 (d + i) Γ ≡ ‵ (fat full_share (ty_struct ν τs) (spot_of 𝓤 H E i).1 zero (vstruct vs))
      → ◌≡◌ {A = Ty × Option (Ty × ℕ)} ((spot_of 𝓤 H E i).0, field_at zero τs k) (ty_struct ν τs, some (τ, δ))
      → Opd K 𝓛 Γ E (copy (place i (field k ∷ []))) (get_v vs k)
  member t d {i} {k} {ν} {τs} {vs} {τ} {δ} e f =
      let b = (spot_of 𝓤 H E i).1 in
      let back : Val → Item 𝓤 = λ u. ‵ (fat full_share (ty_struct ν τs) b zero (vstruct (set_v vs k u))) in
      let inner : field_at zero τs k ≡ some (τ, δ) = ap (λ (x : Ty × Option (Ty × ℕ)). x.1) f in
      let at : field_of (spot_of 𝓤 H E i).0 k ≡ some (τ, δ) = ap (λ (x : Ty × Option (Ty × ℕ)). field_of x.0 k) f ∙ inner in
      load t (from t (fld t at (stop t))) (look_in t (d + i)
      (subst (λ (j : Item 𝓤). Part K 𝓛 j full_share τ b (zero + δ) (get_v vs k) back) (sym e) (sub t k inner (whole t))))

  one : K → (d : ℕ) (x : Operand) (v : Val) → Local 𝓛 Γ E d x v → Opd K 𝓛 Γ E x v
  one t d (copy (place i [])) v e = local t d e
  one t d (copy (place i (st ∷ sts))) v e = absurd e.0
  one t d (int w n) v e = absurd e.0
  one t d (int_neg w n) v e = absurd e.0
  one t d (int_big w n) v e = absurd e.0
  one t d (float f n) v e = absurd e.0
  one t d opd_true v e = absurd e.0
  one t d opd_false v e = absurd e.0
  one t d opd_unit v e = absurd e.0
  one t d (ptr_const k) v e = absurd e.0
  one t d (size_of τ) v e = absurd e.0
  one t d (align_of τ) v e = absurd e.0
  one t d (num_of w τ) v e = absurd e.0
  one t d (fn_addr c s) v e = absurd e.0
  one t d (vtable τ m) v e = absurd e.0

  each : K → (d : ℕ) (xs : List Operand) (vs : List Val) → Locals 𝓛 Γ E d xs vs → Opds K 𝓛 Γ E xs vs
  each t d [] [] es = no_more t
  each t d [] (v ∷ vs) es = absurd es.0
  each t d (x ∷ xs) [] es = absurd es.0
  each t d (x ∷ xs) (v ∷ vs) es = and_then t (one t d x v es.0) (each t d xs vs es.1)

  pub locals : K → (d : ℕ) {xs : List Operand} {vs : List Val} → Locals 𝓛 Γ E d xs vs → Opds K 𝓛 Γ E xs vs
  locals t d {xs} {vs} es = each t d xs vs es

  module _ {C : Calls 𝓤 H} {Λ : Loops 𝓤 H} {q : Post 𝓤 H} {i : ℕ} {v : Val} where
    pub sets : K → (d : ℕ) {rv : RValue} {rest : Body} → Rv K 𝓛 Γ E rv v → Empty 𝓛 Γ E d i → Typed (spot_of 𝓤 H E i).0 v
        → Step K 𝓛 (Set 𝓛 Γ E d i v) (runs C Λ E rest q) Γ (runs C Λ E (seq (assign (place i []) rv) rest) q)
    sets t d r e typed = assigns t r (from t (stop t)) (init t (d + i) e typed)

    pub resets : K → (d : ℕ) {rv : RValue} {rest : Body} {u : Val} → Rv K 𝓛 Γ E rv v → Holds 𝓛 Γ E d i u → Typed (spot_of 𝓤 H E i).0 v
        → Step K 𝓛 (Set 𝓛 Γ E d i v) (runs C Λ E rest q) Γ (runs C Λ E (seq (assign (place i []) rv) rest) q)
    resets t d r e typed = assigns t r (from t (stop t)) (store t (d + i) e typed)

    pub sets_last : K → (d : ℕ) {rv : RValue} → Rv K 𝓛 Γ E rv v → Empty 𝓛 Γ E d i → Typed (spot_of 𝓤 H E i).0 v
        → Step K 𝓛 (Set 𝓛 Γ E d i v) (prop (post 𝓤 H q next)) Γ (runs C Λ E (assign (place i []) rv) q)
    sets_last t d r e typed = assigns_last t r (from t (stop t)) (init t (d + i) e typed)

    pub resets_last : K → (d : ℕ) {rv : RValue} {u : Val} → Rv K 𝓛 Γ E rv v → Holds 𝓛 Γ E d i u → Typed (spot_of 𝓤 H E i).0 v
        → Step K 𝓛 (Set 𝓛 Γ E d i v) (prop (post 𝓤 H q next)) Γ (runs C Λ E (assign (place i []) rv) q)
    resets_last t d r e typed = assigns_last t r (from t (stop t)) (store t (d + i) e typed)

    pub lands : K → (d : ℕ) {rest : Body} → Empty 𝓛 Γ E d i → Typed (spot_of 𝓤 H E i).0 v
        → Step K 𝓛 (Set 𝓛 Γ E d i v) (runs C Λ E rest q) Γ (landing C Λ E (place i []) v rest q)
    lands t d e typed = land t (from t (stop t)) (init t (d + i) e typed)

  pub lands_last : K → (d : ℕ) {q : Post 𝓤 H} {i : ℕ} {v : Val} → Empty 𝓛 Γ E d i → Typed (spot_of 𝓤 H E i).0 v
      → Step K 𝓛 (Set 𝓛 Γ E d i v) (prop (post 𝓤 H q next)) Γ (settles E (place i []) v q)
  lands_last t d {i = i} e typed = land_last t (from t (stop t)) (init t (d + i) e typed)
