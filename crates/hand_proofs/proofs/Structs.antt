-- A struct, one that holds references too, and what its fields own.
--     of_fields D vss        the struct's machine value, where vss are its fields'.        is_whole      that it is the value of d
--     is_spelled l x vs is   and that the machine value of x is what its type's generated law `lowers` says, l
--     shuts_struct D d vss   [what the fields of d own, at vss; ..] becomes [what d owns; ..]
--     opens_struct D L v u   [what the struct of the fields v owns; ..] becomes [what the fields own, each spelled by its law; ..]
--     twice D c d u          [what d owns; ..] becomes [that; that; ..]: a struct of plain data and `&` is Copy.
--                            c is its generated `the_copy`
use mathlib.Core.Path.{◌≡◌, refl, subst}
use mathlib.Core.List.{List, [], ◌∷◌}
use seplogic.Ra.Ura.{Ura}
use mir.Val.{Val, of_list, vstruct}
use types.Logic.{Logic}
use types.Kit.{Goal, Item, Step, step, ‵, ◌⊛◌, given, ◌$◌, use1, learn, split, feq_i, fjoin, fpack}
use denote.RattleType.{RattleType, Valss, flat, owns}
use denote.Laws.{Is}
use denote.Lowered.{Lowered}
use denote.Struct.Declared.{Declared, row, fields, shape}
use denote.Struct.Laws as LL
use denote.Struct.Rest.{all_own, own_open}
use denote.Struct.Struct.{AreAll, Struct, within}
use denote.Struct.At.{spelled}
use denote.Struct.Values.{Values, intos}
use Rattle.hand_proofs.proofs.World.{World}

module _ (D : Declared) where
  abbrev pub of_fields : Valss (fields D) → Val
  of_fields vss = vstruct (of_list (flat (fields D) vss))

  pub is_whole : (d : D.D) (vss : Valss (fields D)) → AreAll (fields D) (D.to d) vss → Is (row D) d (of_fields vss ∷ [])
  is_whole d vss are = (vss, (refl, are))

pub is_spelled : {R : RattleType} (l : Lowered R) (x : R.Denot) (vs : List Val) → Is R x vs → Is R x (l.lowered x ∷ [])
is_spelled {R} l x vs is = subst (Is R x) (l.val_is x vs is) is

module _ {M : Type 1} {𝓤 : Ura M} {𝓛 : Logic 𝓤} (w : World 𝓛) {K : Type 0} {Γ : List (Item 𝓤)} {G : Goal 𝓤 𝓛.H} where
  open 𝓛 use {H}

  pub shuts_struct : K → (D : Declared) (d : D.D) (vss : Valss (fields D))
      → Step K 𝓛 (‵ ((row D).own_val d (of_fields D vss ∷ [])) ∷ Γ) G (‵ (owns (fields D) (D.to d) vss) ∷ Γ) G
  shuts_struct t D d vss = step (λ s.
      feq_i t (List Val) (of_fields D vss ∷ []) (of_fields D vss ∷ []) refl $ fjoin t $
      fpack t (Valss (fields D)) (within (shape D) (D.to d) (of_fields D vss ∷ [])) vss $ s)

  pub opens_struct : K → (D : Declared) (L : LL.Laws D) (v : Values D.parts) (u : Val)
      → Step K 𝓛 (‵ (all_own D.parts L v) ∷ Γ) G (‵ ((Struct (shape D)).own_val (intos D.parts v) (u ∷ [])) ∷ Γ) G
  opens_struct t D L v u = step (λ s.
      use1 𝓛 (given (u ∷ [] ≡ vstruct (spelled D.parts L v) ∷ []) (‵ (all_own D.parts L v)))
      (own_open 𝓛 D L v u) $ learn t (λ _. s))

  pub twice : K → (D : Declared) → LL.Copyables D.parts → (d : D.D) (u : Val)
      → Step K 𝓛 (‵ ((row D).own_val d (u ∷ [])) ∷ ‵ ((row D).own_val d (u ∷ [])) ∷ Γ) G (‵ ((row D).own_val d (u ∷ [])) ∷ Γ) G
  twice t D c d u = step (λ s.
      let Own = (row D).own_val d (u ∷ []) in
      use1 𝓛 (‵ Own ⊛ ‵ Own) ((LL.copy D c 𝓛).twice d (u ∷ [])) $ split t $ s)
