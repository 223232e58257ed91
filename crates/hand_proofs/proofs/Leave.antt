-- How a walk ends: the result is read, and every local is freed, whatever it holds.
--     leaves d e f     [d entries; _0; _1; ..; that they all die; ..] becomes [d entries; ..].
--                      Both equations are `refl`: _0 holds the result, and the entries from place d on are the locals
use mathlib.Core.Path.{◌≡◌, subst, ap}
use mathlib.Core.List.{List, [], ◌∷◌, head-eq_of_cons-eq, tail-eq_of_cons-eq, nil≢cons}
use Prim.Native.Nat.{ℕ, zero, suc}
use seplogic.Ra.Ura.{Ura}
use base.Fraction.{full_share}
use mir.Syntax.{Ty, return}
use mir.Val.{Val}
use base.Logic.{SProp, ent, sep, emp∗, via, id⊢, mono_l, mono_r, snd∗}
use base.Fml.{Share, Fml, fat, froom}
use prog.Wp.{Env, Calls, Loops, release, spot_of}
use types.Logic.{Logic, sem}
use types.Kit.{Item, Step, step, ‵, raw, ◌⊛◌, ⋆ as star, mean, nth, push, pop, prop, runs, at_ret}
use types.Kit.{◌$◌, ◌∵◌, !, qed, by, move, join, split, fsplit, frame, done, use1, use2}
use types.Run.{look, returns}
use Rattle.hand_proofs.proofs.Begin.{deaths, cells, whole_frame, one}
use Rattle.hand_proofs.proofs.Entries.{left}

module _ {M : Type 1} {𝓤 : Ura M} (𝓛 : Logic 𝓤) where
  open 𝓛 use {H}

  abbrev ⋆ : List (Item 𝓤) → SProp 𝓤
  ⋆ Γ = star 𝓛 Γ

  abbrev rooms : Env 𝓤 H → List (Item 𝓤)
  rooms E = cells 𝓛 E []

  abbrev room : Ty × ℕ → Item 𝓤
  room e = ‵ (froom e.0 e.1 zero)

  -- the entries from place d on
  abbrev from : ℕ → List (Item 𝓤) → List (Item 𝓤)
  from zero Γ = Γ
  from (suc d) [] = []
  from (suc d) (i ∷ Γ) = from d Γ

  -- for each local what is left of its entry, and the share that this takes; then the entry after the last
  abbrev lefts : Env 𝓤 H → List (Item 𝓤) → List (Item 𝓤 × Share)
  lefts [] [] = []
  lefts [] (i ∷ Γ) = (i, full_share) ∷ []
  lefts (e ∷ E) [] = []
  lefts (e ∷ E) (i ∷ Γ) = ((left 𝓛 i).0, (left 𝓛 i).1) ∷ lefts E Γ

  abbrev wanted : Fml → Env 𝓤 H → List (Item 𝓤 × Share)
  wanted P [] = (‵ P, full_share) ∷ []
  wanted P (e ∷ E) = (room e, full_share) ∷ wanted P E

  -- what is behind them, and a context without them
  abbrev past : Env 𝓤 H → List (Item 𝓤) → List (Item 𝓤)
  past [] [] = []
  past [] (i ∷ Γ) = Γ
  past (e ∷ E) [] = []
  past (e ∷ E) (i ∷ Γ) = past E Γ

  abbrev without : ℕ → Env 𝓤 H → List (Item 𝓤) → List (Item 𝓤)
  without zero E Γ = past E Γ
  without (suc d) E [] = past E []
  without (suc d) E (i ∷ Γ) = i ∷ without d E Γ

  none : (P : Fml) (E : Env 𝓤 H) → lefts E [] ≡ wanted P E → ⊥
  none P [] e = nil≢cons e
  none P (x ∷ E) e = nil≢cons e

  module _ (P : Fml) where
    abbrev Out : Env 𝓤 H → SProp 𝓤
    Out E = sep 𝓤 (⋆ (rooms E)) (sem 𝓛 P)

    out : (E : Env 𝓤 H) (Γ : List (Item 𝓤)) → lefts E Γ ≡ wanted P E → ent 𝓤 (⋆ Γ) (sep 𝓤 (Out E) (⋆ (past E Γ)))
    out E [] e = absurd (none P E e)
    out [] (i ∷ Γ) e =
        let is : i ≡ ‵ P = ap (λ (x : Item 𝓤 × Share). x.0) (head-eq_of_cons-eq e) in
        let to : ent 𝓤 (mean 𝓛 i) (sem 𝓛 P) =
        subst (λ (j : Item 𝓤). ent 𝓤 (mean 𝓛 i) (mean 𝓛 j)) is (id⊢ 𝓤 (mean 𝓛 i)) in
        via 𝓤 (sep 𝓤 (mean 𝓛 i) (⋆ Γ)) (pop 𝓛 i Γ) (mono_l 𝓤 (⋆ Γ) (via 𝓤 (sem 𝓛 P) to (emp∗ 𝓤 (sem 𝓛 P))))
    out (x ∷ E) (i ∷ Γ) e =
        let head : ◌≡◌ {A = Item 𝓤 × Share} ((left 𝓛 i).0, (left 𝓛 i).1) (room x, full_share) = head-eq_of_cons-eq e in
        let to : ent 𝓤 (mean 𝓛 i) (mean 𝓛 (room x)) =
        subst (λ (j : Item 𝓤). ent 𝓤 (mean 𝓛 i) (mean 𝓛 j)) (ap (λ (y : Item 𝓤 × Share). y.0) head)
        ((left 𝓛 i).2 (ap (λ (y : Item 𝓤 × Share). y.1) head)) in
        via 𝓤 (sep 𝓤 (mean 𝓛 i) (⋆ Γ)) (pop 𝓛 i Γ)
        (qed 𝓛 (i ∷ raw (⋆ Γ) ∷ []) ∵ use1 𝓛 (room x) to $ move ! (1 ∷ []) $
        use1 𝓛 ((raw (⋆ (rooms E)) ⊛ ‵ P) ⊛ raw (⋆ (past E Γ))) (out E Γ (tail-eq_of_cons-eq e)) $ split ! $ split ! $
        -- [the other locals; P; the rest; this local]
        move ! (3 ∷ 0 ∷ []) $ use2 𝓛 (raw (⋆ (rooms (x ∷ E)))) (push 𝓛 (room x) (rooms E)) $ join ! $ done !)

    out_at : (d : ℕ) (E : Env 𝓤 H) (Γ : List (Item 𝓤)) → lefts E (from d Γ) ≡ wanted P E → ent 𝓤 (⋆ Γ) (sep 𝓤 (Out E) (⋆ (without d E Γ)))
    out_at zero E Γ e = out E Γ e
    out_at (suc d) E [] e = out E [] e
    out_at (suc d) E (i ∷ Γ) e =
        via 𝓤 (sep 𝓤 (mean 𝓛 i) (⋆ Γ)) (pop 𝓛 i Γ)
        (qed 𝓛 (i ∷ raw (⋆ Γ) ∷ []) ∵ move ! (1 ∷ []) $
        use1 𝓛 (raw (Out E) ⊛ raw (⋆ (without d E Γ))) (out_at d E Γ e) $ split ! $ frame ! $
        move ! (1 ∷ 0 ∷ []) $ by ! (push 𝓛 i (without d E Γ)))

  free_all : (E : Env 𝓤 H) (P : SProp 𝓤) → ent 𝓤 (sep 𝓤 (whole_frame 𝓛 E) P) (release 𝓤 H E P)
  free_all [] P = snd∗ 𝓤 (whole_frame 𝓛 []) P
  free_all (e ∷ E) P =
      via 𝓤 (sep 𝓤 (one 𝓛 e) (sep 𝓤 (whole_frame 𝓛 E) P))
      (qed 𝓛 ((raw (⋆ (rooms (e ∷ E))) ⊛ ‵ (deaths (e ∷ E))) ∷ raw P ∷ []) ∵
      split ! $ use1 𝓛 (room e ⊛ raw (⋆ (rooms E))) (pop 𝓛 (room e) (rooms E)) $ split ! $ move ! (2 ∷ []) $ fsplit ! $
      -- [that it dies; that they die; room for it; the others; P]
      move ! (2 ∷ 0 ∷ []) $ join ! $ frame ! $ move ! (1 ∷ 0 ∷ []) $ join ! $ done !)
      (mono_r 𝓤 (one 𝓛 e) (free_all E P))

module _ {M : Type 1} {𝓤 : Ura M} {𝓛 : Logic 𝓤} {K : Type 0} {Γ : List (Item 𝓤)} {E : Env 𝓤 𝓛.H} where
  open 𝓛 use {H}

  pub leaves : K → {C : Calls 𝓤 H} {Λ : Loops 𝓤 H} {Kf : Val → SProp 𝓤} {r : Val} (d : ℕ) {q : Share}
      → nth 𝓛 d Γ ≡ ‵ (fat q (spot_of 𝓤 H E zero).0 (spot_of 𝓤 H E zero).1 zero r)
      → lefts 𝓛 E (from 𝓛 d Γ) ≡ wanted 𝓛 (deaths E) E
      → Step K 𝓛 (without 𝓛 d E Γ) (prop (Kf r)) Γ (runs C Λ E return (at_ret E Kf))
  leaves t {Kf = Kf} {r = r} d e f = step (λ s. returns t (look t d e) $ record {
    prf =
        let F = whole_frame 𝓛 E in
        via 𝓤 (sep 𝓤 F (star 𝓛 (without 𝓛 d E Γ))) (out_at 𝓛 (deaths E) d E Γ f)
        (via 𝓤 (sep 𝓤 F (Kf r)) (mono_r 𝓤 F s.prf) (free_all 𝓛 E (Kf r)));
  })
