-- A lent run, a `&[R]`: an element is read where it lies, and a row of elements in a local is lent.
--     looks r κ q x i d l k     [the token of κ; what the run x owns; ..] becomes [element i, at some share; what shuts the run; ..].
--                               It lies i times its size past the run's pointer, as the code computes it
--     shuts r κ q s x i d l     and back to [the token; ..]
--     lends r xs b room k       [the elements xs in block b; ..] becomes [the token; what a run of xs owns; what gives xs back; ..],
--                               at a lifetime that is made for it
--     returns r α xs b          [the token; what gives xs back; ..] becomes [the elements; ..]: the lifetime is ended
use mathlib.Core.Path.{refl, sym}
use mathlib.Core.List.{List, [], ◌∷◌}
use Prim.Native.Nat.{ℕ, ◌+◌, ◌*◌, ◌<◌}
use lib.ListN.{length, get_or}
use seplogic.Ra.Ura.{Ura}
use base.Fraction.{full_share}
use mir.Syntax.{erased}
use mir.Val.{Val}
use base.Logic.{SProp, sep, emp, id⊢}
use base.Fml.{Lft, Share, Fml, Incl-refl, ftrue, fsep, flft, flent}
use types.Logic.{Logic}
use types.Kit.{Goal, Soaks, Item, Seq, Step, step, ‵, raw, ◌⊛◌, later}
use types.Kit.{◌$◌, move, drop, use1, use2, split, join, await, rewrite, fsplit, fjoin, feq_i}
use types.Share.{arr_parts}
use types.Tokens.{lft_new, lft_end, lent_back}
use denote.RattleType.{RattleType}
use denote.Laws.{Is, shows}
use denote.Index.{row, place_is, others, elem_out, elem_back, looks_slice, shuts_slice}
use denote.Lend.{lends_shr_slice}
use denote.Memory.{cell_at, mem, shares}
use denote.Opens as O
use denote.Ref.{Bor}
use denote.Slice.{ShrSlice, Room, shr_slice_vals}
use denote.Steps.{nothing}
use Rattle.hand_proofs.proofs.World.{World}
use Rattle.hand_proofs.proofs.Plains.{Plain}

module _ {M : Type 1} {𝓤 : Ura M} {𝓛 : Logic 𝓤} (w : World 𝓛) {R : RattleType} (r : Plain w R) (κ : Lft) (q : Share) where
  open 𝓛 use {H}

  abbrev Token : SProp 𝓤
  Token = sep 𝓤 (𝓛.A.lft κ q) (emp 𝓤)

  module _ (s : Share) (x : Bor (List R.Denot)) (i : ℕ) (d : R.Denot) where
    -- the element, and what shuts the run once it is read
    abbrev Element : Fml
    Element = cell_at s R.mir (r.vals (get_or x.now i d)) x.ref_ptr.0 (i * (mem R).size + x.ref_ptr.1)

    abbrev Shut : Item 𝓤
    Shut = ‵ (fsep (R.own_val (get_or x.now i d) (r.vals (get_or x.now i d))) (others (shares R) s x.now i x.ref_ptr.0 x.ref_ptr.1))
        ⊛ O.Shut 𝓛 κ q (row R s x.now x.ref_ptr.0 x.ref_ptr.1)

  module _ {K : Type 0} {Γ : List (Item 𝓤)} {G : Goal 𝓤 H} where
    pub looks : K → Soaks G → (x : Bor (List R.Denot)) {vs : List Val} (i : ℕ) (d : R.Denot) → i < length x.now
        → ((s : Share) → Is R (get_or x.now i d) (r.vals (get_or x.now i d))
        → Seq K 𝓛 (‵ (Element s x i d) ∷ Shut s x i d ∷ Γ) G)
        → Seq K 𝓛 (raw Token ∷ ‵ ((ShrSlice erased κ R).own_val x vs) ∷ Γ) G
    looks t z x i d l k =
        let b = x.ref_ptr.0 in
        let o = x.ref_ptr.1 in
        use1 𝓛 (‵ (flft κ q) ⊛ ‵ ftrue) (id⊢ 𝓤 Token) $ split t $ move t (1 ∷ []) $ drop t $
        -- [the token; the run]: of the run only what is borrowed is wanted
        move t (1 ∷ []) $ fsplit t $ drop t $
        looks_slice t z R r.copied x.now b o (λ s.
        elem_out t R (Is R) (shows 𝓛 R) r.vals r.tells s x.now i d b o l (λ is.
        rewrite t 0 (λ (p : ℕ). ‵ (cell_at s R.mir (r.vals (get_or x.now i d)) b p)) (place_is (mem R).size o i) refl $
        -- [the element; what it owns; the others; the token's way back; what is borrowed]
        move t (4 ∷ []) $ drop t $ move t (1 ∷ 2 ∷ []) $ fjoin t $ move t (0 ∷ 2 ∷ []) $ join t $ move t (1 ∷ 0 ∷ []) $ k s is))

    pub shuts : K → Soaks G → (s : Share) (x : Bor (List R.Denot)) (i : ℕ) (d : R.Denot) → i < length x.now
        → Step K 𝓛 (raw Token ∷ Γ) G (‵ (Element s x i d) ∷ Shut s x i d ∷ Γ) G
    shuts t z s x i d l = step (λ k.
        let b = x.ref_ptr.0 in
        let o = x.ref_ptr.1 in
        rewrite t 0 (λ (p : ℕ). ‵ (cell_at s R.mir (r.vals (get_or x.now i d)) b p)) (sym (place_is (mem R).size o i)) refl $
        move t (1 ∷ []) $ split t $ fsplit t $ move t (3 ∷ 0 ∷ 1 ∷ 2 ∷ []) $
        elem_back t R s x.now i d (r.vals (get_or x.now i d)) b o l $ shuts_slice t z R s x.now b o $
        nothing t $ move t (1 ∷ 0 ∷ []) $ use2 𝓛 (raw Token) (id⊢ 𝓤 Token) $ k)

module _ {M : Type 1} {𝓤 : Ura M} {𝓛 : Logic 𝓤} (w : World 𝓛) {R : RattleType} (r : Plain w R) (xs : List R.Denot) (b : ℕ) where
  open 𝓛 use {H}

  -- the run that is lent, and what gives its elements back
  abbrev pub run : Bor (List R.Denot)
  run = record { ref_ptr = (b, 0); now = xs }

  abbrev Own : ℕ → Fml
  Own α = (ShrSlice erased (α ∷ []) R).own_val run (shr_slice_vals run)

  abbrev Back : ℕ → Fml
  Back α = flent (α ∷ []) ((arr_parts (shares R) (length xs)).part full_share xs b 0)

  module _ {K : Type 0} {Γ : List (Item 𝓤)} {G : Goal 𝓤 H} where
    pub lends : K → Soaks G → Room R (length xs)
        → ((α : ℕ) → Seq K 𝓛 (raw (Token w r (α ∷ []) full_share) ∷ ‵ (Own α) ∷ ‵ (Back α) ∷ Γ) G)
        → Seq K 𝓛 (‵ (row R full_share xs b 0) ∷ Γ) G
    lends t z room k =
        feq_i t ℕ (length xs) (length xs) refl $ fjoin t $ lft_new t z (λ α. move t (1 ∷ 0 ∷ []) $
        use2 𝓛 (later ((‵ (Own α) ⊛ ‵ (Back α)) ⊛ ‵ (flft (α ∷ []) full_share)))
        (lends_shr_slice 𝓛 R erased (α ∷ []) full_share xs b 0 room (α ∷ []) (r.copied.shares full_share (α ∷ []))
        ((α ∷ [], full_share) ∷ []) (Incl-refl (α ∷ [])) (Incl-refl (α ∷ []))) $ await t z $ split t $ split t $
        -- [what the run owns; what gives back; the token]
        nothing t $ move t (3 ∷ 0 ∷ []) $
        use2 𝓛 (raw (Token w r (α ∷ []) full_share)) (id⊢ 𝓤 (Token w r (α ∷ []) full_share)) $ k α)

    pub returns : K → Soaks G → (α : ℕ)
        → Step K 𝓛 (‵ (row R full_share xs b 0) ∷ Γ) G (raw (Token w r (α ∷ []) full_share) ∷ ‵ (Back α) ∷ Γ) G
    returns t z α = step (λ k.
        use1 𝓛 (‵ (flft (α ∷ []) full_share) ⊛ ‵ ftrue) (id⊢ 𝓤 (Token w r (α ∷ []) full_share)) $
        split t $ move t (1 ∷ []) $ drop t $
        lft_end t z $ lent_back t z $ fsplit t $ drop t $ k)
