-- An array in a local: its elements one by one, cut at a place, and whole again. While a loop writes an array, it is kept as its elements.
--     spreads one n xs b u is     [the array in block b, at the value u; ..] becomes [its elements; ..]
--     gathers n xs b e k          [its elements; ..] becomes [the array in block b, at some value; ..],
--                                 and k is handed that the value is xs's
--     cuts xs k b                 [the elements; ..] becomes [the first k; the others; ..].        joins      and back
--     takes p xs b i d l e        element i of the array at place p comes to the head, and the others stay at place p
--     puts p xs b i y v l is e    what is at the head, y, goes to where element i was
use mathlib.Core.Path.{◌≡◌, refl, sym, subst}
use mathlib.Core.List.{List, [], ◌∷◌, ◌++◌}
use Prim.Native.Nat.{ℕ, suc, ◌+◌, ◌*◌, ◌<◌}
use lib.ListN.{length, get_or, set, take, drop as past, take-append-drop}
use seplogic.Ra.Ura.{Ura}
use base.Fraction.{full_share}
use mir.Syntax.{Ty, ty_array}
use mir.Val.{Val}
use base.Logic.{ent}
use base.Fml.{fsep, fat}
use types.Logic.{Logic}
use types.Kit.{Goal, Item, Seq, Step, step, ‵, ◌⊛◌, mean, nth, del}
use types.Kit.{◌$◌, ◌∵◌, !, qed, by, done, move, drop, use1, use2, split, rewrite, fsplit, fjoin, fpick, fpack, feq_i}
use types.SemTy.{cells}
use types.Share.{arr_parts}
use denote.RattleType.{RattleType}
use denote.Laws.{Is, shows}
use denote.Memory.{cell_at, lone, mem, part_at, part_of, shares}
use denote.Array.{Array}
use denote.ArrayMemory.{Single, Array-apart, Array-whole}
use denote.Index.{row, place_is, others, elem_out, elem_put, whole_out, whole_in}
use denote.Steps.{facts}
use borrow.Table.Elements.{at, cut_app, join_app}
use Rattle.hand_proofs.proofs.World.{World}
use Rattle.hand_proofs.proofs.Plains.{Plain, row_of, owned}
use Rattle.hand_proofs.proofs.Entries.{insert, back}

-- where the elements after the first k begin
abbrev after : (R : RattleType) → List R.Denot → ℕ → ℕ
after R xs k = at 0 (mem R).size (length (take k xs))

-- the array's type, as a local has it
abbrev pub array : RattleType → ℕ → Ty
array R n = ty_array (lone R.mir) n

module _ {M : Type 1} {𝓤 : Ura M} {𝓛 : Logic 𝓤} (w : World 𝓛) {R : RattleType} (r : Plain w R) where
  open 𝓛 use {H}

  -- the elements, in block b
  abbrev Row : List R.Denot → ℕ → Item 𝓤
  Row xs b = ‵ (row R full_share xs b 0)

  abbrev Others : List R.Denot → ℕ → ℕ → Item 𝓤
  Others xs i b = ‵ (others (shares R) full_share xs i b 0)

  -- those after the first k
  abbrev Tail : List R.Denot → ℕ → ℕ → Item 𝓤
  Tail xs k b = ‵ (row R full_share (past k xs) b (after R xs k))

  -- element i, from its machine values
  abbrev Element : List Val → ℕ → ℕ → Item 𝓤
  Element vs i b = ‵ (cell_at full_share R.mir vs b (i * (mem R).size + 0))

  -- the entry at place p, replaced
  abbrev At : ℕ → Item 𝓤 → List (Item 𝓤) → List (Item 𝓤)
  At p i Γ = insert 𝓛 p i (del 𝓛 p Γ)

  cut : (xs : List R.Denot) (k b : ℕ) → ent 𝓤 (mean 𝓛 (Row xs b)) (mean 𝓛 (Row (take k xs) b ⊛ Tail xs k b))
  cut xs k b =
      qed 𝓛 (Row xs b ∷ []) ∵ use1 𝓛 (‵ (cells (mem R) xs b 0)) (whole_in 𝓛 R xs b 0) $
      rewrite ! 0 (λ (ys : List R.Denot). ‵ (cells (mem R) ys b 0)) (sym (take-append-drop k xs)) refl $
      use1 𝓛 (‵ (cells (mem R) (take k xs) b 0) ⊛ ‵ (cells (mem R) (past k xs) b (after R xs k)))
      (cut_app 𝓛 (mem R) (take k xs) (past k xs) b 0) $ split ! $
      use1 𝓛 (Row (take k xs) b) (whole_out 𝓛 R (take k xs) b 0) $ move ! (1 ∷ []) $
      use1 𝓛 (Tail xs k b) (whole_out 𝓛 R (past k xs) b (after R xs k)) $ move ! (1 ∷ 0 ∷ []) $ done !

  uncut : (xs : List R.Denot) (k b : ℕ) → ent 𝓤 (mean 𝓛 (Row (take k xs) b ⊛ Tail xs k b)) (mean 𝓛 (Row xs b))
  uncut xs k b =
      qed 𝓛 (Row (take k xs) b ∷ Tail xs k b ∷ []) ∵
      use1 𝓛 (‵ (cells (mem R) (take k xs) b 0)) (whole_in 𝓛 R (take k xs) b 0) $ move ! (1 ∷ []) $
      use1 𝓛 (‵ (cells (mem R) (past k xs) b (after R xs k))) (whole_in 𝓛 R (past k xs) b (after R xs k)) $
      move ! (1 ∷ 0 ∷ []) $
      use2 𝓛 (‵ (cells (mem R) (take k xs ++ past k xs) b 0)) (join_app 𝓛 (mem R) (take k xs) (past k xs) b 0) $
      rewrite ! 0 (λ (ys : List R.Denot). ‵ (cells (mem R) ys b 0)) (take-append-drop k xs) refl $
      by ! (whole_out 𝓛 R xs b 0)

  module _ {K : Type 0} {Γ : List (Item 𝓤)} {G : Goal 𝓤 H} where
    pub spreads : K → Single R.mir → (n : ℕ) (xs : List R.Denot) (b : ℕ) (u : Val) → Is (Array R n) xs (u ∷ [])
        → Step K 𝓛 (Row xs b ∷ Γ) G (‵ (fat full_share (array R n) b 0 u) ∷ Γ) G
    unfolding part_of
    spreads t one n xs b u is = step (λ s.
        use1 𝓛 (‵ (cell_at full_share (Array R n).mir (u ∷ []) b 0)) (𝓛.laws.at_raw full_share (array R n) b 0 u) $
        owned w t (row_of w r n) xs u is $ move t (1 ∷ 0 ∷ []) $ fjoin t $
        fpack t (List Val) (λ vs. fsep (cell_at full_share (Array R n).mir vs b 0) ((Array R n).own_val xs vs)) (u ∷ []) $
        use1 𝓛 (‵ ((arr_parts (shares R) n).part full_share xs b 0))
        (Array-apart 𝓛 R full_share one n xs b 0) $
        fsplit t $ drop t $ s)

    pub gathers : K → (n : ℕ) (xs : List R.Denot) (b : ℕ) → length xs ≡ n
        → ((u : Val) → Is (Array R n) xs (u ∷ []) → Seq K 𝓛 (‵ (fat full_share (array R n) b 0 u) ∷ Γ) G)
        → Seq K 𝓛 (Row xs b ∷ Γ) G
    unfolding part_of
    gathers t n xs b e k =
        let tells = (row_of w r n).tells xs in
        feq_i t ℕ (length xs) n e $ fjoin t $
        use1 𝓛 (‵ (part_at (Array R n) full_share xs b 0))
        (Array-whole 𝓛 R full_share n xs b 0) $ fpick t (λ vs.
        fsplit t $ move t (1 ∷ []) $ facts t (Array R n) (Is (Array R n)) (shows 𝓛 (Array R n)) xs vs (λ p.
        rewrite t 0 (λ (us : List Val). ‵ (cell_at full_share (Array R n).mir us b 0)) (tells vs p) refl $
        use1 𝓛 (‵ (fat full_share (array R n) b 0 _)) (𝓛.laws.raw_at full_share (array R n) b 0 _) $
        k _ (subst (Is (Array R n) xs) (tells vs p) p)))

    pub cuts : K → (xs : List R.Denot) (k b : ℕ) → Step K 𝓛 (Row (take k xs) b ∷ Tail xs k b ∷ Γ) G (Row xs b ∷ Γ) G
    cuts t xs k b = step (λ s. use1 𝓛 (Row (take k xs) b ⊛ Tail xs k b) (cut xs k b) $ split t $ s)

    pub joins : K → (xs : List R.Denot) (k b : ℕ) → Step K 𝓛 (Row xs b ∷ Γ) G (Row (take k xs) b ∷ Tail xs k b ∷ Γ) G
    joins t xs k b = use2 𝓛 (Row xs b) (uncut xs k b)

    pub takes : K → (p : ℕ) (xs : List R.Denot) (b i : ℕ) (d : R.Denot) → i < length xs → nth 𝓛 p Γ ≡ Row xs b
        → Step K 𝓛 (Element (r.vals (get_or xs i d)) i b ∷ At p (Others xs i b) Γ) G Γ G
    takes t p xs b i d l e = step (λ s.
        move t (p ∷ []) $ rewrite t 0 (λ (j : Item 𝓤). j) e refl $
        elem_out t R (Is R) (shows 𝓛 R) r.vals r.tells full_share xs i d b 0 l (λ is.
        rewrite t 0 (λ (o : ℕ). ‵ (cell_at full_share R.mir (r.vals (get_or xs i d)) b o)) (place_is (mem R).size 0 i) refl $
        move t (1 ∷ []) $ drop t $ move t (1 ∷ 0 ∷ []) $ back t (suc p) $ s))

    pub puts : K → (p : ℕ) (xs : List R.Denot) (b i : ℕ) (y : R.Denot) (v : Val) → i < length xs → Is R y (v ∷ [])
        → nth 𝓛 p Γ ≡ Others xs i b → Step K 𝓛 (At p (Row (set xs i y) b) Γ) G (Element (v ∷ []) i b ∷ Γ) G
    puts t p xs b i y v l is e = step (λ s.
        rewrite t 0 (λ (o : ℕ). ‵ (cell_at full_share R.mir (v ∷ []) b o)) (sym (place_is (mem R).size 0 i)) refl $
        move t (suc p ∷ []) $ rewrite t 0 (λ (j : Item 𝓤). j) e refl $ owned w t r y v is $
        move t (2 ∷ 0 ∷ 1 ∷ []) $ elem_put t R full_share xs i y (v ∷ []) b 0 l $ back t p $ s)
