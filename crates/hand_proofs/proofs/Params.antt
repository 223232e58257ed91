-- What a walk has to know of a parameter's type: that a contract says nothing of it at exit,
-- how a value of it is spelled as machine values, and that these have the parameter's type.
-- So a parameter is plain data, a `&`, or a struct of such. Of a `&mut` something is said at exit: for one this does not serve.
--     by_value r q     plain data; q is `λ κs x f. refl`.        number      a u64 or a usize
--     lent j ok R      a `&'j [R]`
--     struct D L q     a struct that holds references: D and L are its generated type and laws; q is as above
use mathlib.Core.Path.{refl}
use mathlib.Core.List.{List, [], ◌∷◌}
use Prim.Native.Nat.{ℕ}
use seplogic.Ra.Ura.{Ura}
use mir.Syntax.{named}
use mir.Val.{Val}
use types.Logic.{Logic}
use contract.Lifetimes.{Lfts, Within, lft_at}
use denote.Exit.{Kept, yes}
use denote.RattleType.{RattleType}
use denote.Laws.{Is, Ises, Spells, Tells, Tellss, Lawful, Lawfuls}
use denote.Signature.{Slot, plain, shr_slice, types_at}
use denote.Builtin.{u64}
use denote.Slice.{shr_slice_vals, shr_slice_Tells, shr_slice_Lawful}
use denote.Struct.Declared.{Declared, row}
use denote.Struct.Laws as LL
use denote.Triple.End.{Kepts}
use denote.Triple.Walked.{Silent, Stays, stay_dropped, AllGo, Goes-dropped}
use Rattle.hand_proofs.proofs.World.{World}
use Rattle.hand_proofs.proofs.Plains.{Plain, word}

module _ {M : Type 1} {𝓤 : Ura M} {𝓛 : Logic 𝓤} (w : World 𝓛) {n : ℕ} where
  open 𝓛 use {H}

  abbrev pub Unsaid : Slot n → Kept → Type 1
  Unsaid s k = Silent 𝓛 n s k

  pub record Param (s : Slot n) (k : Kept) : Type 1 where
    pub silent : Unsaid s k
    pub vals : (κs : Lfts n) → (s.row κs).Denot → List Val
    pub tells : (κs : Lfts n) → Tells (s.row κs) (Is (s.row κs)) (vals κs)
    pub lawful : (κs : Lfts n) → Lawful 𝓛 (s.row κs)

  abbrev pub Params : (ss : List (Slot n)) → Kepts ss → Type 1
  Params [] ks = Unit {1}
  Params (s ∷ ss) ks = Param s ks.0 × Params ss ks.1

  abbrev pub spells : (ss : List (Slot n)) (ks : Kepts ss) → Params ss ks → (κs : Lfts n) → Spells (types_at ss κs)
  spells [] ks ps κs = tt
  spells (s ∷ ss) ks ps κs = (ps.0.vals κs, spells ss ks.1 ps.1 κs)

  pub all_tell : (ss : List (Slot n)) (ks : Kepts ss) (ps : Params ss ks) (κs : Lfts n)
      → Tellss (types_at ss κs) (Ises (types_at ss κs)) (spells ss ks ps κs)
  all_tell [] ks ps κs = tt
  all_tell (s ∷ ss) ks ps κs = (ps.0.tells κs, all_tell ss ks.1 ps.1 κs)

  pub all_lawful : (ss : List (Slot n)) (ks : Kepts ss) → Params ss ks → (κs : Lfts n) → Lawfuls 𝓛 (types_at ss κs)
  all_lawful [] ks ps κs = tt
  all_lawful (s ∷ ss) ks ps κs = (ps.0.lawful κs, all_lawful ss ks.1 ps.1 κs)

  -- nothing is kept of the parameters for the exit
  abbrev pub dropped : (ss : List (Slot n)) (ks : Kepts ss) → Stays ss ks
  dropped [] ks = tt
  dropped (s ∷ ss) ks = (stay_dropped s ks.0, dropped ss ks.1)

  pub all_go : (ss : List (Slot n)) (ks : Kepts ss) → Params ss ks → AllGo 𝓛 n ss ks (dropped ss ks)
  all_go [] ks ps = tt
  all_go (s ∷ ss) ks ps = (Goes-dropped 𝓛 n s ks.0 ps.0.silent, all_go ss ks.1 ps.1)

  abbrev pub by_value : {R : RattleType} → Plain w R → Unsaid (plain (λ κs. R)) yes → Param (plain (λ κs. R)) yes
  by_value r q = record { silent = q; vals = λ κs. r.vals; tells = λ κs. r.tells; lawful = λ κs. r.lawful }

  abbrev pub number : Param (plain (λ κs. u64)) yes
  number = by_value (word w) (λ κs x f. refl)

  abbrev pub lent : (j : ℕ) (ok : Within n j) (R : RattleType) → Param (shr_slice j ok (λ κs. R)) yes
  lent j ok R = record {
    silent = λ κs x f. refl;
    vals = λ κs. shr_slice_vals;
    tells = λ κs. shr_slice_Tells (named j) (lft_at n j ok κs) R;
    lawful = λ κs. shr_slice_Lawful 𝓛 (named j) (lft_at n j ok κs) R;
  }

  abbrev pub struct : (D : Lfts n → Declared) (L : (κs : Lfts n) → LL.Laws (D κs)) → Unsaid (plain (λ κs. row (D κs))) yes
      → Param (plain (λ κs. row (D κs))) yes
  struct D L q = record {
    silent = q;
    vals = λ κs. LL.vals (D κs) (L κs);
    tells = λ κs. LL.tells (D κs) (L κs);
    lawful = λ κs. LL.lawful (D κs) (L κs) 𝓛;
  }
