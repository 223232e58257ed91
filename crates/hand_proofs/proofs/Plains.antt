-- Plain data: how a value is spelled as machine values, that these have the type's MIR types,
-- that what it owns can be had twice, and for nothing, and that a `&` to it is made and read.
--     word, truth, unit    a u64 or a usize; a bool; `()`
--     record_of D L c p    a struct of plain data, by its generated type, laws, `the_copy` and `the_plain`
--     choice_of D L c p    an enum of plain data, likewise
--     row_of r n       an array of n
--     owned r x v is   what a value owns, for nothing: [..] becomes [what x owns; ..].        made      what a list of values owns
use mathlib.Core.List.{List, [], ◌∷◌}
use Prim.Native.Nat.{ℕ}
use seplogic.Ra.Ura.{Ura}
use mir.Syntax.{w64}
use mir.Val.{Val}
use base.Logic.{ent, sep, emp, emp∗, via, id⊢, mono∗}
use types.Logic.{Logic, sem}
use types.Kit.{Goal, Item, Step, ‵, use0}
use denote.RattleType.{RattleType, Denots, Valss, owns}
use denote.Laws.{Is, Ises, Are, Tells, Makes, Copy, Lawful}
use denote.Array.{Array, array_vals, Array-Tells, array_copy, Array-Makes, Array-Lawful}
use denote.ArrayMemory.{Single}
use denote.Builtin.{u64}
use denote.Copied.{Copied, uint_Copied, bool_Copied, Nothing-Copied, Array-Copied}
use denote.Plain.{uint_vals, uint_Tells, uint_copy, uint_Makes, uint_Lawful}
use denote.Plain.{Boolean, bool_vals, bool_Tells, bool-copy, bool_Makes, bool_Lawful}
use denote.Plain.{Nothing, nothing_vals, Nothing-Tells, Nothing-copy, Nothing-Makes, Nothing-Lawful}
use denote.Enum.Declared as ED
use denote.Enum.Enum.{Few, Plainss}
use denote.Enum.Laws as EL
use denote.Struct.Declared.{Declared, row, fields}
use denote.Struct.Laws as LL
use denote.Struct.Struct.{Plains}
use Rattle.hand_proofs.proofs.World.{World}

module _ {M : Type 1} {𝓤 : Ura M} {𝓛 : Logic 𝓤} (w : World 𝓛) where
  open 𝓛 use {H}

  pub record Plain (R : RattleType) : Type 1 where
    pub vals : R.Denot → List Val
    pub tells : Tells R (Is R) vals
    pub copy : Copy 𝓛 R
    pub makes : Makes 𝓛 R (Is R)
    pub lawful : Lawful 𝓛 R
    pub single : Single R.mir
    pub copied : Copied 𝓛 R

  abbrev pub word : Plain u64
  word = record {
    vals = uint_vals w64;
    tells = uint_Tells w64;
    copy = uint_copy 𝓛 w64;
    makes = uint_Makes 𝓛 w64;
    lawful = uint_Lawful 𝓛 w64;
    single = tt;
    copied = uint_Copied 𝓛 w64;
  }

  abbrev pub truth : Plain Boolean
  truth = record {
    vals = bool_vals;
    tells = bool_Tells;
    copy = bool-copy 𝓛;
    makes = bool_Makes 𝓛;
    lawful = bool_Lawful 𝓛;
    single = tt;
    copied = bool_Copied 𝓛;
  }

  abbrev pub unit : Plain Nothing
  unit = record {
    vals = nothing_vals;
    tells = Nothing-Tells;
    copy = Nothing-copy 𝓛;
    makes = Nothing-Makes 𝓛;
    lawful = Nothing-Lawful 𝓛;
    single = tt;
    copied = Nothing-Copied 𝓛;
  }

  abbrev pub row_of : {R : RattleType} → Plain R → (n : ℕ) → Plain (Array R n)
  row_of {R} r n = record {
    vals = array_vals r.vals;
    tells = Array-Tells R r.vals r.tells n;
    copy = array_copy 𝓛 R r.copy n;
    makes = Array-Makes 𝓛 R r.makes n;
    lawful = Array-Lawful 𝓛 R r.lawful n;
    single = tt;
    copied = Array-Copied 𝓛 R r.copied r.single n;
  }

  abbrev pub record_of : (D : Declared) (L : LL.Laws D) → LL.Copyables D.parts → Plains (fields D) → Plain (row D)
  record_of D L c p = record {
    vals = LL.vals D L;
    tells = LL.tells D L;
    copy = LL.copy D c 𝓛;
    makes = LL.makes D p 𝓛;
    lawful = LL.lawful D L 𝓛;
    single = tt;
    copied = LL.copied D c 𝓛;
  }

  abbrev pub choice_of : (D : ED.Declared) (L : EL.Laws D) → Few (ED.shape D) → EL.Copyabless D.parts
      → Plainss (ED.variants D) → Plain (ED.row D)
  choice_of D L few c p = record {
    vals = EL.vals D L;
    tells = EL.tells D L;
    copy = EL.copy D c 𝓛;
    makes = EL.makes D p 𝓛;
    lawful = EL.lawful D L 𝓛 few;
    single = tt;
    copied = EL.copied D c 𝓛;
  }

  pub owned : {K : Type 0} {Γ : List (Item 𝓤)} {G : Goal 𝓤 H} → K → {R : RattleType} → Plain R → (x : R.Denot) (v : Val) → Is R x (v ∷ [])
      → Step K 𝓛 (‵ (R.own_val x (v ∷ [])) ∷ Γ) G Γ G
  owned t {R} r x v is = use0 𝓛 (‵ (R.own_val x (v ∷ []))) (r.makes x (v ∷ []) is)

  abbrev pub AllPlain : List RattleType → Type 1
  AllPlain [] = Unit {1}
  AllPlain (R ∷ Rs) = Plain R × AllPlain Rs

  pub made : (Rs : List RattleType) → AllPlain Rs → (a : Denots Rs) (vss : Valss Rs) → Are Rs (Ises Rs) a vss
      → ent 𝓤 (emp 𝓤) (sem 𝓛 (owns Rs a vss))
  made [] rs a vss is = id⊢ 𝓤 (emp 𝓤)
  made (R ∷ Rs) rs a vss is =
      via 𝓤 (sep 𝓤 (emp 𝓤) (emp 𝓤)) (emp∗ 𝓤 (emp 𝓤))
      (mono∗ 𝓤 (rs.0.makes a.0 vss.0 is.0) (made Rs rs.1 a.1 vss.1 is.1))
