-- A call in a walk, and all that follows it up to the store of its result.
--     calls P kept y asked φ said os k     [what the callee is handed; ..] becomes [what the result owns; the tokens; ..],
--                      with the fact φ of the result in hand, which the `ensures` says
--     calls_is P kept y asked a said tells os k     the same where the `ensures` says that the result is a: what follows is of a alone,
--                      spelled as its type's law `tells` has it
--     calls_last       the same of a call that is the last statement of its part
--     calls_as         the same where the `ensures` stays in the context, as the assertion Q: [what the result owns; the tokens; Q; ..]
--     hands_on P y     [the tokens; what the arguments own; ..] becomes [what the callee is handed; ..]
--     hands P y e made     [the tokens; what the first argument owns; ..] becomes that: the other arguments own nothing that has to be had
--     hands_none P y alive made    [..] becomes that: the callee has no lifetime, and no argument owns anything that has to be had
--     nil 𝓤            shows what holds of nothing: that a callee asks nothing (asked), that there are no tokens (alive)
use mathlib.Core.Path.{◌≡◌, subst, sym}
use mathlib.Core.List.{List, [], ◌∷◌, head-eq_of_cons-eq}
use seplogic.Ra.Ura.{Ura}
use mir.Syntax.{Callee as Name, Place, Opd as Operand, Body, seq, call}
use mir.Val.{Val}
use base.Logic.{SProp, ent, sep, emp, via, snd∗, ex_e, id⊢, mono_r}
use base.Fml.{Fml, fsep}
use prog.Wp.{Env}
use types.Logic.{Logic, sem}
use sound.WpLaws.{fm_of}
use contract.Monad.{Fun, fact}
use types.Kit.{Goal, Soaks, Item, Post, Seq, Step, ‵, raw, ◌⊛◌, some, later, runs, lands, settles}
use types.Kit.{◌$◌, move, use0, use1, use2, split, pick, await}
use types.Run.{Opds}
use denote.RattleType.{RattleType}
use denote.Laws.{Is, Tells, shows}
use denote.Signature.{type_at}
use denote.Steps.{peeks, heard}
use denote.Triple.Bound.{passed}
use denote.Triple.Call.{calls_from, calls_from_last}
use denote.Triple.Clauses.{lasts, ensured, closing}
use denote.Triple.Spec.{triple_of}
use Rattle.hand_proofs.proofs.World.{World, Promise, Keeps, Callee}
use Rattle.hand_proofs.proofs.Meets.{Call, Asked, Answer, Last, Said, Tokens, Owned, Result, beside}

pub nil : {M : Type 1} (𝓤 : Ura M) → ent 𝓤 (emp 𝓤) (emp 𝓤)
nil 𝓤 = id⊢ 𝓤 (emp 𝓤)

module _ {M : Type 1} {𝓤 : Ura M} {𝓛 : Logic 𝓤} (w : World 𝓛) (P : Promise 𝓤) (y : Call w P) where
  open 𝓛 use {H}

  -- what the callee is handed, and what it leaves
  abbrev pub Handed : SProp 𝓤
  Handed = sep 𝓤 (Tokens w P y) (sem 𝓛 (Owned w P y))

  abbrev After : Val → SProp 𝓤
  After v = (triple_of 𝓛 P.0.signature (closing 𝓛 P.0 P.1)).post y v

  abbrev pub passes : List Val
  passes = passed 𝓛 P.0.signature y.0

  abbrev pub R : RattleType
  R = type_at P.0.signature.result y.0.0

  abbrev pub Says : (Answer w P y → SProp 𝓤) → Type 1
  Says Q = (r : Answer w P y) (ws : Last w P y) → ent 𝓤 (Said w P y r ws) (Q r)

  -- the walk goes on, where the `ensures` is the assertion Q, and where it is the fact φ
  abbrev pub GoesOn : Type 0 → List (Item 𝓤) → (Answer w P y → SProp 𝓤) → (Val → Goal 𝓤 H) → Type 1
  GoesOn K Γ Q G = (v : Val) (r : Answer w P y) → Is R r (v ∷ [])
      → Seq K 𝓛 (‵ (Result w P y r v) ∷ raw (Tokens w P y) ∷ raw (Q r) ∷ Γ) (G v)

  abbrev pub Goes : Type 0 → List (Item 𝓤) → Val → Answer w P y → Goal 𝓤 H → Type 1
  Goes K Γ v r g = Is R r (v ∷ []) → Seq K 𝓛 (‵ (Result w P y r v) ∷ raw (Tokens w P y) ∷ Γ) g

  abbrev pub Knows : Type 0 → List (Item 𝓤) → (Answer w P y → Type 0) → (Val → Goal 𝓤 H) → Type 1
  Knows K Γ φ G = (v : Val) (r : Answer w P y) → φ r → Goes K Γ v r (G v)

  meets : (run : Fun 𝓤) → Keeps w P run → ent 𝓤 (emp 𝓤) (Asked w P y) → ent 𝓤 Handed (run passes After)
  meets run kept asked = via 𝓤 (sep 𝓤 Handed (Asked w P y)) (beside 𝓤 (Asked w P y) Handed asked) (kept y)

  answers : {K : Type 0} {Γ : List (Item 𝓤)} (G : Val → Goal 𝓤 H) → K → ((v : Val) → Soaks (G v)) → (Q : Answer w P y → SProp 𝓤) → Says Q
      → GoesOn K Γ Q G → (v : Val) → Seq K 𝓛 (raw (After v) ∷ Γ) (G v)
  answers G t z Q said k v =
      let said_at : Answer w P y → SProp 𝓤 = λ r. ensured 𝓛 P.0 P.1 y.0.0 y.0.3 y.1 r in
      let lasting : Last w P y → SProp 𝓤 = λ ws. sem 𝓛 (lasts P.0 y.0.0 y.0.3 ws) in
      use1 𝓛 (later (some (λ r. (raw (Tokens w P y) ⊛ ‵ (Result w P y r v)) ⊛ raw (said_at r)))) (id⊢ 𝓤 _) $
      await t (z v) $ pick t (λ r. split t $ move t (1 ∷ []) $
      use1 𝓛 (raw (Q r)) (ex_e 𝓤 _ (λ ws. via 𝓤 (Said w P y r ws) (snd∗ 𝓤 (lasting ws) _) (said r ws))) $
      move t (1 ∷ []) $ split t $ move t (1 ∷ []) $ peeks t R (Is R) (shows 𝓛 R) r (v ∷ []) (λ is. k v r is))

  hears : {K : Type 0} {Γ : List (Item 𝓤)} (G : Val → Goal 𝓤 H) (φ : Answer w P y → Type 0) → K
      → Knows K Γ φ G → GoesOn K Γ (λ r. fact 𝓤 (φ r)) G
  hears G φ t k v r is = move t (2 ∷ []) $ heard t (φ r) (λ e. k v r e is)

  -- where the result is a, whose machine value is val a
  told : {K : Type 0} {Γ : List (Item 𝓤)} (G : Val → Goal 𝓤 H) (a : Answer w P y) (val : Answer w P y → Val)
      → Tells R (Is R) (λ r. val r ∷ []) → Goes K Γ (val a) a (G (val a)) → Knows K Γ (λ r. r ≡ a) G
  told {K} {Γ} G a val tells k v r e =
      subst (λ (x : Answer w P y). Goes K Γ v x (G v)) (sym e) (λ is.
      subst (λ (u : Val). Goes K Γ u a (G u)) (sym (head-eq_of_cons-eq (tells a (v ∷ []) is))) k is)

module _ {M : Type 1} {𝓤 : Ura M} {𝓛 : Logic 𝓤} {K : Type 0} (w : World 𝓛) {Γ : List (Item 𝓤)} where
  open 𝓛 use {H}

  pub hands_on : K → {G : Goal 𝓤 H} (P : Promise 𝓤) (y : Call w P)
      → Step K 𝓛 (raw (Handed w P y) ∷ Γ) G (raw (Tokens w P y) ∷ ‵ (Owned w P y) ∷ Γ) G
  hands_on t P y = use2 𝓛 (raw (Handed w P y)) (id⊢ 𝓤 (Handed w P y))

  pub hands : K → {G : Goal 𝓤 H} (P : Promise 𝓤) (y : Call w P) {F O : Fml} → Owned w P y ≡ fsep F O → ent 𝓤 (emp 𝓤) (sem 𝓛 O)
      → Step K 𝓛 (raw (Handed w P y) ∷ Γ) G (raw (Tokens w P y) ∷ ‵ F ∷ Γ) G
  hands t P y {F} {O} e made =
      let owned : Fml → SProp 𝓤 = λ X. sep 𝓤 (Tokens w P y) (sem 𝓛 X) in
      use2 𝓛 (raw (Handed w P y)) (subst (λ (X : Fml). ent 𝓤 (owned F) (owned X)) (sym e)
      (mono_r 𝓤 (Tokens w P y) (beside 𝓤 (sem 𝓛 O) (sem 𝓛 F) made)))

  pub hands_none : K → {G : Goal 𝓤 H} (P : Promise 𝓤) (y : Call w P) → ent 𝓤 (emp 𝓤) (Tokens w P y)
      → ent 𝓤 (emp 𝓤) (sem 𝓛 (Owned w P y))
      → Step K 𝓛 (raw (Handed w P y) ∷ Γ) G Γ G
  hands_none t P y alive made =
      use0 𝓛 (raw (Handed w P y)) (via 𝓤 (Tokens w P y) alive (beside 𝓤 (sem 𝓛 (Owned w P y)) (Tokens w P y) made))

  module _ {E : Env 𝓤 H} {f : Name} {xs : List Operand} {q : Post 𝓤 H} {d : Place} where
    pub calls_as : K → {rest : Body} (P : Promise 𝓤) → Callee w P f → (y : Call w P) → ent 𝓤 (emp 𝓤) (Asked w P y)
        → (Q : Answer w P y → SProp 𝓤) → Says w P y Q → Opds K 𝓛 (raw (Handed w P y) ∷ Γ) E xs (passes w P y)
        → GoesOn w P y K Γ Q (λ v. lands w.tables.C w.tables.Λ E d v rest q)
        → Seq K 𝓛 (raw (Handed w P y) ∷ Γ) (runs w.tables.C w.tables.Λ E (seq (call f xs d) rest) q)
    calls_as t {rest} P kept y asked Q said os k =
        calls_from t (fm_of 𝓤 H 𝓛.laws w.tables) (raw (Handed w P y)) (passes w P y) (After w P y)
        (meets w P y (w.tables.C f) kept asked) os
        (answers w P y (λ v. lands w.tables.C w.tables.Λ E d v rest q) t (λ v. tt) Q said k)

    pub calls : K → {rest : Body} (P : Promise 𝓤) → Callee w P f → (y : Call w P) → ent 𝓤 (emp 𝓤) (Asked w P y)
        → (φ : Answer w P y → Type 0) → Says w P y (λ r. fact 𝓤 (φ r)) → Opds K 𝓛 (raw (Handed w P y) ∷ Γ) E xs (passes w P y)
        → Knows w P y K Γ φ (λ v. lands w.tables.C w.tables.Λ E d v rest q)
        → Seq K 𝓛 (raw (Handed w P y) ∷ Γ) (runs w.tables.C w.tables.Λ E (seq (call f xs d) rest) q)
    calls t {rest} P kept y asked φ said os k =
        calls_as t P kept y asked (λ r. fact 𝓤 (φ r)) said os (hears w P y (λ v. lands w.tables.C w.tables.Λ E d v rest q) φ t k)

    pub calls_is : K → {rest : Body} (P : Promise 𝓤) → Callee w P f → (y : Call w P) → ent 𝓤 (emp 𝓤) (Asked w P y)
        → (a : Answer w P y) → Says w P y (λ r. fact 𝓤 (r ≡ a))
        → {val : Answer w P y → Val} → Tells (R w P y) (Is (R w P y)) (λ r. val r ∷ [])
        → Opds K 𝓛 (raw (Handed w P y) ∷ Γ) E xs (passes w P y)
        → Goes w P y K Γ (val a) a (lands w.tables.C w.tables.Λ E d (val a) rest q)
        → Seq K 𝓛 (raw (Handed w P y) ∷ Γ) (runs w.tables.C w.tables.Λ E (seq (call f xs d) rest) q)
    calls_is t {rest} P kept y asked a said {val} tells os k =
        calls t P kept y asked (λ r. r ≡ a) said os (told w P y (λ v. lands w.tables.C w.tables.Λ E d v rest q) a val tells k)

    pub calls_last : K → (P : Promise 𝓤) → Callee w P f → (y : Call w P) → ent 𝓤 (emp 𝓤) (Asked w P y)
        → (φ : Answer w P y → Type 0) → Says w P y (λ r. fact 𝓤 (φ r)) → Opds K 𝓛 (raw (Handed w P y) ∷ Γ) E xs (passes w P y)
        → Knows w P y K Γ φ (λ v. settles E d v q)
        → Seq K 𝓛 (raw (Handed w P y) ∷ Γ) (runs w.tables.C w.tables.Λ E (call f xs d) q)
    calls_last t P kept y asked φ said os k =
        calls_from_last t (fm_of 𝓤 H 𝓛.laws w.tables) (raw (Handed w P y)) (passes w P y) (After w P y)
        (meets w P y (w.tables.C f) kept asked) os
        (answers w P y (λ v. settles E d v q) t (λ v. tt) (λ r. fact 𝓤 (φ r)) said (hears w P y (λ v. settles E d v q) φ t k))
