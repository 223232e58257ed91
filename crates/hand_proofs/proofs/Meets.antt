-- From a walk of a function's MIR to its contract.
--     Call w P         what a call chooses: the lifetimes, the shares of their tokens, the arguments, their machine values
--     Walk w P f y     what a walk shows of the call y: from [the tokens; what the arguments own; _0; _1; ..; that they die]
--                      the body runs, and reaches what it has to
--     walks            the function keeps its promise, from a walk for each call
--     walks_if         the same where the `requires` is the fact φ, in hand
--     ends             the last step: what the result owns, and the tokens, are what a walk has to reach, once the `ensures` is shown
--     ends_as          the same where the `ensures` stands in the context: [what the result owns; the tokens; the `ensures`]
use mathlib.Core.List.{List, [], ◌∷◌}
use seplogic.Ra.Ura.{Ura}
use mir.Syntax.{Fn}
use mir.Val.{Val}
use base.Logic.{SProp, ent, sep, emp, via, fst∗, snd∗, id⊢, mono_l, mono_r, comm∗, emp∗}
use base.Fml.{Fml}
use prog.Wp.{WpFn}
use types.Logic.{Logic, sem}
use sound.WpLaws.{WpFn-mono}
use contract.Lifetimes.{Lfts, Shares, AllOutlive}
use contract.Monad.{fact, fact_i, fact_use}
use types.Kit.{Sq, ‵, raw, runs, at_ret, ◌$◌, ◌∵◌, !, qed, move, use1, join, suffices, done}
use denote.RattleType.{RattleType, Denots, Valss, flat, owns, mirs}
use denote.Laws.{Typed, Are, Ises, valss, all_Typed}
use denote.Signature.{Slot, Signature, type_at, types_at}
use denote.Steps.{nothing}
use denote.Triple.Bound.{Bound, passed}
use denote.Triple.Clauses.{Lasts, at_exit}
use denote.Triple.End.{Kepts, Fins}
use denote.Triple.Entry.{Args, Res, alive, on_entry}
use denote.Triple.Walked.{Stays, fits_of, has_of, Ending, walk_of, ends_at, walked, walk_Meets}
use Rattle.hand_proofs.proofs.World.{World, Promise, Proved}
use Rattle.hand_proofs.proofs.Begin.{Over, Stored, entered, begins}
use Rattle.hand_proofs.proofs.Params.{Params, spells, all_tell, all_lawful, dropped, all_go}

-- what holds of nothing may stand beside anything
pub beside : {M : Type 1} (𝓤 : Ura M) (Q P : SProp 𝓤) → ent 𝓤 (emp 𝓤) Q → ent 𝓤 P (sep 𝓤 P Q)
beside 𝓤 Q P h = via 𝓤 (sep 𝓤 (emp 𝓤) P) (emp∗ 𝓤 P) (via 𝓤 (sep 𝓤 Q P) (mono_l 𝓤 P h) (comm∗ 𝓤 Q P))

module _ {M : Type 1} {𝓤 : Ura M} {𝓛 : Logic 𝓤} (w : World 𝓛) (P : Promise 𝓤) where
  open 𝓛 use {H}

  abbrev S : Signature
  S = P.0.signature

  abbrev pub Call : Type 0
  Call = (x : Bound 𝓛 S) × (P.1 x.0 x.3).ghost

  module _ (y : Call) where
    abbrev pub Asked : SProp 𝓤
    Asked = (P.1 y.0.0 y.0.3).requires y.1

    abbrev pub Answer : Type 0
    Answer = Res S y.0.0

    abbrev pub Last : Type 0
    Last = Lasts P.0 y.0.0 y.0.3

    abbrev pub Said : Answer → Last → SProp 𝓤
    Said r ws = (P.1 y.0.0 y.0.3).ensures y.1 r (at_exit P.0 y.0.0 y.0.3 ws)

    -- the tokens, what the arguments own, and what the result does
    abbrev pub Tokens : SProp 𝓤
    Tokens = alive 𝓛 S y.0.0 y.0.1

    abbrev pub Owned : Fml
    Owned = owns (types_at S.params y.0.0) y.0.3 y.0.4

    abbrev pub Result : Answer → Val → Fml
    Result r v = (type_at S.result y.0.0).own_val r (v ∷ [])

    -- nothing is kept of the parameters for the exit
    abbrev none : Stays S.params P.0.kept
    none = dropped w S.params P.0.kept

    abbrev pub Reached : Val → SProp 𝓤
    Reached v = (walk_of 𝓛 P.0 none P.1).post y v

  module _ (κs : Lfts S.lifetimes) where
    no-fit : (ss : List (Slot S.lifetimes)) (ks : Kepts ss) (a : Denots (types_at ss κs)) (ws : Fins κs ss ks a)
        → fits_of κs ss ks (dropped w ss ks) a ws
    no-fit [] ks a ws = tt
    no-fit (s ∷ ss) ks a ws = (tt, no-fit ss ks.1 a.1 ws.1)

    none-had : (ss : List (Slot S.lifetimes)) (ks : Kepts ss) (a : Denots (types_at ss κs)) (ws : Fins κs ss ks a)
        (vss : Valss (types_at ss κs)) → ent 𝓤 (emp 𝓤) (sem 𝓛 (has_of κs ss ks (dropped w ss ks) a ws vss))
    none-had [] ks a ws vss = id⊢ 𝓤 (emp 𝓤)
    none-had (s ∷ ss) ks a ws vss =
        beside 𝓤 (sem 𝓛 (has_of κs ss ks.1 (dropped w ss ks.1) a.1 ws.1 vss.1)) (emp 𝓤)
        (none-had ss ks.1 a.1 ws.1 vss.1)

  module _ (y : Call) (v : Val) (r : Answer y) (ws : Last y) where
    abbrev Own : SProp 𝓤
    Own = sem 𝓛 (Result y r v)

    pub ends_as : ent 𝓤 (sep 𝓤 Own (sep 𝓤 (Tokens y) (Said y r ws))) (Reached y v)
    ends_as =
        let had = has_of y.0.0 S.params P.0.kept (none y) y.0.3 ws y.0.4 in
        let fits = no-fit y.0.0 S.params P.0.kept y.0.3 ws in
        qed 𝓛 (‵ (Result y r v) ∷ raw (Tokens y) ∷ raw (Said y r ws) ∷ []) ∵
        suffices ! (Ending 𝓛 P.0 (none y) P.1 y v r ws)
        (ends_at 𝓛 P.0 (none y) P.1 y v r ws fits) $
        nothing ! $ use1 𝓛 (‵ had) (none-had y.0.0 S.params P.0.kept y.0.3 ws y.0.4) $
        move ! (0 ∷ 1 ∷ []) $ join ! $ move ! (1 ∷ 0 ∷ []) $ join ! $ done !

    pub ends : ent 𝓤 (emp 𝓤) (Said y r ws) → ent 𝓤 (sep 𝓤 Own (Tokens y)) (Reached y v)
    ends said = via 𝓤 (sep 𝓤 Own (sep 𝓤 (Tokens y) (Said y r ws))) (mono_r 𝓤 Own (beside 𝓤 (Said y r ws) (Tokens y) said)) ends_as

  module _ (f : Fn) where
    abbrev pub Walk : Call → Type 1
    Walk y = Over f.locals (λ E.
        Sq 𝓛 (raw (Tokens y) ∷ ‵ (Owned y) ∷ entered 𝓛 E (passed 𝓛 S y.0))
        (runs w.tables.C w.tables.Λ E f.body (at_ret E (Reached y))))

    module _ (ps : Params w S.params P.0.kept) where
      -- the types of the parameters, and the machine values of the arguments
      abbrev Ts : Lfts S.lifetimes → List RattleType
      Ts κs = types_at S.params κs

      abbrev Vs : (κs : Lfts S.lifetimes) → Args S κs → Valss (Ts κs)
      Vs κs a = valss (Ts κs) (spells w S.params P.0.kept ps κs) a

      -- the code's parameters have the signature's types: `λ κs a t. t`
      abbrev Fit : Type 0
      Fit = (κs : Lfts S.lifetimes) (a : Args S κs) → Typed (mirs (Ts κs)) (flat (Ts κs) (Vs κs a))
          → Stored f.locals (flat (Ts κs) (Vs κs a))

      -- a fact of the arguments, and a walk for all of which it holds:
      -- what is known of them is that they are spelled so, and have their types
      abbrev Fact : Type 1
      Fact = (κs : Lfts S.lifetimes) (a : Args S κs) → (P.1 κs a).ghost → Type 0

      abbrev Walks : Fact → Type 1
      Walks φ = (κs : Lfts S.lifetimes) (qs : Shares S.lifetimes) (bounds : AllOutlive S.lifetimes S.outlives κs)
          (a : Args S κs) (g : (P.1 κs a).ghost) → Are (Ts κs) (Ises (Ts κs)) a (Vs κs a) → Stored f.locals (flat (Ts κs) (Vs κs a))
          → φ κs a g → Walk ((κs, qs, bounds, a, Vs κs a), g)

      pub walks_if : Fit → (φ : Fact)
          → ((κs : Lfts S.lifetimes) (a : Args S κs) (g : (P.1 κs a).ghost) → ent 𝓤 ((P.1 κs a).requires g) (fact 𝓤 (φ κs a g)))
          → Walks φ → Proved w P f
      walks_if fit φ asked walk =
          let run = WpFn 𝓤 H w.tables.C w.tables.Λ f in
          let none = dropped w S.params P.0.kept in
          let spelled = spells w S.params P.0.kept ps in
          let mono = WpFn-mono 𝓤 H 𝓛.laws w.tables f in
          walk_Meets 𝓛 P.0 none (all_go w S.params P.0.kept ps) P.1 run mono
          (walked 𝓛 P.0 none P.1 run spelled (all_tell w S.params P.0.kept ps) (λ κs qs bounds a g are.
          let y : Call = ((κs, qs, bounds, a, Vs κs a), g) in
          let entry : SProp 𝓤 = on_entry 𝓛 S κs qs a (Vs κs a) in
          let typed = fit κs a (all_Typed 𝓛 (Ts κs) (all_lawful w S.params P.0.kept ps κs) a (Vs κs a) are) in
          fact_use 𝓤 (φ κs a g) (via 𝓤 (Asked y) (snd∗ 𝓤 entry (Asked y)) (asked κs a g)) (λ h.
          via 𝓤 entry (fst∗ 𝓤 entry (Asked y))
          (begins 𝓛 f (passed 𝓛 S y.0) w.tables.C w.tables.Λ (Reached y)
          (raw (Tokens y) ∷ ‵ (Owned y) ∷ []) typed (walk κs qs bounds a g are typed h)))))

      pub walks : Fit → Walks (λ κs a g. Unit {0}) → Proved w P f
      walks fit walk = walks_if fit (λ κs a g. Unit {0}) (λ κs a g. fact_i 𝓤 (Unit {0}) ((P.1 κs a).requires g) tt) walk
