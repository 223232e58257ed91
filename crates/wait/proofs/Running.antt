-- The run of the steps: from the table as it is now and the events that are left, the verdict and the table at the end are those
-- of the whole. `Running` is the loop's invariant; its laws start it, go past one event, and end it. Then what `wait_of` is by the
-- tests before the steps.
use Prim.Native.Nat.{ℕ, ◌+◌, ◌≤◌}
use native.Mathlib.Decide.{ℕ_discrete}
use native.Mathlib.Omega.{arith}
use mathlib.Core.Path.{◌≡◌, refl, sym, ap, ◌∙◌}
use mathlib.Core.Bool.{Bool, true, false, false≢true}
use mathlib.Core.List.{List, ◌∷◌}
use lib.ListN.{length}
use Rattle.std.specs.Result.{MatchResult, is_ok}
use Rattle.kinds.specs.declared.refusal.Refusal.{Refusal}
use Rattle.kinds.specs.declared.refusal.Refusal.TheVariants.{BadTrace, BadStep}
use Rattle.kinds.specs.Verdicts.{Verdict, Pass, Refuse, then}
use Rattle.kinds.proofs.Verdicts.{refuse_not_pass, then_pass}
use Rattle.model.specs.declared.Table.{Table}
use Rattle.model.specs.declared.change.Change.{Change}
use Rattle.model.specs.Tables.{lent_txids}
use Rattle.model.specs.Changes.{applied}
use Rattle.events.specs.Event.{event_form, event_at}
use Rattle.events.specs.Wait.{Wait1, wait_grammar, wait_format, first_event, longest, reading, events_from, events_of, Boundary}
use Rattle.events.specs.declared.Event.{Event}
use Rattle.events.specs.EventAt.{Is}
use Rattle.events.specs.EventAt as event
use Rattle.events.specs.Reading.{Reading, Whole, Broken}
use Rattle.events.proofs.Shape.{wait_grammar_lem, wait_laws, event_facts}
use Rattle.events.proofs.Answers.{event_is, reading_is}
use Rattle.grammar.specs.Texts as events
use Rattle.grammar.proofs.Laws.{opened, count_breaks}
use Rattle.grammar.proofs.Grammar.{accepted}
use Rattle.grammar.proofs.Walk.{none_left, none_broken, next_item}
use Rattle.wait_rules.specs.Owner.{Owner}
use Rattle.wait_rules.specs.Steps.{event_test, held_change, event_after}
use Rattle.wait.specs.Waits.{entry_test, holder_test, steps_from, ended, verdict_on, stepped_of, wait_of}
use Rattle.wait_rules.proofs.Kept.{event_lent, held_is}

pub record Running (n : ℕ) (owner : Owner) (s : List ℕ) (t₀ t : Table) (at step : ℕ) : Type 0 where
  pub boundary : Boundary s at
  pub steps : steps_from n owner t₀ 1 (events_from s first_event) ≡ steps_from n owner t step (events_from s at)
  pub ends : ended t₀ (events_from s first_event) ≡ ended t (events_from s at)
  pub small : step ≤ at

module _ (n : ℕ) (owner : Owner) (s : List ℕ) (t₀ : Table) where
  pub running_start : Boundary s first_event → Running n owner s t₀ t₀ first_event 1
  running_start b = record { boundary = b; steps = refl; ends = refl; small = omega arith }

  module _ (t : Table) (at step : ℕ) (r : Running n owner s t₀ t at step) where
    -- an event that keeps its rule, and one that doesn't, said of what the code asked for and was told
    module _ (e : Event) (next : ℕ) (kept : Bool) (q : event_at s at ≡ Is e next)
        (h : kept ≡ event_test n (lent_txids t.txids t.counters) owner e) where
      pub running_took : (u : Table) (made : Change) → kept ≡ true → made ≡ held_change t.counters e → u ≡ applied t made
          → Running n owner s t₀ u next (step + 1)
      unfolding steps_from ended
      running_took u made k m a =
          let x = next_item event_form event_facts s at e next r.boundary (event_is s at q) in
          let keeps = sym (event_lent n t owner e) ∙ sym h ∙ k in
          let after : u ≡ event_after t e = a ∙ ap (applied t) (m ∙ held_is n t owner e keeps) in
          let goes : steps_from n owner t step (e ∷ events_from s next) ≡ steps_from n owner (event_after t e) (step + 1) (events_from s next) =
          rw keeps in
          record {
            boundary = x.again;
            steps = rw after (r.steps ∙ ap (steps_from n owner t step) x.first ∙ goes);
            ends = rw after (r.ends ∙ ap (ended t) x.first);
            small = omega (arith, x.further, r.small);
          }

      pub running_stopped : kept ≡ false
          → record { table = t₀; verdict = Refuse (BadStep step) } ≡ stepped_of n owner t₀ (events_from s first_event)
      unfolding steps_from
      running_stopped k =
          let x = next_item event_form event_facts s at e next r.boundary (event_is s at q) in
          let breaks = sym (event_lent n t owner e) ∙ sym h ∙ k in
          let stops : steps_from n owner t step (e ∷ events_from s next) ≡ Refuse (BadStep step) = rw breaks in
          let whole = r.steps ∙ ap (steps_from n owner t step) x.first ∙ stops in
          rw whole

    -- where no event is left, the text is at its end
    at-end : (k : ℕ) → event_at s at ≡ event.Broken k → at ≡ length s
    at-end k q = go (ℕ_discrete at (length s))
      where
        go : Dec (at ≡ length s) → at ≡ length s
        go (yes e) = e
        go (no d) = absurd (none_broken event_form event_facts s at k r.boundary d (event_is s at q))

    pub running_over : (k : ℕ) → event_at s at ≡ event.Broken k
        → record { table = t; verdict = Pass } ≡ stepped_of n owner t₀ (events_from s first_event)
    unfolding steps_from ended
    running_over k q =
        let none = none_left event_form event_facts s at (at-end k q) in
        let whole : steps_from n owner t₀ 1 (events_from s first_event) ≡ Pass = r.steps ∙ ap (steps_from n owner t step) none in
        let last : ended t₀ (events_from s first_event) ≡ t = r.ends ∙ ap (ended t) none in
        rw (whole, last)

-- what the code was answered of the text s
module _ (s : List ℕ) (a : Reading) (q : a ≡ reading s) where
  whole : true ≡ is_ok a → (m : ℕ) × (reading s ≡ Whole m)
  whole h = go a q h
    where
      go : (x : Reading) → x ≡ reading s → true ≡ is_ok x → (m : ℕ) × (reading s ≡ Whole m)
      go (Whole m) p h = (m, sym p)
      go (Broken k) p h = absurd (false≢true (sym h))

  -- its items, and what is known before the first step, where it was read
  items : true ≡ is_ok a → events_of s ≡ events.Whole Wait1 (events_from s first_event)
  items h = let (m, e) = whole h in (opened wait_grammar wait_grammar_lem s Wait1 m (reading_is s e)).items

  pub whole-opens : true ≡ is_ok a → (Boundary s first_event) × (length s ≤ longest)
  whole-opens h =
      let (m, e) = whole h in
      let o = opened wait_grammar wait_grammar_lem s Wait1 m (reading_is s e) in
      (o.boundary, (accepted wait_format wait_laws s Wait1 (events_from s first_event) o.items).short)

  module _ (n : ℕ) (t : Table) (owner : Owner) where
    -- its broken line, told as a refusal
    pub wait_broken : (r : Refusal) → MatchResult a (λ m. ⊥) (λ k. r ≡ BadTrace k)
        → record { table = t; verdict = Refuse r } ≡ wait_of n t owner s
    unfolding wait_of
    wait_broken r h = go a q h
      where
        go : (x : Reading) → x ≡ reading s → MatchResult x (λ m. ⊥) (λ k. r ≡ BadTrace k)
            → record { table = t; verdict = Refuse r } ≡ wait_of n t owner s
        go (Whole m) p h = elim h [ ]
        go (Broken k) p h = rw (count_breaks wait_format s (reading_is s (sym p)), h)

    -- u is what the table lends
    module _ (read : true ≡ is_ok a) (u : Table) (lends : u ≡ t) where
      pub wait_refused : (r : Refusal) → then (entry_test n u) (holder_test n u owner) ≡ Refuse r
          → record { table = t; verdict = Refuse r } ≡ wait_of n t owner s
      unfolding wait_of verdict_on
      wait_refused r e =
          let steps = steps_from n owner t 1 (events_from s first_event) in
          rw (items read, before (entry_test n t) (holder_test n t owner) steps (rw lends at e))
        where
          before : (a b c : Verdict) → then a b ≡ Refuse r → then a (then b c) ≡ Refuse r
          before (Refuse q) b c e = e
          before Pass (Refuse q) c e = e
          before Pass Pass c e = absurd (refuse_not_pass r (sym e))

      pub wait_stepped : then (entry_test n u) (holder_test n u owner) ≡ Pass
          → stepped_of n owner t (events_from s first_event) ≡ wait_of n t owner s
      unfolding wait_of verdict_on
      wait_stepped e =
          let (a, b) = then_pass (entry_test n t) (holder_test n t owner) (rw lends at e) in
          rw (items read, a, b)
