-- The named slot or pin holds the tiles back: it retains the result, and oldest is at most what a taken slot or pin retains.
use Prim.Native.Nat.{ℕ, ◌≤◌}
use mathlib.Core.Path.{◌≡◌, refl, sym, ◌∙◌, ap}
use mathlib.Core.Logic.{◌≢◌, ◌⊎◌, inl, inr}
use mathlib.Core.Bool.{true}
use mathlib.Core.List.{List, [], ◌∷◌, ◌++◌}
use native.Mathlib.Omega.{arith}
use lib.ListN.{get_or}
use lib.Seq.{append_snoc}
use Rattle.kinds.specs.Verdicts.{Verdict, Pass, Refuse}
use Rattle.listed.specs.Listed.{listed}
use Rattle.model.specs.declared.Table.{Table}
use Rattle.model.specs.Answer.{Oldest, Line}
use Rattle.model.specs.Tally.{active, retained, oldest_of, no_holder, first_pin, pin_holder_of}
use Rattle.model.specs.Tables.{fresh_table, line_of, clock_of}
use Rattle.model.specs.Tests.{observation_test}
use Rattle.model.specs.Answers.{holder_told}
use Rattle.model.specs.Calls.{Call, oldest, vacuum, refusal, oldest_in, holder_in, raised_line, change_accepted, after}
use Rattle.model.specs.Calls.{answer_accepted, answer_by, answer}
use Rattle.model.specs.Facts.{Good}
use Rattle.model.specs.History.{run, reached}
use Rattle.model.specs.Promise.{line_after}
use Rattle.model.specs.HeldBack.{Names, a_slot, a_pin, HolderKept, Finds, Raises, KeptAllThrough, HolderPromise}
use Rattle.model.proofs.Tally.{active-taken}
use Rattle.model.proofs.Holding.{Found, found, nowhere, holder_found, minimum_of, retained-taken}
use Rattle.model.proofs.Moves.{equally_long}
use Rattle.model.proofs.Answers.{found_xmin, line_given, refused_not_oldest, refused_not_line}
use Rattle.model.proofs.Accepted.{accepted_acceptable}
use Rattle.model.proofs.Calls.{after_cases}
use Rattle.model.proofs.Does.{LineMoves, line_stays, line_raised, counts_on}
use Rattle.model.proofs.Facts.{oldest-taken, oldest-pin, good-reached, good-after}
use Rattle.model.proofs.Promise.{given_line}
use Rattle.model.proofs.History.{run-append, run_snoc}

-- what an oldest, and a vacuum, answers is what the table says
found_is :
    (n : ℕ) (t : Table) (clock sample xmin holder : ℕ) → answer n t (oldest clock sample) ≡ Oldest xmin holder →
    (xmin ≡ oldest_in t sample) × (holder ≡ holder_in t sample)
unfolding answer_accepted answer holder_told
found_is n t clock sample xmin holder e = go (refusal n t (oldest clock sample)) e
  where
    go : (v : Verdict) → answer_by v t (oldest clock sample) ≡ Oldest xmin holder →
        (xmin ≡ oldest_in t sample) × (holder ≡ holder_in t sample)
    go Pass q = (sym (ap found_xmin q), sym (ap holder_told q))
    go (Refuse r) q = absurd (refused_not_oldest r xmin holder q)

raised_is :
    (n : ℕ) (t : Table) (clock sample line holder : ℕ) → answer n t (vacuum clock sample) ≡ Line line holder →
    (line ≡ raised_line t sample) × (holder ≡ holder_in t sample) × (answer n t (oldest clock sample) ≡ Oldest (oldest_in t sample) holder)
unfolding refusal answer_accepted answer holder_told
raised_is n t clock sample line holder e = go (observation_test (clock_of t) clock sample) e
  where
    go : (v : Verdict) → answer_by v t (vacuum clock sample) ≡ Line line holder →
        (line ≡ raised_line t sample)
        × (holder ≡ holder_in t sample)
        × (answer_by v t (oldest clock sample) ≡ Oldest (oldest_in t sample) holder)
    go Pass q = (sym (ap line_given q), sym (ap holder_told q), ap (Oldest (oldest_in t sample)) (ap holder_told q))
    go (Refuse r) q = absurd (refused_not_line r line holder q)

module _ (n : ℕ) (t : Table) (g : Good n t) where
  -- who is found among the slots, and among the pins
  slot-found :
      (sample : ℕ) →
      Found 0 t.txids t.snapshot_xmins (oldest_in t sample) (pin_holder_of t.pins (oldest_in t sample)) (holder_in t sample)
  slot-found sample = holder_found (oldest_in t sample) _ 0 t.txids t.snapshot_xmins (equally_long n t g)

  pin-found :
      (sample : ℕ) →
      Found first_pin t.pins t.pins (oldest_in t sample) no_holder (pin_holder_of t.pins (oldest_in t sample))
  pin-found sample = holder_found (oldest_in t sample) no_holder first_pin t.pins t.pins refl

  holder-named : (sample : ℕ) → holder_in t sample ≢ no_holder → Names t (oldest_in t sample) (holder_in t sample)
  holder-named sample h = go (slot-found sample) (pin-found sample)
    where
      x : ℕ
      x = oldest_in t sample

      go :
          Found 0 t.txids t.snapshot_xmins x (pin_holder_of t.pins x) (holder_in t sample) →
          Found first_pin t.pins t.pins x no_holder (pin_holder_of t.pins x) → Names t x (holder_in t sample)
      go (found i e l a b c) pins =
          let p : holder_in t sample ≡ i = omega arith in
          a_slot (rw p (record { taken = a; retains = b; lowest = c }))
      go (nowhere e f) (found k e' l a b c) =
          a_pin k (e ∙ e') (record { taken = a; retains = b; lowest = c; no_slot = f })
      go (nowhere e f) (nowhere e' f') = absurd (h (e ∙ e'))

  -- where none is, neither a slot nor a pin has it, so it is the sample
  sample-itself : (sample : ℕ) → n ≤ no_holder → holder_in t sample ≡ no_holder → oldest_in t sample ≡ sample
  sample-itself sample few h = go (slot-found sample) (pin-found sample)
    where
      x : ℕ
      x = oldest_in t sample

      slots : ℕ
      slots = oldest_of t.txids t.snapshot_xmins sample

      of_slots :
          ((j : ℕ) → get_or t.txids j 0 ≢ 0 → get_or t.snapshot_xmins j 0 ≢ x) → x ≡ slots →
          (slots ≡ sample) ⊎ (listed slots (retained t.txids t.snapshot_xmins) ≡ true) → x ≡ sample
      of_slots f p (inl q) = p ∙ q
      of_slots f p (inr q) =
          let r = retained-taken t.txids t.snapshot_xmins slots q in
          absurd (f r.0 r.1 (r.2 ∙ sym p))

      of-pins :
          ((j : ℕ) → get_or t.txids j 0 ≢ 0 → get_or t.snapshot_xmins j 0 ≢ x) →
          ((j : ℕ) → get_or t.pins j 0 ≢ 0 → get_or t.pins j 0 ≢ x) →
          (x ≡ slots) ⊎ (listed x (active t.pins) ≡ true) → x ≡ sample
      of-pins f f' (inl p) = of_slots f p (minimum_of sample (retained t.txids t.snapshot_xmins))
      of-pins f f' (inr p) =
          let r = active-taken t.pins x p in
          absurd (f' r.0 (λ z. r.2 (sym r.1 ∙ z)) r.1)

      go :
          Found 0 t.txids t.snapshot_xmins x (pin_holder_of t.pins x) (holder_in t sample) →
          Found first_pin t.pins t.pins x no_holder (pin_holder_of t.pins x) → x ≡ sample
      go (found i e l a b c) pins = absurd (let m = g.txid_column in omega arith)
      go (nowhere e f) (found k e' l a b c) = absurd (let m = g.pin_column in omega arith)
      go (nowhere e f) (nowhere e' f') = of-pins f f' (minimum_of slots (active t.pins))

  -- no vacuum raises the line above what bounds every oldest, where it is there already
  line-still :
      (x : ℕ) (c : Call) → ((sample : ℕ) → oldest_in t sample ≤ x) → x ≤ line_of t → line_of (after n t c) ≡ line_of t
  line-still x c low l =
      after_cases n t c (λ u. line_of u ≡ line_of t) (λ e. go (counts_on n t c (accepted_acceptable n t c e)).line) refl
      (λ number b. refl)
    where
      go : LineMoves t (change_accepted t c).counters → (change_accepted t c).counters.vacuum_line ≡ line_of t
      go (line_stays e) = e
      go (line_raised sample a b e) = let m = low sample in omega arith

-- kept in two steps
kept_on : (t u v : Table) (holder : ℕ) → HolderKept t u holder → HolderKept u v holder → HolderKept t v holder
kept_on t u v holder a b =
    record {
      transaction = b.transaction ∙ a.transaction;
      xmin = b.xmin ∙ a.xmin;
      pinned = λ k e. b.pinned k e ∙ a.pinned k e;
    }

-- the holder of t, as it is in the tables that the calls go through: it bounds every oldest
module _ (n : ℕ) (t : Table) (x holder : ℕ) (h : Names t x holder) where
  under-named : (u : Table) → Good n u → HolderKept t u holder → (sample : ℕ) → oldest_in u sample ≤ x
  under-named u g k sample = go h
    where
      go : Names t x holder → oldest_in u sample ≤ x
      go (a_slot s) =
          rw (k.xmin ∙ s.retains) at (oldest-taken n u sample holder g (λ z. s.taken (sym k.transaction ∙ z)))
      go (a_pin j e p) =
          rw (k.pinned j e ∙ p.retains) at (oldest-pin u sample j (λ z. p.taken (sym (k.pinned j e) ∙ z)))

  line-run-still :
      (u : Table) (cs : List Call) → Good n u → x ≤ line_of u →
      ((p q : List Call) → cs ≡ p ++ q → HolderKept t (run n u p) holder) → line_of (run n u cs) ≡ line_of u
  unfolding run
  line-run-still u [] g l k = refl
  line-run-still u (c ∷ cs) g l k =
      let still = line-still n u g x c (under-named u g (k [] (c ∷ cs) refl)) l in
      line-run-still (after n u c) cs (good-after n u c g) (rw still l) (λ p q e. k (c ∷ p) q (ap (λ (ds : List Call). c ∷ ds) e))
      ∙ still

module _ (n : ℕ) where
  names-holder :
      (cs : List Call) (clock sample xmin holder : ℕ) → Finds n cs clock sample xmin holder → holder ≢ no_holder →
      Names (reached n cs) xmin holder
  names-holder cs clock sample xmin holder e h =
      let p = found_is n (reached n cs) clock sample xmin holder e in
      rw (p.0, p.1) (holder-named n (reached n cs) (good-reached n cs) sample (rw p.1 at h))

  nobody-named :
      n ≤ no_holder → (cs : List Call) (clock sample xmin : ℕ) → Finds n cs clock sample xmin no_holder → xmin ≡ sample
  nobody-named few cs clock sample xmin e =
      let p = found_is n (reached n cs) clock sample xmin no_holder e in
      p.0 ∙ sample-itself n (reached n cs) (good-reached n cs) sample few (sym p.1)

  holds-back :
      (before later : List Call) (clock sample xmin holder : ℕ) → Finds n before clock sample xmin holder →
      holder ≢ no_holder → HolderKept (reached n before) (reached n (before ++ later)) holder →
      (clock' sample' xmin' holder' : ℕ) → Finds n (before ++ later) clock' sample' xmin' holder' → xmin' ≤ xmin
  holds-back before later clock sample xmin holder e h k clock' sample' xmin' holder' f =
      let u = reached n (before ++ later) in
      let named = names-holder before clock sample xmin holder e h in
      let is = found_is n u clock' sample' xmin' holder' f in
      rw is.0 (under-named n (reached n before) xmin holder named u (good-reached n (before ++ later)) k sample')

  vacuum-passes-on :
      (cs : List Call) (clock sample line holder : ℕ) → Raises n cs clock sample line holder →
      (xmin : ℕ) × Finds n cs clock sample xmin holder × (xmin ≤ line)
  vacuum-passes-on cs clock sample line holder e =
      let p = raised_is n (reached n cs) clock sample line holder e in
      (oldest_in (reached n cs) sample, p.2, omega (arith, p.0))

  -- a vacuum moves no slot and no pin
  vacuum-keeps : (t : Table) (clock sample holder : ℕ) → HolderKept t (after n t (vacuum clock sample)) holder
  unfolding change_accepted
  vacuum-keeps t clock sample holder =
      after_cases n t (vacuum clock sample) (λ u. HolderKept t u holder)
      (λ e. record { transaction = refl; xmin = refl; pinned = λ j q. refl })
      (record { transaction = refl; xmin = refl; pinned = λ j q. refl })
      (λ number h. record { transaction = refl; xmin = refl; pinned = λ j q. refl })

  module _
      (before later : List Call) (clock sample line holder : ℕ) (e : Raises n before clock sample line holder)
      (h : holder ≢ no_holder)
    where
      -- the history with the vacuum, and its table
      abbrev raised : List Call
      raised = before ++ vacuum clock sample ∷ []

      line-is : line_of (reached n raised) ≡ line
      line-is = rw run_snoc (sym (given_line n (reached n before) clock sample line holder e))

      kept_then : HolderKept (reached n before) (reached n raised) holder
      kept_then = rw run_snoc (vacuum-keeps (reached n before) clock sample holder)

      line-stands-still :
          KeptAllThrough n raised later holder → line_after n (before ++ vacuum clock sample ∷ later) ≡ line
      line-stands-still k =
          let finds = vacuum-passes-on before clock sample line holder e in
          let named = names-holder before clock sample finds.0 holder finds.1 h in
          let low : finds.0 ≤ line_of (reached n raised) = rw line-is finds.2 in
          let still =
          line-run-still n (reached n before) finds.0 holder named (reached n raised) later (good-reached n raised) low
          (λ p q s.
          rw (← run-append n (fresh_table n) raised p)
          (kept_on (reached n before) (reached n raised) (reached n (raised ++ p)) holder kept_then (k p q s))) in
          rw (← append_snoc before (vacuum clock sample) later, run-append) (still ∙ line-is)

pub holder_promise : (n : ℕ) → HolderPromise n
holder_promise n =
    record {
      named = names-holder n;
      nobody = nobody-named n;
      held_back = holds-back n;
      passed_on = vacuum-passes-on n;
      line-held = line-stands-still n;
    }
