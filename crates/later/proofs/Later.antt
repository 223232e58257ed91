-- Every active id is below the clock, and the sample is at most the clock that is given with it: so xmax is. What a later call brings was
-- reserved from that clock on (model/proofs/Reservations.antt), so it is not below xmax.
use Prim.Native.Nat.{ℕ, ◌-◌, ◌≤◌, ◌<◌, max}
use mathlib.Core.Path.{◌≡◌, refl, sym, ap, ◌∙◌}
use mathlib.Core.Logic.{◌≢◌, ◌⊎◌, inl, inr}
use mathlib.Core.Bool.{Bool, true, false, cond}
use mathlib.Core.List.{List, [], ◌∷◌, ◌++◌}
use native.Mathlib.Nat.{le_trans}
use native.Mathlib.Omega.{arith}
use lib.Dec.{eqb}
use lib.ListN.{length}
use lib.Seq.{append_snoc}
use borrow.Author.Tests.{le-ltb, ne_eqb}
use Rattle.kinds.specs.Kinds.{saturating_next}
use Rattle.kinds.specs.declared.refusal.Refusal.{Refusal}
use Rattle.kinds.specs.Verdicts.{Verdict, Pass, Refuse}
use Rattle.listed.specs.Listed.{listed}
use Rattle.settled.specs.Snapshots.{no_snapshot}
use Rattle.listed.proofs.Listed.{listed_none, listed_cases}
use Rattle.model.specs.declared.Table.{Table}
use Rattle.model.specs.Tables.{fresh_table, txid_at, clock_of}
use Rattle.model.specs.Tally.{active, maximum, snapshot_of}
use Rattle.model.specs.Calls.{Call, begin, end, snap, own, oldest, vacuum, stamp, finish, pin, unpin, pin_sample, refusal}
use Rattle.model.specs.Calls.{change_accepted, after}
use Rattle.model.specs.Calls.{answer_accepted, answer_by, answer, shown_accepted, shown_by, shown}
use Rattle.model.specs.Accepted.{Acceptable}
use Rattle.model.specs.Facts.{Good}
use Rattle.model.specs.History.{reached, Accepts}
use Rattle.model.specs.Reservations.{reserves_accepted, reserves_by}
use Rattle.model.proofs.Tally.{maximum_bound, active-taken}
use Rattle.model.proofs.Accepted.{accepted_acceptable}
use Rattle.model.proofs.Calls.{after-accepted, after_accepted}
use Rattle.model.proofs.Moves.{is_taken}
use Rattle.model.proofs.Facts.{good-reached}
use Rattle.model.proofs.History.{run_snoc}
use Rattle.model.proofs.Reservations.{Step, nothing, one, reserve_step, clock_never_falls}
use Rattle.later.specs.Later.{taken, clock_after, brings, Brings, LaterPromise}

-- the largest active id is below the clock
below_clock : (n : ℕ) (t : Table) → Good n t → maximum 0 (active t.txids) ≤ clock_of t - 1
below_clock n t g =
    maximum_bound 0 (active t.txids) (clock_of t - 1) (omega arith) (λ x e. each x (active-taken t.txids x e))
  where
    each : (x : ℕ) → (i : ℕ) × (txid_at t i ≡ x) × (x ≢ 0) → x ≤ clock_of t - 1
    each x (i, p, q) =
        let k = is_taken (g.each i) (λ z. q (sym p ∙ z)) in
        omega arith

-- a snapshot with any sample up to a clock that is no less than the table's
xmax_within :
    (n : ℕ) (t : Table) (clock sample : ℕ) → Good n t → clock_of t ≤ clock → sample ≤ clock →
    (snapshot_of n t.txids sample).xmax ≤ clock
unfolding snapshot_of
xmax_within n t clock sample g h l = go (eqb (length (active t.txids)) 0)
  where
    high : maximum 0 (active t.txids) ≤ clock_of t - 1
    high = below_clock n t g

    go : (b : Bool) → cond b sample (max sample (saturating_next (maximum 0 (active t.txids)))) ≤ clock
    go true = l
    go false = omega (arith, high, g.sample_from_1, g.sample_to_clock)

-- call by call, on a table that passes the check
xmax_accepted :
    (n : ℕ) (t : Table) (c : Call) → Good n t → Acceptable n t c →
    (shown_accepted n t c).xmax ≤ (change_accepted t c).counters.clock
unfolding no_snapshot shown_accepted change_accepted
xmax_accepted n t (begin number) g a = omega arith
xmax_accepted n t (end slot id) g a = omega arith
xmax_accepted n t (snap clock sample) g a = xmax_within n t clock sample g a.onward a.within
xmax_accepted n t (own slot id clock sample) g (o, a) = xmax_within n t clock sample g a.onward a.within
xmax_accepted n t (oldest clock sample) g a = omega arith
xmax_accepted n t (vacuum clock sample) g a = omega arith
xmax_accepted n t (stamp number) g a = omega arith
xmax_accepted n t (finish slot id number) g a = omega arith
xmax_accepted n t (pin clock sample) g (o, f) =
    xmax_within n t clock (pin_sample t sample) g o.onward (omega (arith, o.within, o.onward, g.line_to_clock))
xmax_accepted n t (unpin k) g a = omega arith

xmax_after : (n : ℕ) (t : Table) (c : Call) → Good n t → (shown n t c).xmax ≤ clock_of (after n t c)
unfolding no_snapshot shown
xmax_after n t c g = go (refusal n t c) refl
  where
    go : (v : Verdict) → refusal n t c ≡ v → (shown_by v n t c).xmax ≤ clock_of (after n t c)
    go Pass e = rw (after-accepted n t c e) (xmax_accepted n t c g (accepted_acceptable n t c e))
    go (Refuse r) e = omega arith

xmax_to_clock : (n : ℕ) (before : List Call) (c : Call) → (taken n before c).xmax ≤ clock_after n (before ++ c ∷ [])
xmax_to_clock n before c =
    rw (run_snoc n (fresh_table n) before c) (xmax_after n (reached n before) c (good-reached n before))

-- what an answer brings is what its call reserves
accepted-brings : (t : Table) (c : Call) → brings (answer_accepted t c) ≡ reserves_accepted c
unfolding answer_accepted
accepted-brings t (begin number) = refl
accepted-brings t (end slot id) = refl
accepted-brings t (snap clock sample) = refl
accepted-brings t (own slot id clock sample) = refl
accepted-brings t (oldest clock sample) = refl
accepted-brings t (vacuum clock sample) = refl
accepted-brings t (stamp number) = refl
accepted-brings t (finish slot id number) = refl
accepted-brings t (pin clock sample) = refl
accepted-brings t (unpin k) = refl

pub brings-reserved : (n : ℕ) (t : Table) (c : Call) → brings (answer n t c) ≡ reserves_by (refusal n t c) c
unfolding answer
brings-reserved n t c = go (refusal n t c)
  where
    go : (v : Verdict) → brings (answer_by v t c) ≡ reserves_by v c
    go Pass = accepted-brings t c
    go (Refuse r) = refl

-- so it is from the clock on
brought_from_clock : (n : ℕ) (t : Table) (c : Call) (x : ℕ) → listed x (brings (answer n t c)) ≡ true → clock_of t ≤ x
brought_from_clock n t c x e = go (reserve_step n t c) (rw (brings-reserved n t c) at e)
  where
    either : (y : ℕ) → clock_of t ≤ y → (y ≡ x) ⊎ (listed x [] ≡ true) → clock_of t ≤ x
    either y h (inl z) = omega arith
    either y h (inr z) = absurd (listed_none x z)

    go :
        Step (clock_of t) (reserves_by (refusal n t c) c) (clock_of (after n t c)) →
        listed x (reserves_by (refusal n t c) c) ≡ true → clock_of t ≤ x
    go (nothing p h) q = absurd (listed_none x (rw p at q))
    go (one y p a b r) q = either y b (listed_cases x y [] (rw p at q))

brought_from_xmax :
    (n : ℕ) (before between : List Call) (c d : Call) (x : ℕ) → Brings n (before ++ c ∷ between) d x → (taken n before c).xmax ≤ x
brought_from_xmax n before between c d x e =
    let there : clock_after n (before ++ c ∷ []) ≤ clock_after n (before ++ c ∷ between) =
    rw (← append_snoc before c between) (clock_never_falls n (before ++ c ∷ []) between) in
    le_trans (xmax_to_clock n before c) (le_trans there (brought_from_clock n (reached n (before ++ c ∷ between)) d x e))

pub later_promise : (n : ℕ) → LaterPromise n
later_promise n =
    record {
      xmax_to_clock = xmax_to_clock n;
      unsettled = λ before between c d x e. rw (le-ltb x (taken n before c).xmax (brought_from_xmax n before between c d x e));
      unusable = λ before between c d x own e z.
          rw (le-ltb x (taken n before c).xmax (brought_from_xmax n before between c d x e), ne_eqb own x z);
    }
