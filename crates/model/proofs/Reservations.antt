-- The numbers reserved from fresh: in order, from 1 to below the clock, each above all before it. So the clock never falls.
use Prim.Native.Nat.{ℕ, zero, suc, ◌+◌, ◌≤◌, ◌<◌}
use mathlib.Core.Path.{◌≡◌, refl, sym, ◌∙◌, ap}
use mathlib.Core.Logic.{◌⊎◌, inl, inr}
use mathlib.Core.Bool.{true}
use mathlib.Core.List.{List, [], ◌∷◌, ◌++◌, append_assoc, append-nil, cons≢nil}
use native.Mathlib.Nat.{le_refl, le_trans, not-suc-le-zero, le_of_suc-le-suc}
use native.Mathlib.Omega.{arith}
use lib.ListN.{length, get_or}
use Rattle.kinds.specs.declared.Stamp.{Stamp}
use Rattle.kinds.specs.declared.SlotNo.{SlotNo}
use Rattle.kinds.specs.declared.Txid.{Txid}
use Rattle.kinds.specs.declared.refusal.Refusal.{Refusal}
use Rattle.listed.specs.Listed.{listed}
use Rattle.listed.proofs.Listed.{listed_none, listed-head, listed_cases}
use Rattle.kinds.specs.Refusals.{consumed}
use Rattle.model.specs.declared.Table.{Table}
use Rattle.model.specs.Tables.{fresh_table, clock_of}
use Rattle.model.specs.Calls.{Call, begin, end, snap, own, oldest, vacuum, stamp, finish, pin, unpin, refusal}
use Rattle.model.specs.Calls.{change_accepted, spent, after}
use Rattle.model.specs.Accepted.{Acceptable}
use Rattle.model.specs.History.{run, reached, Accepts}
use Rattle.model.specs.Reservations.{reserves_accepted, reserves_by, reservations_from, reservations}
use Rattle.model.proofs.Accepted.{accepted_acceptable}
use Rattle.model.proofs.Refused.{Declined, stays, spends}
use Rattle.model.proofs.Calls.{change_refused, by_verdict}
use Rattle.model.proofs.History.{run-append}

-- what one call reserves: nothing, or one number from the clock on, which the clock then passes by one
pub data Step (clock : ℕ) (ids : List ℕ) (clock' : ℕ) : Type 0 where
  nothing : ids ≡ [] → clock ≤ clock' → Step clock ids clock'
  one : (x : ℕ) → ids ≡ x ∷ [] → 1 ≤ x → clock ≤ x → clock' ≡ x + 1 → Step clock ids clock'

step_accepted :
    (n : ℕ) (t : Table) (c : Call) → Acceptable n t c → Step (clock_of t) (reserves_accepted c) (change_accepted t c).counters.clock
unfolding change_accepted
step_accepted n t (begin number) (r, f) = one number.0 refl r.positive r.from_clock refl
step_accepted n t (end slot id) o = nothing refl (le_refl _)
step_accepted n t (snap clock sample) o = nothing refl o.onward
step_accepted n t (own slot id clock sample) (o, v) = nothing refl v.onward
step_accepted n t (oldest clock sample) o = nothing refl o.onward
step_accepted n t (vacuum clock sample) o = nothing refl o.onward
step_accepted n t (stamp number) r = one number.0 refl r.positive r.from_clock refl
step_accepted n t (finish slot id number) (o, r) = one number.0 refl r.positive r.from_clock refl
step_accepted n t (pin clock sample) (o, f) = nothing refl o.onward
step_accepted n t (unpin k) h = nothing refl (le_refl _)

pub reserve_step : (n : ℕ) (t : Table) (c : Call) → Step (clock_of t) (reserves_by (refusal n t c) c) (clock_of (after n t c))
unfolding consumed spent after
reserve_step n t c =
    by_verdict n t c (λ v d. Step (clock_of t) (reserves_by v c) d.counters.clock)
    (λ e. step_accepted n t c (accepted_acceptable n t c e)) other
  where
    other : (r : Refusal) → Declined n t c r → Step (clock_of t) (consumed r) (change_refused t r).counters.clock
    other r (stays p) = nothing p (rw p (le_refl _))
    other r (spends number p q h f) = rw q (one number.0 refl h.positive h.from_clock refl)

-- numbers in order, each from 1 and from low on, all below high
abbrev pub InOrder : ℕ → List ℕ → ℕ → Type 0
InOrder low [] high = low ≤ high
InOrder low (x ∷ xs) high = (low ≤ x) × (1 ≤ x) × InOrder (x + 1) xs high

lower : (low low' : ℕ) (xs : List ℕ) (high : ℕ) → low ≤ low' → InOrder low' xs high → InOrder low xs high
lower low low' [] high h k = le_trans h k
lower low low' (x ∷ xs) high h (a, b, k) = (le_trans h a, b, k)

pub reserved_in_order :
    (n : ℕ) (t : Table) (cs : List Call) → InOrder (clock_of t) (reservations_from n t cs) (clock_of (run n t cs))
unfolding run reservations_from
reserved_in_order n t [] = le_refl _
reserved_in_order n t (c ∷ cs) = go (reserve_step n t c) (reserved_in_order n (after n t c) cs)
  where
    go : Step (clock_of t) (reserves_by (refusal n t c) c) (clock_of (after n t c)) →
        InOrder (clock_of (after n t c)) (reservations_from n (after n t c) cs) (clock_of (run n (after n t c) cs)) →
        InOrder (clock_of t) (reserves_by (refusal n t c) c ++ reservations_from n (after n t c) cs) (clock_of (run n (after n t c) cs))
    go (nothing p h) ih = rw p (lower _ _ (reservations_from n (after n t c) cs) _ h ih)
    go (one x p a b q) ih = rw p (b, a, lower (x + 1) _ (reservations_from n (after n t c) cs) _ (omega arith) ih)

-- by place, and by membership
order_high : (low : ℕ) (xs : List ℕ) (high : ℕ) → InOrder low xs high → low ≤ high
order_high low [] high k = k
order_high low (x ∷ xs) high (a, b, k) = omega (arith, order_high (x + 1) xs high k)

pub order_place :
    (low : ℕ) (xs : List ℕ) (high i : ℕ) → InOrder low xs high → i < length xs →
    (low ≤ get_or xs i 0) × (1 ≤ get_or xs i 0) × (get_or xs i 0 < high)
order_place low [] high i k h = absurd (not-suc-le-zero h)
order_place low (x ∷ xs) high zero (a, b, k) h = (a, b, omega (arith, order_high (x + 1) xs high k))
order_place low (x ∷ xs) high (suc i) (a, b, k) h =
    let (p, q, r) = order_place (x + 1) xs high i k (le_of_suc-le-suc h) in
    (omega arith, q, r)

pub order_places :
    (low : ℕ) (xs : List ℕ) (high i j : ℕ) → InOrder low xs high → i < j → j < length xs → get_or xs i 0 < get_or xs j 0
order_places low [] high i j k l h = absurd (not-suc-le-zero h)
order_places low (x ∷ xs) high zero zero k l h = absurd (not-suc-le-zero l)
order_places low (x ∷ xs) high zero (suc j) (a, b, k) l h =
    let (p, q, r) = order_place (x + 1) xs high j k (le_of_suc-le-suc h) in
    omega arith
order_places low (x ∷ xs) high (suc i) zero k l h = absurd (not-suc-le-zero l)
order_places low (x ∷ xs) high (suc i) (suc j) (a, b, k) l h =
    order_places (x + 1) xs high i j k (le_of_suc-le-suc l) (le_of_suc-le-suc h)

pub order_listed :
    (low : ℕ) (xs : List ℕ) (high x : ℕ) → InOrder low xs high → listed x xs ≡ true → (low ≤ x) × (1 ≤ x) × (x < high)
order_listed low [] high x k e = absurd (listed_none x e)
order_listed low (y ∷ ys) high x (a, b, k) e = go (listed_cases x y ys e) (order_listed (y + 1) ys high x k)
  where
    go : (y ≡ x) ⊎ (listed x ys ≡ true) → (listed x ys ≡ true → (y + 1 ≤ x) × (1 ≤ x) × (x < high)) →
        (low ≤ x) × (1 ≤ x) × (x < high)
    go (inl p) ih = (omega arith, omega arith, omega (arith, order_high (y + 1) ys high k))
    go (inr p) ih =
        let (u, v, w) = ih p in
        (omega arith, v, w)

-- every number reserved in a history is from 1 to below its clock
pub reserved_in_range :
    (n : ℕ) (cs : List Call) (x : ℕ) → listed x (reservations n cs) ≡ true → (1 ≤ x) × (x < clock_of (reached n cs))
reserved_in_range n cs x e =
    let (a, b, c) = order_listed _ (reservations n cs) _ x (reserved_in_order n (fresh_table n) cs) e in
    (b, c)

-- so the clock never falls
pub clock_never_falls : (n : ℕ) (before later : List Call) → clock_of (reached n before) ≤ clock_of (reached n (before ++ later))
clock_never_falls n before later =
    rw run-append
    (order_high _ (reservations_from n (reached n before) later) _ (reserved_in_order n (reached n before) later))

-- a history's numbers go on those of each of its beginnings: upstream's `extends`
pub reservations-append :
    (n : ℕ) (t : Table) (before later : List Call) →
    reservations_from n t (before ++ later) ≡ reservations_from n t before ++ reservations_from n (run n t before) later
unfolding run reservations_from
reservations-append n t [] later = refl
reservations-append n t (c ∷ before) later =
    ap (λ (l : List ℕ). reserves_by (refusal n t c) c ++ l) (reservations-append n (after n t c) before later)
    ∙ sym (append_assoc (reserves_by (refusal n t c) c) _ _)

-- one more call adds what it reserves at the end, and nothing else moves
pub reservations_snoc :
    (n : ℕ) (cs : List Call) (c : Call) →
    reservations n (cs ++ c ∷ []) ≡ reservations n cs ++ reserves_by (refusal n (reached n cs) c) c
unfolding reservations_from
reservations_snoc n cs c =
    reservations-append n (fresh_table n) cs (c ∷ [])
    ∙ ap (λ (l : List ℕ). reservations n cs ++ l) (append-nil (reserves_by (refusal n (reached n cs) c) c))

-- end, snap, own, oldest, vacuum, pin and unpin reserve nothing, accepted or refused
pub reserves_nothing :
    (n : ℕ) (t : Table) (c : Call) → reserves_accepted c ≡ [] → reserves_by (refusal n t c) c ≡ []
reserves_nothing n t c e = by_verdict n t c (λ v d. reserves_by v c ≡ []) (λ a. e) other
  where
    other : (r : Refusal) → Declined n t c r → consumed r ≡ []
    other r (stays p) = p
    other r (spends number p q h f) = absurd (cons≢nil (rw p at e))

-- what a call reserves is above every number reserved before it, those of refusal 1 included
pub reserves_above :
    (n : ℕ) (cs : List Call) (c : Call) (x y : ℕ) → listed x (reservations n cs) ≡ true →
    listed y (reserves_by (refusal n (reached n cs) c) c) ≡ true → x < y
reserves_above n cs c x y e h = go (reserve_step n (reached n cs) c)
  where
    go : Step (clock_of (reached n cs)) (reserves_by (refusal n (reached n cs) c) c) (clock_of (after n (reached n cs) c)) → x < y
    go (nothing p k) = absurd (listed_none y (rw p at h))
    go (one z p a b q) = only (listed_cases y z [] (rw p at h))
      where
        only : (z ≡ y) ⊎ (listed y [] ≡ true) → x < y
        only (inl w) = omega (arith, reserved_in_range n cs x e)
        only (inr w) = absurd (listed_none y w)

module _ (n : ℕ) (cs : List Call) (number : Stamp) (x : ℕ) (e : listed x (reservations n cs) ≡ true) where
  pub begin_above : Accepts n (reached n cs) (begin number) → x < number.0
  begin_above a = reserves_above n cs (begin number) x number.0 e (rw a (listed-head number.0 []))

  pub stamp_above : Accepts n (reached n cs) (stamp number) → x < number.0
  stamp_above a = reserves_above n cs (stamp number) x number.0 e (rw a (listed-head number.0 []))

  -- this stands in for upstream's `reader`
  pub finish_above : (slot : SlotNo) (id : Txid) → Accepts n (reached n cs) (finish slot id number) → x < number.0
  finish_above slot id a = reserves_above n cs (finish slot id number) x number.0 e (rw a (listed-head number.0 []))
