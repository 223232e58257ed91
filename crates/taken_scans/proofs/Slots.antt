-- The tallies of some slots, and of the slots after them. No law names a number of slots.
use mathlib.Core.Path.{◌≡◌, refl, sym, ap, ◌∙◌}
use mathlib.Core.Bool.{Bool, true, false, true≢false}
use mathlib.Core.List.{List, [], ◌∷◌, ◌++◌}
use Prim.Native.Nat.{ℕ, ◌+◌, ◌*◌, ◌/◌, ◌<◌, min, max}
use native.Mathlib.Omega.{arith}
use lib.ListN.{length, take, drop, get_or, length-take, take-append-drop}
use lib.Seq.{take-add}
use Rattle.std.proofs.Common.{add-one}
use Rattle.std.proofs.Math.Nat.{mul_comm, mul-suc}
use Rattle.std.proofs.lemmas.List.{take_min}
use lib.Dec.{eqb}
use borrow.Author.Tests.{ne_eqb}
use Rattle.std.specs.List.{list_all}
use Rattle.std.specs.Simd.{first_chunks}
use Rattle.kinds.proofs.Lists.{from}
use Rattle.model.specs.Tally.{cons_unless, active, retained, minimum, maximum, oldest_of}
use Rattle.model.proofs.Tally.{retained_self}
use Rattle.turns.proofs.Turns.{turn_at, turn_count}

pub minimum-append : (a : ℕ) (xs ys : List ℕ) → minimum a (xs ++ ys) ≡ minimum (minimum a xs) ys
unfolding minimum
minimum-append a [] ys = refl
minimum-append a (x ∷ xs) ys = minimum-append (min a x) xs ys

pub maximum-append : (a : ℕ) (xs ys : List ℕ) → maximum a (xs ++ ys) ≡ maximum (maximum a xs) ys
unfolding maximum
maximum-append a [] ys = refl
maximum-append a (x ∷ xs) ys = maximum-append (max a x) xs ys

cons_unless-append : (b : Bool) (x : ℕ) (xs ys : List ℕ) → cons_unless b x (xs ++ ys) ≡ cons_unless b x xs ++ ys
cons_unless-append true x xs ys = refl
cons_unless-append false x xs ys = refl

pub retained-append :
    (txids xmins ts ms : List ℕ) → length txids ≡ length xmins →
    retained (txids ++ ts) (xmins ++ ms) ≡ retained txids xmins ++ retained ts ms
unfolding retained
retained-append [] [] ts ms e = refl
retained-append [] (m ∷ xmins) ts ms e = absurd (omega (arith, e))
retained-append (t ∷ txids) [] ts ms e = absurd (omega (arith, e))
retained-append (t ∷ txids) (m ∷ xmins) ts ms e =
    rw (retained-append txids xmins ts ms (omega (arith, e)))
    (cons_unless-append (eqb t 0) m (retained txids xmins) (retained ts ms))

pub active-append : (xs ys : List ℕ) → active (xs ++ ys) ≡ active xs ++ active ys
active-append xs ys =
    sym (retained_self (xs ++ ys)) ∙ retained-append xs xs ys ys refl ∙ rw (retained_self xs, retained_self ys)

-- slots that are all empty
pub retained_none : (txids xmins : List ℕ) → list_all (λ y. eqb y 0) txids ≡ true → retained txids xmins ≡ []
unfolding retained
retained_none [] xmins e = refl
retained_none (t ∷ txids) [] e = refl
retained_none (t ∷ txids) (m ∷ xmins) e = go (eqb t 0) refl (retained_none txids xmins)
  where
    go :
        (b : Bool) → eqb t 0 ≡ b → (list_all (λ y. eqb y 0) txids ≡ true → retained txids xmins ≡ []) →
        cons_unless (eqb t 0) m (retained txids xmins) ≡ []
    go true q ih = rw q (ih (rw q at e))
    go false q ih = absurd (true≢false (sym (rw q at e)))

pub active_none : (txids : List ℕ) → list_all (λ y. eqb y 0) txids ≡ true → active txids ≡ []
active_none txids e = sym (retained_self txids) ∙ retained_none txids txids e

-- the smallest xmin of some slots, then of the slots after them
pub oldest_then :
    (txids xmins ts ms : List ℕ) (low : ℕ) → length txids ≡ length xmins →
    oldest_of (txids ++ ts) (xmins ++ ms) low ≡ oldest_of ts ms (oldest_of txids xmins low)
oldest_then txids xmins ts ms low e =
    rw (retained-append txids xmins ts ms e) (minimum-append low (retained txids xmins) (retained ts ms))

-- what stands past the shorter column is not read
cut : (txids xmins : List ℕ) → retained (take (length xmins) txids) (take (length txids) xmins) ≡ retained txids xmins
unfolding retained
cut [] [] = refl
cut [] (m ∷ xmins) = refl
cut (t ∷ txids) [] = refl
cut (t ∷ txids) (m ∷ xmins) = ap (cons_unless (eqb t 0) m) (cut txids xmins)

pub oldest_cut :
    (txids xmins : List ℕ) (low end : ℕ) → end ≡ min (length txids) (length xmins) →
    oldest_of (take end txids) (take end xmins) low ≡ oldest_of txids xmins low
oldest_cut txids xmins low end e =
    let other : end ≡ min (length xmins) (length txids) = omega arith in
    let left : take end txids ≡ take (length xmins) txids = rw other (take_min (length xmins) txids) in
    let right : take end xmins ≡ take (length txids) xmins = rw e (take_min (length txids) xmins) in
    ap (minimum low) (rw (left, right) (cut txids xmins))

pub cut_as_long :
    (txids xmins : List ℕ) (end : ℕ) → end ≡ min (length txids) (length xmins) → length (take end txids) ≡ length (take end xmins)
cut_as_long txids xmins end e = omega (arith, e, length-take end txids, length-take end xmins)

-- one slot more
pub take_one : (xs : List ℕ) (i : ℕ) → i < length xs → take (i + 1) xs ≡ take i xs ++ (get_or xs i 0 ∷ [])
take_one xs i h = take-add i 1 xs ∙ rw (from xs i h)

module _ (txids xmins : List ℕ) (low i : ℕ) (inside : i < length txids) (beside : i < length xmins) where
  oldest_next :
      oldest_of (take (i + 1) txids) (take (i + 1) xmins) low
      ≡ oldest_of (get_or txids i 0 ∷ []) (get_or xmins i 0 ∷ []) (oldest_of (take i txids) (take i xmins) low)
  oldest_next =
      rw (take_one txids i inside, take_one xmins i beside)
      (oldest_then (take i txids) (take i xmins) _ _ low (omega (arith, inside, beside, length-take i txids, length-take i xmins)))

  module _ {txid lowest : ℕ} (here : txid ≡ get_or txids i 0) (so_far : lowest ≡ oldest_of (take i txids) (take i xmins) low) where
    -- an empty slot
    pub oldest_miss : txid ≡ 0 → lowest ≡ oldest_of (take (i + 1) txids) (take (i + 1) xmins) low
    unfolding retained minimum
    oldest_miss e = so_far ∙ sym (oldest_next ∙ rw (← here, e))

    -- a taken one
    pub oldest_hit :
        {xmin next : ℕ} → xmin ≡ get_or xmins i 0 → (txid ≡ 0 → ⊥) → next ≡ min lowest xmin →
        next ≡ oldest_of (take (i + 1) txids) (take (i + 1) xmins) low
    unfolding retained minimum
    oldest_hit there e q = q ∙ rw (so_far, there) (sym (oldest_next ∙ rw (← here, ne_eqb txid 0 e)))

-- one turn of n slots more, and the slots that are left past the turns
module _
    (n : ℕ) (xs : List ℕ) (turns : List (List ℕ)) (t : turns ≡ first_chunks n (length xs / n) xs)
  where
    count : length turns ≡ length xs / n
    count = ap length t ∙ turn_count n (length xs / n) xs

    pub take_turn : (j : ℕ) → j < length turns → take (n * (j + 1)) xs ≡ take (n * j) xs ++ get_or turns j []
    take_turn j h =
        let next : n * (j + 1) ≡ n * j + n = rw add-one (mul-suc n j) in
        rw (next, take-add (n * j) n xs, t, turn_at n (length xs / n) xs j (omega (arith, h, count)) [])

    pub take_rest :
        (j : ℕ) → j ≡ length turns → (rest : List ℕ) → rest ≡ drop (length xs / n * n) xs → xs ≡ take (n * j) xs ++ rest
    take_rest j h rest r =
        rw (h, r, count, mul_comm (length xs / n) n) (sym (take-append-drop (n * (length xs / n)) xs))

-- .. of two columns of one length
module _
    (n : ℕ) (txids xmins : List ℕ) (same : length txids ≡ length xmins) (turns beside : List (List ℕ))
    (t : turns ≡ first_chunks n (length txids / n) txids) (b : beside ≡ first_chunks n (length xmins / n) xmins) (low : ℕ)
  where
    as_long : (k : ℕ) → length (take k txids) ≡ length (take k xmins)
    as_long k = length-take k txids ∙ rw same (sym (length-take k xmins))

    module _ (j : ℕ) {lowest : ℕ} (so_far : lowest ≡ oldest_of (take (n * j) txids) (take (n * j) xmins) low) where
      pub oldest_turn :
          {ts ms : List ℕ} {next : ℕ} → j < length turns → j < length beside → ts ≡ get_or turns j [] → ms ≡ get_or beside j [] →
          next ≡ oldest_of ts ms lowest → next ≡ oldest_of (take (n * (j + 1)) txids) (take (n * (j + 1)) xmins) low
      oldest_turn h k e f q =
          q
          ∙ rw (so_far, e, f, take_turn n txids turns t j h, take_turn n xmins beside b j k)
          (sym (oldest_then (take (n * j) txids) (take (n * j) xmins) (get_or turns j []) (get_or beside j []) low (as_long (n * j))))

      pub oldest_rest :
          {ts ms : List ℕ} {next : ℕ} → j ≡ min (length turns) (length beside) →
          ts ≡ drop (length txids / n * n) txids → ms ≡ drop (length xmins / n * n) xmins →
          next ≡ oldest_of ts ms lowest → next ≡ oldest_of txids xmins low
      oldest_rest {ts} {ms} h e f q =
          let halves : length txids / n ≡ length xmins / n = ap (λ (k : ℕ). k / n) same in
          let left : j ≡ length turns = omega (arith, h, count n txids turns t, count n xmins beside b, halves) in
          let right : j ≡ length beside = omega (arith, h, count n txids turns t, count n xmins beside b, halves) in
          let first = take_rest n txids turns t j left ts e in
          let second = take_rest n xmins beside b j right ms f in
          let split : oldest_of txids xmins low ≡ oldest_of (take (n * j) txids ++ ts) (take (n * j) xmins ++ ms) low =
          ap (λ (l : List ℕ). oldest_of l xmins low) first
          ∙ ap (λ (l : List ℕ). oldest_of (take (n * j) txids ++ ts) l low) second in
          let two = oldest_then (take (n * j) txids) (take (n * j) xmins) ts ms low (as_long (n * j)) in
          q ∙ sym (rw (← so_far) at (split ∙ two))

-- a turn of empty slots
pub oldest_none : (txids xmins : List ℕ) (low : ℕ) → list_all (λ y. eqb y 0) txids ≡ true → low ≡ oldest_of txids xmins low
unfolding minimum
oldest_none txids xmins low e = rw (retained_none txids xmins e) refl
