-- A number's text is read as that number, and what is read as a number is its text.
use Prim.Native.Nat.{ℕ, ◌+◌, ◌-◌, ◌*◌, ◌/◌, ◌%◌, ◌^◌, ◌≤◌, ◌<◌}
use native.Mathlib.Omega.{arith}
use native.Mathlib.Nat.{add-sub_cancel_left}
use native.Mathlib.Numerals.{add-one}
use mathlib.Core.Path.{◌≡◌, refl, sym, ap, ap₂, ◌∙◌}
use mathlib.Core.List.{List, [], ◌∷◌, ◌++◌, append_assoc}
use mathlib.Core.Bool.{Bool, true, false, cond, ◌&&◌, false≢true}
use Rattle.std.proofs.lemmas.Option.{some_pair_parts}
use lib.Dec.{leb, ltb, eqb}
use lib.ListN.{length, drop, get_or, length-append, drop_of_length-le}
use lib.Seq.{drop-cons}
use borrow.Author.Tests.{eq-eqb, ne_eqb, le-leb, lt-ltb, leb-true, ltb-true, eqb-true}
use Rattle.text.specs.Decimal.{decimal, number_text, is_digit, goes_on, number_tail, number_from, number_at}
use Rattle.text.specs.Number.{Is, Bad}
use Rattle.text.proofs.Decimal.{decimal_small, decimal_more, by_tens, length_text}

-- one step of reading, at an index
module _ (s : List ℕ) (i : ℕ) where
  pub start_none : length s ≤ i → number_at s i ≡ Bad
  unfolding number_at number_from
  start_none h = rw (drop_of_length-le s)

  pub start_step : i < length s → number_at s i ≡ cond (is_digit (get_or s i 0)) (number_tail (drop (i + 1) s) (get_or s i 0 - 48) (i + 1)) Bad
  unfolding number_at number_from
  start_step h = rw (drop-cons s i 0) (simp add-one)

  pub tail_none : (n : ℕ) → length s ≤ i → number_tail (drop i s) n i ≡ Bad
  unfolding number_tail
  tail_none n h = rw (drop_of_length-le s)

  pub tail_ends : (n : ℕ) → i < length s → get_or s i 0 ≡ 10 → number_tail (drop i s) n i ≡ Is n (i + 1)
  unfolding number_tail
  tail_ends n h e = rw (drop-cons s i 0, eq-eqb (get_or s i 0) 10 e)

  pub tail_stops : (n : ℕ) → i < length s → (get_or s i 0 ≡ 10 → ⊥) → goes_on n (get_or s i 0) ≡ false → number_tail (drop i s) n i ≡ Bad
  unfolding number_tail
  tail_stops n h e g = rw (drop-cons s i 0, ne_eqb (get_or s i 0) 10 e, g)

  pub tail_goes : (n : ℕ) → i < length s → (get_or s i 0 ≡ 10 → ⊥) → goes_on n (get_or s i 0) ≡ true
      → number_tail (drop i s) n i ≡ number_tail (drop (i + 1) s) (n * 10 + (get_or s i 0 - 48)) (i + 1)
  unfolding number_tail
  tail_goes n h e g = rw (drop-cons s i 0, ne_eqb (get_or s i 0) 10 e, g) (simp add-one)

-- one step of reading, where a byte is known
pub ruleset reading = (start_none, start_step, tail_none, tail_ends, tail_goes)

pub goes : (n b : ℕ) → 48 ≤ b → b ≤ 57 → 0 < n → n * 10 + (b - 48) < 2 ^ 64 → goes_on n b ≡ true
goes n b lo hi pos fits = simp (le-leb 48 b lo, le-leb b 57 hi, lt-ltb 0 n pos, lt-ltb (n * 10 + (b - 48)) (2 ^ 64) fits)

-- reading the digits of n leaves what stands after them, with n in hand
Reads : ℕ → Type 0
Reads n = n < 2 ^ 64 → (t : List ℕ) (at : ℕ) → number_from (decimal n ++ t) at ≡ number_tail t n (at + length (decimal n))

reads : (n : ℕ) → Reads n
unfolding Reads number_from number_tail
reads = by_tens Reads one-digit more-digits
  where
    one-digit : (n : ℕ) → n < 10 → Reads n
    one-digit n h fits t at =
        let low = le-leb 48 (48 + n) (omega arith) in
        let high = le-leb (48 + n) 57 (omega arith) in
        rw (decimal_small n h) (simp (low, high) (rw (add-sub_cancel_left 48 n)))

    more-digits : (n : ℕ) → 10 ≤ n → Reads (n / 10) → Reads n
    more-digits n h ih fits t at =
        let b = 48 + n % 10 in
        let on = goes (n / 10) b (omega arith) (omega arith) (omega arith) (omega arith) in
        rw (decimal_more n h, append_assoc, ih (omega arith), ne_eqb b 10 (λ x. omega arith), on)
        (ap₂ (number_tail t) (omega arith) (simp length-append (omega arith)))

-- reading what is printed gives the number
pub number_of : (n : ℕ) → n < 2 ^ 64 → (rest : List ℕ) (at : ℕ) → number_from (number_text n ++ rest) at ≡ Is n (at + length (number_text n))
unfolding number_text number_tail Reads
number_of n fits rest at = rw append_assoc (reads n fits (10 ∷ rest) at ∙ ap (Is n) (simp length-append (omega arith)))

-- what the tests of a byte say of it
both : (a b : Bool) → (a && b) ≡ true → (a ≡ true) × (b ≡ true)
both true b e = (refl, e)
both false b e = absurd (false≢true e)

pub record Digit (b : ℕ) : Type 0 where
  pub low : 48 ≤ b
  pub high : b ≤ 57

pub digit : (b : ℕ) → is_digit b ≡ true → Digit b
digit b e = let d = both (leb 48 b) (leb b 57) e in record { low = leb-true 48 b d.0; high = leb-true b 57 d.1 }

pub record Went (n b : ℕ) : Type 0 where
  pub low : 48 ≤ b
  pub high : b ≤ 57
  pub some : 0 < n
  pub fits : n * 10 + (b - 48) < 2 ^ 64

pub went : (n b : ℕ) → goes_on n b ≡ true → Went n b
went n b e =
    let q = both (is_digit b) (ltb 0 n && ltb (n * 10 + (b - 48)) (2 ^ 64)) e in
    let d = digit b q.0 in
    let r = both (ltb 0 n) (ltb (n * 10 + (b - 48)) (2 ^ 64)) q.1 in
    record { low = d.low; high = d.high; some = ltb-true 0 n r.0; fits = ltb-true (n * 10 + (b - 48)) (2 ^ 64) r.1 }

-- the text of m stands at the front of s, and e is past it where s starts at `at`
pub record Spelt (s : List ℕ) (at m e : ℕ) : Type 0 where
  pub rest : List ℕ
  pub text : s ≡ number_text m ++ rest
  pub past : e ≡ at + length (number_text m)
  pub fits : m < 2 ^ 64

pub no_number : (m e : ℕ) → Bad ≡ Is m e → ⊥
no_number m e h = let z : ◌≡◌ {A = ℕ} 0 1 = cc in omega arith

text_then : (m : ℕ) (rest : List ℕ) → number_text m ++ rest ≡ decimal m ++ 10 ∷ rest
unfolding number_text
text_then m rest = append_assoc (decimal m) (10 ∷ []) rest

-- what a number's tail accepts, with the digits before it put back, is the text of a number
tail_text : (s : List ℕ) (n at m e : ℕ) → n < 2 ^ 64 → number_tail s n (at + length (decimal n)) ≡ Is m e → Spelt (decimal n ++ s) at m e
unfolding number_tail
tail_text [] n at m e fits h = absurd (no_number m e h)
tail_text (b ∷ bs) n at m e fits h = go (eqb b 10) (goes_on n b) refl refl (tail_text bs (n * 10 + (b - 48)) at m e) h
  where
    k : ℕ
    k = n * 10 + (b - 48)

    past : ℕ
    past = at + length (decimal n) + 1

    go : (x y : Bool) → eqb b 10 ≡ x → goes_on n b ≡ y
        → (k < 2 ^ 64 → number_tail bs k (at + length (decimal k)) ≡ Is m e → Spelt (decimal k ++ bs) at m e)
        → cond x (Is n past) (cond y (number_tail bs k past) Bad) ≡ Is m e → Spelt (decimal n ++ b ∷ bs) at m e
    go true y p q ih h =
        let parts = some_pair_parts n m past e h in
        let same = parts.0 in
        record {
          rest = bs;
          text = rw (eqb-true b 10 p, same, text_then);
          past = omega (arith, parts.1, length_text m, ap (λ (x : ℕ). length (decimal x)) same);
          fits = omega arith;
        }
    go false false p q ih h = absurd (no_number m e h)
    go false true p q ih h =
        let w = went n b q in
        let tenth : k / 10 ≡ n = omega (arith, w.low, w.high) in
        let last : 48 + k % 10 ≡ b = omega (arith, w.low, w.high) in
        let digits : decimal k ≡ decimal n ++ (b ∷ []) =
        decimal_more k (omega (arith, w.some)) ∙ ap₂ (λ (x y : ℕ). decimal x ++ (y ∷ [])) tenth last in
        let r = ih w.fits (ap (number_tail bs k) (omega (arith, simp length-append at (ap length digits))) ∙ h) in
        record {
          rest = r.rest;
          text = sym (append_assoc (decimal n) (b ∷ []) bs) ∙ ap (λ (x : List ℕ). x ++ bs) (sym digits) ∙ r.text;
          past = r.past;
          fits = r.fits;
        }

-- what is read as a number is that number's text
pub text_of : (s : List ℕ) (at m e : ℕ) → number_from s at ≡ Is m e → Spelt s at m e
unfolding number_from
text_of [] at m e h = absurd (no_number m e h)
text_of (b ∷ bs) at m e h = go (is_digit b) refl h
  where
    go : (x : Bool) → is_digit b ≡ x → cond x (number_tail bs (b - 48) (at + 1)) Bad ≡ Is m e → Spelt (b ∷ bs) at m e
    go false q h = absurd (no_number m e h)
    go true q h =
        let d = digit b q in
        let one : decimal (b - 48) ≡ b ∷ [] =
        decimal_small (b - 48) (omega (arith, d.low, d.high)) ∙ ap (λ (x : ℕ). x ∷ []) (omega (arith, d.low)) in
        rw one at (tail_text bs (b - 48) at m e (omega (arith, d.high)) (rw one h))
