-- Facts of a text spliced into a buffer.
use Prim.Native.Nat.{ℕ, suc, ◌+◌, ◌-◌, ◌/◌, ◌%◌, ◌≤◌, ◌<◌}
use native.Mathlib.Omega.{arith}
use native.Mathlib.Decide.{dec_lt}
use native.Mathlib.Nat.{add-suc, add-zero, add_assoc}
use native.Mathlib.Numerals.{add-one}
use mathlib.Core.Path.{◌≡◌, refl, sym, ap, ap₂, ◌∙◌}
use mathlib.Core.List.{List, [], ◌∷◌, ◌++◌, append_assoc, append-nil}
use lib.ListN.{length, take, drop, set, get_or, length-append, length-take, length-drop, take-append-drop}
use lib.Seq.{take_all, set_at, drop-cons, length-take-le, take-suc, take_at, drop-append-add, drop-drop}
use borrow.Author.Tests.{le-leb, lt-leb}
use borrow.Rule.Slice.PartMut.{put_mid}
use Rattle.std.proofs.lemmas.Slice.{put_mid-paste}
use Rattle.text.specs.Put.{Past, NoRoom}
use Rattle.text.specs.Decimal.{decimal, number_text}
use Rattle.text.specs.Line.{line_text}
use Rattle.text.specs.Write.{spliced, put_at, written}
use Rattle.text.proofs.Decimal.{decimal_small, decimal_more, length_some, length_more, length_small}

pub splice_length : (xs : List ℕ) (at : ℕ) (t : List ℕ) → at + length t ≤ length xs → length (spliced xs at t) ≡ length xs
unfolding spliced
splice_length xs at t h = simp (length-append, length-take, length-drop) (omega arith)

pub splice_none : (xs : List ℕ) (at : ℕ) → xs ≡ spliced xs at []
unfolding spliced
splice_none xs at = simp (append-nil, add-zero) (sym (take-append-drop at xs))

-- a byte more at the end, and a byte more at the front
pub splice_more : (xs : List ℕ) (at : ℕ) (t : List ℕ) (b : ℕ) → at + length t < length xs
    → set (spliced xs at t) (at + length t) b ≡ spliced xs at (t ++ (b ∷ []))
unfolding spliced
splice_more xs at t b h =
    let p = at + length t in
    let before : length (take at xs ++ t) ≡ p = simp (length-append, length-take) (omega arith) in
    rw (drop-cons xs p 0, set_at (take at xs ++ t) (get_or xs p 0) (drop (suc p) xs) b p before)
    (simp (append_assoc, length-append, add-suc, add-one))

pub splice_front : (xs : List ℕ) (at : ℕ) (t : List ℕ) (b : ℕ) → at < length xs → set (spliced xs (suc at) t) at b ≡ spliced xs at (b ∷ t)
unfolding spliced
splice_front xs at t b h =
    let d : suc at + length t ≡ at + length (b ∷ t) = omega arith in
    let before = length-take-le at xs (omega arith) in
    let there = set_at (take at xs) (get_or xs at 0) (t ++ drop (suc at + length t) xs) b at before in
    rw (take-suc xs at 0, append_assoc, append_assoc, there, d)
    (sym (append_assoc (take at xs) (b ∷ t) (drop (at + length (b ∷ t)) xs)))

pub splice_append : (xs : List ℕ) (at : ℕ) (t u : List ℕ) → at ≤ length xs
    → spliced (spliced xs at t) (at + length t) u ≡ spliced xs at (t ++ u)
unfolding spliced
splice_append xs at t u h =
    let l : length (take at xs ++ t) ≡ at + length t = simp (length-append, length-take) (omega arith) in
    let d : drop (at + length t + length u) (take at xs ++ t ++ drop (at + length t) xs) ≡ drop (at + length t + length u) xs =
    ap (λ (k : ℕ). drop (k + length u) (take at xs ++ t ++ drop (at + length t) xs)) (sym l)
    ∙ drop-append-add (take at xs ++ t) (drop (at + length t) xs) (length u)
    ∙ drop-drop (length u) (at + length t) xs in
    rw (take_at (take at xs ++ t) (drop (at + length t) xs) (at + length t) l, d) (simp (append_assoc, length-append, add_assoc))

-- what a part of a buffer holds once a text has been copied into it
pub splice_part : (xs : List ℕ) (at k : ℕ) (ys t : List ℕ) → ys ≡ t → k ≡ length t → put_mid at k xs ys ≡ spliced xs at t
unfolding spliced
splice_part xs at k ys t e h =
    put_mid-paste at k xs ys t (length t) e (sym h) refl
    ∙ ap (λ (u : List ℕ). take at xs ++ u ++ drop (at + length t) xs) (take_all (length t) t (omega arith))

-- the answer and the buffer, with room and without
pub no_room : (xs : List ℕ) (at : ℕ) (t : List ℕ) → length xs < at + length t
    → (NoRoom ≡ put_at xs at t) × (xs ≡ written xs at t)
unfolding put_at written
no_room xs at t h = (rw (lt-leb (at + length t) (length xs) h), rw (lt-leb (at + length t) (length xs) h))

pub room : (xs : List ℕ) (at : ℕ) (t : List ℕ) → at + length t ≤ length xs
    → (Past (at + length t) ≡ put_at xs at t) × (spliced xs at t ≡ written xs at t)
unfolding put_at written
room xs at t h = (rw (le-leb (at + length t) (length xs) h), rw (le-leb (at + length t) (length xs) h))

-- the digits of n written from the back, down to i: all of them at `at`, and above it those of `left` are still to come
pub record Backwards (xs : List ℕ) (at n : ℕ) (ys : List ℕ) (left i : ℕ) : Type 0 where
  pub done : List ℕ
  pub left_there : ys ≡ spliced xs i done
  pub from : at ≤ i
  pub whole : i ≤ at → done ≡ decimal n
  pub digits : at < i → decimal n ≡ decimal left ++ done
  pub place : at < i → i ≡ at + length (decimal left)

pub back_none : (xs : List ℕ) (at n i : ℕ) → i ≡ at + length (decimal n) → Backwards xs at n xs n i
back_none xs at n i h = record {
  done = [];
  left_there = splice_none xs i;
  from = omega arith;
  whole = λ z. absurd (omega (arith, length_some n));
  digits = λ z. sym (append-nil (decimal n));
  place = λ z. h;
}

pub back_more : (xs : List ℕ) (at n : ℕ) (ys : List ℕ) (left i : ℕ) → at < i → i ≤ length xs → Backwards xs at n ys left i
    → Backwards xs at n (set ys (i - 1) (48 + left % 10)) (left / 10) (i - 1)
back_more xs at n ys left i h l b = go (dec_lt left 10)
  where
    done : List ℕ
    done = (48 + left % 10) ∷ b.done

    there : set ys (i - 1) (48 + left % 10) ≡ spliced xs (i - 1) done
    there =
        let before : i ≡ suc (i - 1) = omega arith in
        let was : ys ≡ spliced xs (suc (i - 1)) b.done = b.left_there ∙ ap (λ (k : ℕ). spliced xs k b.done) before in
        rw was (splice_front xs (i - 1) b.done (48 + left % 10) (omega arith))

    go : Dec (left < 10) → Backwards xs at n (set ys (i - 1) (48 + left % 10)) (left / 10) (i - 1)
    go (yes small) =
        let digit : 48 + left ≡ 48 + left % 10 = omega arith in
        let last : i ≡ at + 1 = omega (arith, b.place h, length_small left small) in
        record {
          done = done;
          left_there = there;
          from = omega arith;
          whole = λ z. sym (b.digits h ∙ rw (decimal_small left small) (ap (λ (k : ℕ). k ∷ b.done) digit));
          digits = λ z. absurd (omega (arith, last));
          place = λ z. absurd (omega (arith, last));
        }
    go (no large) =
        let ten : 10 ≤ left = omega arith in
        let before : i ≡ at + length (decimal (left / 10)) + 1 = omega (arith, b.place h, length_more left ten) in
        record {
          done = done;
          left_there = there;
          from = omega arith;
          whole = λ z. absurd (omega (arith, before, length_some (left / 10)));
          digits = λ z. b.digits h ∙ rw (decimal_more left ten, append_assoc);
          place = λ z. omega (arith, before);
        }

pub back_last : (xs : List ℕ) (at n : ℕ) (ys : List ℕ) (left i : ℕ) → i ≤ at → Backwards xs at n ys left i → ys ≡ spliced xs at (decimal n)
back_last xs at n ys left i h b =
    let here : i ≡ at = omega (arith, b.from) in
    b.left_there ∙ ap₂ (spliced xs) here (b.whole h)

-- a key, then a number's digits, then the newline
pub line-written : (xs : List ℕ) (at : ℕ) (key : List ℕ) (n : ℕ) → at + length (line_text key n) ≤ length xs
    → set (spliced (spliced xs at key) (at + length key) (decimal n)) (at + length key + length (decimal n)) 10
    ≡ spliced xs at (line_text key n)
unfolding line_text number_text
line-written xs at key n h =
    let l = simp length-append at h in
    rw (splice_append xs at key (decimal n) (omega arith), add_assoc, ← length-append key (decimal n))
    (splice_more xs at (key ++ decimal n) 10 (simp length-append (omega arith)) ∙ rw append_assoc)

pub line-length : (key : List ℕ) (n : ℕ) → length (line_text key n) ≡ length key + length (decimal n) + 1
unfolding line_text number_text
line-length key n = simp length-append (omega arith)

-- with d for its number of digits, as the code counts them
module _ (xs : List ℕ) (at : ℕ) (key : List ℕ) (n d : ℕ) (e : d ≡ length (decimal n)) where
  pub line_short : length xs < at + (length key + d + 1)
      → (NoRoom ≡ put_at xs at (line_text key n)) × (xs ≡ written xs at (line_text key n))
  line_short h = no_room xs at (line_text key n) (omega (arith, line-length key n))

  pub line-put : {ys zs : List ℕ} → at + (length key + d + 1) ≤ length xs
      → ys ≡ spliced xs at key → zs ≡ spliced ys (at + length key) (decimal n)
      → (Past (at + length key + d + 1) ≡ put_at xs at (line_text key n)) × (set zs (at + length key + d) 10 ≡ written xs at (line_text key n))
  line-put h p q =
      let l = line-length key n in
      let fits : at + length (line_text key n) ≤ length xs = omega arith in
      let r = room xs at (line_text key n) fits in
      (ap Past (omega arith) ∙ r.0, rw (q, p, e) (line-written xs at key n fits ∙ r.1))
