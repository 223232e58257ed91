-- Images and lists, written and read: each is undone by the other, number by number and slot by slot.
use Prim.Native.Nat.{ℕ, zero, suc, ◌+◌, ◌*◌, ◌/◌, ◌%◌, ◌≤◌}
use mathlib.Core.Path.{◌≡◌, refl, sym, ap, ◌∙◌}
use mathlib.Core.List.{List, [], ◌∷◌, ◌++◌, append-nil, append_assoc}
use native.Mathlib.Nat.{add_assoc}
use native.Mathlib.Omega.{arith}
use lib.ListN.{length, take, drop, length-append, length-drop, take-append-drop}
use lib.Seq.{drop-drop, drop_at, take-add, take_all}
use Rattle.kinds.specs.Kinds.{top, pin_count}
use Rattle.model.specs.declared.Counters.{Counters}
use Rattle.model.specs.declared.Table.{Table}
use Rattle.image.specs.Words.{word_bytes, words_bytes, word_at, words_from, Bytes, Words}
use Rattle.image.specs.Lists.{count_of, ids_of}
use Rattle.image.specs.Images.{slots_bytes, counters_bytes, image_of, counters_at, image_size, table_of, Expressible}
use Rattle.image.proofs.Eight.{bytes-length, word_in_front, bytes_there, bytes_drop}

pub words_length : (k : ℕ) (s : List ℕ) (from apart : ℕ) → length (words_from k s from apart) ≡ k
unfolding words_from
words_length zero s from apart = refl
words_length (suc k) s from apart = ap suc (words_length k s (from + apart) apart)

-- what lies past a place is read as from there
word-past : (s : List ℕ) (m i : ℕ) → word_at s (m + i) ≡ word_at (drop m s) i
unfolding word_at
word-past s m i = rw (drop-drop i m s)

pub words_past : (k : ℕ) (s : List ℕ) (m from apart : ℕ) → words_from k s (m + from) apart ≡ words_from k (drop m s) from apart
unfolding words_from
words_past zero s m from apart = refl
words_past (suc k) s m from apart =
    rw (word-past s m from, add_assoc m from apart, words_past k s m (from + apart) apart)

past_word : (x : ℕ) (r : List ℕ) → drop 8 (word_bytes x ++ r) ≡ r
past_word x r = drop_at (word_bytes x) r 8 (bytes-length 8 x)

-- numbers one after the other
pub words_read : (xs r : List ℕ) → Words xs → words_from (length xs) (words_bytes xs ++ r) 0 8 ≡ xs
unfolding words_from words_bytes
words_read [] r w = refl
words_read (x ∷ xs) r w =
    let s = word_bytes x ++ (words_bytes xs ++ r) in
    let later = words_past (length xs) s 8 0 8 ∙ ap (λ (t : List ℕ). words_from (length xs) t 0 8) (past_word x (words_bytes xs ++ r)) in
    rw (append_assoc (word_bytes x) (words_bytes xs) r, word_in_front x (words_bytes xs ++ r) (w 0), later, words_read xs r (λ i. w (suc i)))

pub words_written :
    (k : ℕ) (s : List ℕ) (from : ℕ) → Bytes s → from + 8 * k ≤ length s → words_bytes (words_from k s from 8) ≡ take (8 * k) (drop from s)
unfolding words_from words_bytes
words_written zero s from b h = refl
words_written (suc k) s from b h =
    let more : 8 * suc k ≡ 8 + 8 * k = omega arith in
    let first = bytes_there s from b (omega arith) in
    let later = words_written k s (from + 8) b (omega arith) in
    rw (more, first, later, take-add 8 (8 * k) (drop from s), drop-drop 8 from s)

words_length-bytes : (xs : List ℕ) → length (words_bytes xs) ≡ 8 * length xs
unfolding words_bytes
words_length-bytes [] = refl
words_length-bytes (x ∷ xs) = omega (arith, length-append (word_bytes x) (words_bytes xs), bytes-length 8 x, words_length-bytes xs)

-- slot after slot
slot-first : (x y : ℕ) (xs ys r : List ℕ) → slots_bytes (x ∷ xs) (y ∷ ys) ++ r ≡ word_bytes x ++ (word_bytes y ++ (slots_bytes xs ys ++ r))
unfolding slots_bytes
slot-first x y xs ys r =
    append_assoc (word_bytes x) (word_bytes y ++ slots_bytes xs ys) r
    ∙ ap (λ (l : List ℕ). word_bytes x ++ l) (append_assoc (word_bytes y) (slots_bytes xs ys) r)

past-slot : (x y : ℕ) (r : List ℕ) → drop 16 (word_bytes x ++ (word_bytes y ++ r)) ≡ r
past-slot x y r =
    sym (drop-drop 8 8 (word_bytes x ++ (word_bytes y ++ r)))
    ∙ ap (drop 8) (past_word x (word_bytes y ++ r))
    ∙ past_word y r

txids_read :
    (n : ℕ) (xs ys r : List ℕ) → length xs ≡ n → length ys ≡ n → Words xs → words_from n (slots_bytes xs ys ++ r) 0 16 ≡ xs
unfolding words_from
txids_read zero [] ys r h k w = refl
txids_read zero (x ∷ xs) ys r h k w = absurd (omega arith)
txids_read (suc n) [] ys r h k w = absurd (omega arith)
txids_read (suc n) (x ∷ xs) [] r h k w = absurd (omega arith)
txids_read (suc n) (x ∷ xs) (y ∷ ys) r h k w =
    let rest = slots_bytes xs ys ++ r in
    let s = word_bytes x ++ (word_bytes y ++ rest) in
    let later = words_past n s 16 0 16 ∙ ap (λ (t : List ℕ). words_from n t 0 16) (past-slot x y rest) in
    let others = txids_read n xs ys r (omega arith) (omega arith) (λ i. w (suc i)) in
    rw (slot-first x y xs ys r, word_in_front x (word_bytes y ++ rest) (w 0), later, others)

xmins_read :
    (n : ℕ) (xs ys r : List ℕ) → length xs ≡ n → length ys ≡ n → Words ys → words_from n (slots_bytes xs ys ++ r) 8 16 ≡ ys
unfolding words_from
xmins_read zero xs [] r h k w = refl
xmins_read zero xs (y ∷ ys) r h k w = absurd (omega arith)
xmins_read (suc n) [] ys r h k w = absurd (omega arith)
xmins_read (suc n) (x ∷ xs) [] r h k w = absurd (omega arith)
xmins_read (suc n) (x ∷ xs) (y ∷ ys) r h k w =
    let rest = slots_bytes xs ys ++ r in
    let s = word_bytes x ++ (word_bytes y ++ rest) in
    let here = word-past s 8 0 ∙ ap (λ (t : List ℕ). word_at t 0) (past_word x (word_bytes y ++ rest)) ∙ word_in_front y rest (w 0) in
    let later = words_past n s 16 8 16 ∙ ap (λ (t : List ℕ). words_from n t 8 16) (past-slot x y rest) in
    let others = xmins_read n xs ys r (omega arith) (omega arith) (λ i. w (suc i)) in
    rw (slot-first x y xs ys r, here, later, others)

slots_length : (n : ℕ) (xs ys : List ℕ) → length xs ≡ n → length ys ≡ n → length (slots_bytes xs ys) ≡ 16 * n
unfolding slots_bytes
slots_length zero [] ys h k = refl
slots_length zero (x ∷ xs) ys h k = absurd (omega arith)
slots_length (suc n) [] ys h k = absurd (omega arith)
slots_length (suc n) (x ∷ xs) [] h k = absurd (omega arith)
slots_length (suc n) (x ∷ xs) (y ∷ ys) h k =
    let others = slots_length n xs ys (omega arith) (omega arith) in
    let first = length-append (word_bytes x) (word_bytes y ++ slots_bytes xs ys) in
    let second = length-append (word_bytes y) (slots_bytes xs ys) in
    omega (arith, others, first, second, bytes-length 8 x, bytes-length 8 y)

slots_written :
    (n : ℕ) (s : List ℕ) → Bytes s → 16 * n ≤ length s → slots_bytes (words_from n s 0 16) (words_from n s 8 16) ≡ take (16 * n) s
unfolding words_from slots_bytes
slots_written zero s b h = refl
slots_written (suc n) s b h =
    let more : 16 * suc n ≡ 8 + (8 + 16 * n) = omega arith in
    let rest = drop 16 s in
    let others = slots_written n rest (bytes_drop 16 s b) (omega (arith, length-drop 16 s)) in
    rw (
      bytes_there s 0 b (omega arith),
      bytes_there s 8 b (omega arith),
      words_past n s 16 0 16,
      words_past n s 16 8 16,
      others,
      more,
      take-add 8 (8 + 16 * n) s,
      take-add 8 (16 * n) (drop 8 s),
      drop-drop 8 8 s,
    )

-- a number that stands at a place, and what follows it
read_there : (s : List ℕ) (at x : ℕ) (r : List ℕ) → drop at s ≡ word_bytes x ++ r → x ≤ top → (word_at s at ≡ x) × (drop (at + 8) s ≡ r)
unfolding word_at
read_there s at x r e h =
    (ap (λ (l : List ℕ). word_at l 0) e ∙ word_in_front x r h, sym (drop-drop 8 at s) ∙ ap (drop 8) e ∙ past_word x r)

three_words : (s : List ℕ) (at : ℕ) → words_from 3 s at 8 ≡ word_at s at ∷ word_at s (at + 8) ∷ word_at s (at + 16) ∷ []
unfolding words_from
three_words s at =
    let third : at + 8 + 8 ≡ at + 16 = omega arith in
    rw third

counters_read :
    (c : Counters) (s : List ℕ) (at : ℕ) → drop at s ≡ counters_bytes c → c.clock ≤ top → c.sampled_clock ≤ top →
    c.vacuum_line ≤ top → counters_at s at ≡ c
unfolding words_bytes
counters_read c s at e clock sample line =
    let third : at + 8 + 8 ≡ at + 16 = omega arith in
    let (a, past) = read_there s at c.clock _ e clock in
    let (b, over) = read_there s (at + 8) c.sampled_clock _ past sample in
    let (d, end) = read_there s (at + 8 + 8) c.vacuum_line _ over line in
    rw (a, b, sym third, d)

counters_written :
    (s : List ℕ) (at : ℕ) → Bytes s → length s ≡ at + 24 → counters_bytes (counters_at s at) ≡ drop at s
counters_written s at b h =
    ap words_bytes (sym (three_words s at))
    ∙ words_written 3 s at b (omega arith)
    ∙ take_all 24 (drop at s) (omega (arith, length-drop at s))

-- all pins that stand at a place, and what follows them
pins_there :
    (s : List ℕ) (at : ℕ) (pins r : List ℕ) → drop at s ≡ words_bytes pins ++ r → length pins ≡ pin_count → Words pins →
    (words_from pin_count s at 8 ≡ pins) × (drop (at + 8 * pin_count) s ≡ r)
pins_there s at pins r e size w =
    let count : length (words_bytes pins) ≡ 8 * pin_count = words_length-bytes pins ∙ ap (λ (k : ℕ). 8 * k) size in
    let there = words_past (length pins) s at 0 8 ∙ ap (λ (l : List ℕ). words_from (length pins) l 0 8) e ∙ words_read pins r w in
    let past = drop_at (words_bytes pins) r (8 * pin_count) count in
    let start : at + 0 ≡ at = omega arith in
    (rw (size, start) at there, sym (drop-drop (8 * pin_count) at s) ∙ ap (drop (8 * pin_count)) e ∙ past)

-- what is read of the image of a table is that table
pub table_of_image : (n : ℕ) (t : Table) → Expressible n t → table_of n (image_of t) ≡ t
unfolding table_of image_of
table_of_image n t x =
    let xs = t.txids in
    let ys = t.snapshot_xmins in
    let last = counters_bytes t.counters in
    let rest = words_bytes t.pins ++ last in
    let s = slots_bytes xs ys ++ rest in
    let past = drop_at (slots_bytes xs ys) rest (16 * n) (slots_length n xs ys x.txids x.xmins) in
    let (pins, over) = pins_there s (16 * n) t.pins last past x.pins x.pin in
    rw (
      txids_read n xs ys rest x.txids x.xmins x.txid,
      xmins_read n xs ys rest x.txids x.xmins x.xmin,
      pins,
      counters_read t.counters s (16 * n + 8 * pin_count) over x.clock x.sample x.line,
    )

-- and the image of what was read is the bytes that were
pub image_of_table : (n : ℕ) (s : List ℕ) → Bytes s → length s ≡ image_size n → image_of (table_of n s) ≡ s
unfolding table_of image_of
image_of_table n s b h =
    let pins = words_written pin_count s (16 * n) b (omega arith) in
    let counters = counters_written s (16 * n + 8 * pin_count) b h in
    let rest : take (8 * pin_count) (drop (16 * n) s) ++ drop (16 * n + 8 * pin_count) s ≡ drop (16 * n) s =
    ap (λ (l : List ℕ). take (8 * pin_count) (drop (16 * n) s) ++ l) (sym (drop-drop (8 * pin_count) (16 * n) s))
    ∙ take-append-drop (8 * pin_count) (drop (16 * n) s) in
    rw (slots_written n s b (omega arith), pins, counters, rest) (take-append-drop (16 * n) s)

-- the same of a list of ids, whatever its length
pub ids_of_bytes : (xs : List ℕ) → Words xs → ids_of (words_bytes xs) ≡ xs
ids_of_bytes xs w =
    let whole = words_length-bytes xs in
    let count : length (words_bytes xs) / 8 ≡ length xs = omega arith in
    rw count (rw (append-nil (words_bytes xs)) at (words_read xs [] w))

pub bytes_of_ids : (s : List ℕ) → Bytes s → length s % 8 ≡ 0 → words_bytes (ids_of s) ≡ s
bytes_of_ids s b h = words_written (count_of s) s 0 b (omega arith) ∙ take_all (8 * count_of s) s (omega arith)
