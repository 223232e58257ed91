-- The lines under line 1 as two loops walk them: the slots that are left, then from pin k on. While the text is measured, the whole is what
-- was counted and the lines left. While it is written, the whole text is what those lines put at the place that was reached (`Left`).
use Prim.Native.Nat.{ℕ, ◌+◌, ◌≤◌, ◌<◌}
use native.Mathlib.Omega.{arith}
use native.Mathlib.Numerals.{add-one}
use mathlib.Core.Path.{◌≡◌, refl, sym, ap, ◌∙◌}
use mathlib.Core.Logic.{inl, inr}
use mathlib.Core.List.{List, [], ◌∷◌, ◌++◌, append_assoc, append-nil}
use lib.ListN.{length, drop, get_or, drop_of_length-le, length-append}
use lib.Seq.{drop-cons}
use Rattle.std.proofs.Common.{Iter, None}
use Rattle.std.specs.declared.iter.Zip.{Zip}
use Rattle.std.specs.Iterator.Adapters.{zip_first, zip_second, zip_steps}
use Rattle.std.specs.Slice.Iter.{iter_rest, iter_steps}
use Rattle.model.specs.declared.Counters.{Counters}
use Rattle.model.specs.declared.Table.{Table}
use Rattle.text.specs.Bytes.{bytes}
use Rattle.text.specs.Keys.{txid_key, xmin_key, clock_key, sample_key, line_key}
use Rattle.text.specs.Decimal.{decimal, decimal_in, number_text}
use Rattle.text.specs.Line.{line_text, line_texts, joined}
use Rattle.text.specs.Write.{spliced}
use Rattle.text.specs.Placed.{Placed}
use Rattle.text.proofs.Splice.{splice_append, line-length}
use Rattle.text.proofs.Placed.{fits-first, fits_next, both_placed}
use Rattle.table_text.specs.TableText.{header, first_slot, pin_key, pin_rules, table_rules, pin_numbers, numbers_of, lines_under, table_text}
use Rattle.table_measure.specs.Lines.{slot_lines, counter_lines, pin_lines}

-- line 1 is the line of a key and a number
pub header-line : line_text (bytes "table=proc-") 1 ≡ header
unfolding line_text number_text decimal decimal_in
header-line = refl

-- the parts by their digits
pub slot_length : (x y : ℕ) → length (slot_lines x y) ≡ 12 + length (decimal x) + length (decimal y)
unfolding slot_lines
slot_length x y = simp (length-append, line-length) (omega arith)

pub counter_length : (c : Counters)
    → length (counter_lines c)
    ≡ 21 + length (decimal c.clock) + length (decimal c.sampled_clock) + length (decimal c.vacuum_line)
unfolding counter_lines
counter_length c = simp (length-append, line-length) (omega arith)

pub table_length : (t : Table)
    → length (table_text t) ≡ first_slot + length (lines_under t.txids t.snapshot_xmins t.pins t.counters)
unfolding table_text
table_length t = length-append header (lines_under t.txids t.snapshot_xmins t.pins t.counters)

-- one more text after those that were put
next : (s t : List ℕ) {xs ys zs : List ℕ} {at p q : ℕ} → at + length (s ++ t) ≤ length xs → Placed xs at s ys p
    → (p + length t ≤ length ys → Placed ys p t zs q) → Placed xs at (s ++ t) zs q
next s t h a b = both_placed s t h a (b (fits_next s t h a))

-- the lines of a slot and of the counters, one after the other where they have room
pub slot_placed : (x y : ℕ) {xs ys zs : List ℕ} {at p q : ℕ} → at + length (slot_lines x y) ≤ length xs
    → (at + length (line_text txid_key x) ≤ length xs → Placed xs at (line_text txid_key x) ys p)
    → (p + length (line_text xmin_key y) ≤ length ys → Placed ys p (line_text xmin_key y) zs q)
    → Placed xs at (slot_lines x y) zs q
unfolding slot_lines
slot_placed x y {at = at} h a b =
    let txid = line_text txid_key x in
    let xmin = line_text xmin_key y in
    next txid xmin h (a (fits-first txid xmin at h)) b

pub counters_placed : (c : Counters) {xs ys zs us : List ℕ} {at p q r : ℕ} → at + length (counter_lines c) ≤ length xs
    → (at + length (line_text clock_key c.clock) ≤ length xs → Placed xs at (line_text clock_key c.clock) ys p)
    → (p + length (line_text sample_key c.sampled_clock) ≤ length ys → Placed ys p (line_text sample_key c.sampled_clock) zs q)
    → (q + length (line_text line_key c.vacuum_line) ≤ length zs → Placed zs q (line_text line_key c.vacuum_line) us r)
    → Placed xs at (counter_lines c) us r
unfolding counter_lines
counters_placed c {at = at} h a b d =
    let clock = line_text clock_key c.clock in
    let sample = line_text sample_key c.sampled_clock in
    let line = line_text line_key c.vacuum_line in
    let two-fit = fits-first (clock ++ sample) line at h in
    let one = a (fits-first clock sample at two-fit) in
    next (clock ++ sample) line h (next clock sample two-fit one b) d

-- a text that is walked piece by piece: the whole, put at `at` of start, is what is left of it put at `past` of buf
pub record Left (whole start : List ℕ) (at : ℕ) (buf : List ℕ) (past : ℕ) (left : List ℕ) : Type 0 where
  pub size : length buf ≡ length start
  pub text : spliced start at whole ≡ spliced buf past left
  pub end : at + length whole ≡ past + length left

pub left_start : (whole start : List ℕ) (at : ℕ) → Left whole start at start at whole
left_start whole start at = record { size = refl; text = refl; end = refl }

module _ {whole start buf left : List ℕ} {at past : ℕ} (room : at + length whole ≤ length start) (l : Left whole start at buf past left) where
  module _ (piece rest : List ℕ) (here : left ≡ piece ++ rest) where
    long : length left ≡ length piece + length rest
    long = ap length here ∙ length-append piece rest

    pub piece_room : past + length piece ≤ length buf
    piece_room = omega (arith, long, l.size, l.end)

    pub piece_put : {zs : List ℕ} {q : ℕ} → Placed buf past piece zs q → Left whole start at zs q rest
    piece_put {zs} {q} p =
        let both = splice_append buf past piece rest (omega (arith, piece_room)) in
        record {
          size = p.size ∙ l.size;
          text = l.text ∙ ap (spliced buf past) here ∙ sym both ∙ rw (p.left, p.end);
          end = omega (arith, l.end, p.end, long);
        }

  module _ (last : List ℕ) (over : left ≡ last) where
    pub last_room : past + length last ≤ length buf
    last_room = omega (arith, ap length over, l.size, l.end)

    pub last_put : {zs : List ℕ} {q : ℕ} → Placed buf past last zs q → Placed start at whole zs q
    last_put p = record {
      left = p.left ∙ ap (spliced buf past) (sym over) ∙ sym l.text;
      size = p.size ∙ l.size;
      end = omega (arith, p.end, l.end, ap length over);
    }

-- a slot and those after it, and no slot
under_first : (x y : ℕ) (xs ys pins : List ℕ) (c : Counters)
    → lines_under (x ∷ xs) (y ∷ ys) pins c ≡ slot_lines x y ++ lines_under xs ys pins c
unfolding lines_under table_rules numbers_of line_texts joined slot_lines
under_first x y xs ys pins c = sym (append_assoc (line_text txid_key x) (line_text xmin_key y) (lines_under xs ys pins c))

under_none : (pins : List ℕ) (c : Counters) → lines_under [] [] pins c ≡ pin_lines pins c
unfolding lines_under table_rules pin_rules numbers_of pin_numbers line_texts joined pin_lines counter_lines
under_none [] c = simp (append_assoc, append-nil)
under_none (x ∷ pins) c = ap (λ (l : List ℕ). line_text pin_key x ++ l) (under_none pins c)

-- the slots that a loop has before it, by the two iterators that it zips: the first of them, and none
module _ (pins : List ℕ) (c : Counters) {x y : ℕ} {xs ys us vs : List ℕ} (a : xs ≡ x ∷ us) (b : ys ≡ y ∷ vs) where
  pub slot_here : lines_under xs ys pins c ≡ slot_lines x y ++ lines_under us vs pins c
  slot_here = rw (a, b) (under_first x y us vs pins c)

  pub slot_counted : length (lines_under xs ys pins c) ≡ length (slot_lines x y) + length (lines_under us vs pins c)
  slot_counted = ap length slot_here ∙ length-append (slot_lines x y) (lines_under us vs pins c)

no_slot : (pins : List ℕ) (c : Counters) (xs ys : List ℕ) → length xs ≡ 0 → length ys ≡ 0 → lines_under xs ys pins c ≡ pin_lines pins c
no_slot pins c [] [] h k = under_none pins c
no_slot pins c [] (y ∷ ys) h k = absurd (omega arith)
no_slot pins c (x ∷ xs) ys h k = absurd (omega arith)

pub slots_over : (pins : List ℕ) (c : Counters) (s : Zip (Iter ℕ) (Iter ℕ)) → length (iter_rest (zip_second s)) ≡ length (iter_rest (zip_first s))
    → zip_steps (iter_steps {A = ℕ}) (iter_steps {A = ℕ}) s None s
    → lines_under (iter_rest (zip_first s)) (iter_rest (zip_second s)) pins c ≡ pin_lines pins c
slots_over pins c s h (inl e) = no_slot pins c _ _ (omega arith) (omega arith)
slots_over pins c s h (inr e) = no_slot pins c _ _ (omega arith) (omega arith)

-- a pin and those after it, and no pin
module _ (pins : List ℕ) (c : Counters) (k : ℕ) where
  pub pin_here : k < length pins → pin_lines (drop k pins) c ≡ line_text pin_key (get_or pins k 0) ++ pin_lines (drop (k + 1) pins) c
  unfolding pin_lines
  pin_here h = rw (add-one, drop-cons pins k 0 h)

  pub pin_counted : k < length pins
      → length (pin_lines (drop k pins) c) ≡ 5 + length (decimal (get_or pins k 0)) + length (pin_lines (drop (k + 1) pins) c)
  pin_counted h = ap length (pin_here h) ∙ simp (length-append, line-length) (omega arith)

  pub pins_over : length pins ≤ k → pin_lines (drop k pins) c ≡ counter_lines c
  unfolding pin_lines
  pins_over h = rw (drop_of_length-le pins h)

-- the whole text: line 1, and the lines under it
module _ (t : Table) (xs : List ℕ) (at : ℕ) (h : at + length (table_text t) ≤ length xs) where
  abbrev rest : List ℕ
  rest = lines_under t.txids t.snapshot_xmins t.pins t.counters

  pub header_fits : at + length header ≤ length xs
  unfolding table_text
  header_fits = fits-first header rest at h

  module _ {ys : List ℕ} {p : ℕ} (a : Placed xs at header ys p) where
    pub under_fits : p + length rest ≤ length ys
    unfolding table_text
    under_fits = fits_next header rest h a

    pub table_placed : {zs : List ℕ} {q : ℕ} → Placed ys p rest zs q → Placed xs at (table_text t) zs q
    unfolding table_text
    table_placed b = both_placed header rest h a b
