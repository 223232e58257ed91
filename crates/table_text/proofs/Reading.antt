-- A text as the loops read it, line after line: the whole is what the lines left make, with the numbers that were read in front.
use Prim.Native.Nat.{ℕ, zero, suc, ◌+◌, ◌-◌, ◌*◌, ◌≤◌, ◌<◌}
use native.Mathlib.Omega.{arith}
use native.Mathlib.Numerals.{add-one}
use mathlib.Core.Path.{◌≡◌, refl, sym, ap, ◌∙◌}
use mathlib.Core.Bool.{Bool, true, false, cond}
use mathlib.Core.List.{List, [], ◌∷◌, ◌++◌, append-nil, append_assoc}
use lib.Dec.{eqb}
use lib.ListN.{length, take, set, replicate, length-set, length-replicate}
use lib.Seq.{append_snoc, take_all, take-suc-set, length-take-le}
use borrow.Author.Tests.{eq-eqb, ne_eqb}
use Rattle.std.specs.Prelude.{Option, Some, None, Ok, Err}
use Rattle.std.specs.Result.{IsErrAnd}
use Rattle.std.specs.Option.{ok_or}
use Rattle.kinds.specs.Kinds.{pin_count, free_pins}
use Rattle.model.specs.declared.Counters.{Counters}
use Rattle.model.specs.Tables.{counted, lent}
use Rattle.text.specs.Number.{Number, Is, Bad}
use Rattle.text.specs.Bytes.{starts}
use Rattle.text.specs.Keys.{txid_key, xmin_key, clock_key, sample_key, line_key}
use Rattle.text.specs.FiveLines.{most}
use Rattle.text.specs.Line.{Rule, Lines, Read, Breaks, with_first, field_at, lines_at}
use Rattle.table_text.specs.TableText.{TableRead, header, first_slot, pin_key, any_number, pin_rules, table_rules, counters_of, pin_numbers, numbers_of}
use Rattle.table_text.specs.TableText.{table_from, broken_at, whole, past_last, lines_read, table_of}
use Rattle.table_text.proofs.Laws.{from-numbers}

-- a line as it is read: its number, or its own number where it breaks its rule
pub line_is : (f : Number) (line : ℕ) {x past : ℕ} → Ok (x, past) ≡ ok_or f line → f ≡ Is x past
line_is (Is y end) line e = cc
line_is Bad line e = absurd cc

pub line_breaks : (f : Number) (line : ℕ) {e : ℕ} → Err e ≡ ok_or f line → (f ≡ Bad) × (e ≡ line)
line_breaks (Is y end) line e = absurd cc
line_breaks Bad line e = (refl, cc)

-- .. and what its exit answers
pub exits : (r : TableRead) (f : Number) (line e : ℕ) {all : TableRead} → IsErrAnd r (λ y. y ≡ e) → Err e ≡ ok_or f line → (f ≡ Bad → Err line ≡ all) → r ≡ all
exits (Ok t) f line e p q next = absurd p
exits (Err y) f line e p q next =
    let (breaks, at) = line_breaks f line q in
    ap Err (p ∙ at) ∙ next breaks

-- the same of line 1
abbrev pub past_header : List ℕ → Option ℕ
past_header s = cond (starts header s) (Some first_slot) None

pub header_is : (s : List ℕ) (line : ℕ) {at : ℕ} → Ok at ≡ ok_or (past_header s) line → (starts header s ≡ true) × (at ≡ first_slot)
header_is s line {at} = go (starts header s)
  where
    go : (b : Bool) → Ok at ≡ ok_or (cond b (Some first_slot) None) line → (b ≡ true) × (at ≡ first_slot)
    go true e = (refl, cc)
    go false e = absurd cc

-- the numbers of slots
unfoldable pub slot_numbers : List ℕ → List ℕ → List ℕ
slot_numbers [] ys = []
slot_numbers (x ∷ xs) [] = []
slot_numbers (x ∷ xs) (y ∷ ys) = x ∷ y ∷ slot_numbers xs ys

slot_numbers_more : (xs ys : List ℕ) (x y : ℕ) → length xs ≡ length ys → slot_numbers (xs ++ x ∷ []) (ys ++ y ∷ []) ≡ slot_numbers xs ys ++ x ∷ y ∷ []
unfolding slot_numbers
slot_numbers_more [] [] x y h = refl
slot_numbers_more [] (_ ∷ _) x y h = absurd (omega arith)
slot_numbers_more (_ ∷ _) [] x y h = absurd (omega arith)
slot_numbers_more (a ∷ xs) (b ∷ ys) x y h = ap (λ l. a ∷ b ∷ l) (slot_numbers_more xs ys x y (omega arith))

pin_numbers_are : (pins : List ℕ) (c : Counters) → pin_numbers pins c ≡ pins ++ counters_of c
unfolding pin_numbers
pin_numbers_are [] c = refl
pin_numbers_are (x ∷ pins) c = ap (λ l. x ∷ l) (pin_numbers_are pins c)

numbers_are : (xs ys pins : List ℕ) (c : Counters) → length xs ≡ length ys → numbers_of xs ys pins c ≡ slot_numbers xs ys ++ (pins ++ counters_of c)
unfolding numbers_of slot_numbers
numbers_are [] [] pins c h = pin_numbers_are pins c
numbers_are [] (_ ∷ _) pins c h = absurd (omega arith)
numbers_are (_ ∷ _) [] pins c h = absurd (omega arith)
numbers_are (x ∷ xs) (y ∷ ys) pins c h = ap (λ l. x ∷ y ∷ l) (numbers_are xs ys pins c (omega arith))

module _ (n : ℕ) (s : List ℕ) where
  -- what the lines left make
  pub made : List ℕ → Lines → TableRead
  made front (Read ns e) = cond (eqb e (length s)) (whole (table_from n (front ++ ns))) (broken_at n (past_last n))
  made front (Breaks k) = broken_at n k

  abbrev pub left : List ℕ → ℕ → ℕ → List Rule → TableRead
  left front at line rules = made front (lines_at s at line rules)

  module _ (front : List ℕ) (at line : ℕ) (r : Rule) (rs : List Rule) where
    left_broken : field_at s at r.key r.most ≡ Bad → left front at line (r ∷ rs) ≡ broken_at n line
    unfolding lines_at made
    left_broken e = rw e

    left_next : {x past : ℕ} → field_at s at r.key r.most ≡ Is x past → left front at line (r ∷ rs) ≡ left (front ++ x ∷ []) past (line + 1) rs
    unfolding lines_at made
    left_next {x} {past} e = rw e (go (lines_at s past (line + 1) rs))
      where
        go : (l : Lines) → made front (with_first x l) ≡ made (front ++ x ∷ []) l
        go (Read ns e) = rw (append_snoc front x)
        go (Breaks k) = refl

  one_more : (xs : List ℕ) (i x : ℕ) → i < length xs → take (i + 1) (set xs i x) ≡ take i xs ++ x ∷ []
  one_more xs i x h = rw add-one (take-suc-set xs i x h)

  -- the slots before i were read
  pub record Slots (txids xmins : List ℕ) (at i : ℕ) : Type 0 where
    pub txid_places : length txids ≡ n
    pub xmin_places : length xmins ≡ n
    pub rest : table_of n s ≡ left (slot_numbers (take i txids) (take i xmins)) at (2 * i + 2) (table_rules (n - i) pin_count)

  pub no_header : {e : ℕ} → Err e ≡ ok_or (past_header s) 1 → broken_at n e ≡ table_of n s
  unfolding table_of
  no_header {e} = go (starts header s)
    where
      go : (b : Bool) → Err e ≡ ok_or (cond b (Some first_slot) None) 1
          → broken_at n e ≡ cond b (lines_read n s (lines_at s first_slot 2 (table_rules n pin_count))) (broken_at n 1)
      go true e = absurd cc
      go false e = cc

  pub slots_start : {txids xmins : List ℕ} → starts header s ≡ true → txids ≡ replicate n 0 → xmins ≡ replicate n 0 → Slots txids xmins first_slot 0
  unfolding table_of slot_numbers made
  slots_start h a b =
      let all : n - 0 ≡ n = omega arith in
      record { txid_places = ap length a ∙ length-replicate n zero; xmin_places = ap length b ∙ length-replicate n zero; rest = rw (h, all) (go (lines_at s first_slot 2 (table_rules n pin_count))) }
    where
      go : (l : Lines) → lines_read n s l ≡ made [] l
      go (Read ns e) = refl
      go (Breaks k) = refl

  module _ {txids xmins : List ℕ} {at i : ℕ} (l : Slots txids xmins at i) (h : i < n) where
    slot_left : n - i ≡ suc (n - (i + 1))
    slot_left = omega (arith, h)

    abbrev before : List ℕ
    before = slot_numbers (take i txids) (take i xmins)

    abbrev after : List Rule
    after = table_rules (n - (i + 1)) pin_count

    slot_here : table_of n s ≡ left before at (2 * i + 2) (any_number txid_key ∷ any_number xmin_key ∷ after)
    unfolding table_rules
    slot_here = l.rest ∙ ap (λ m. left before at (2 * i + 2) (table_rules m pin_count)) slot_left

    pub no_txid : field_at s at txid_key most ≡ Bad → broken_at n (2 * i + 2) ≡ table_of n s
    no_txid e = sym (slot_here ∙ left_broken before at (2 * i + 2) _ _ e)

    module _ {x a : ℕ} (p : field_at s at txid_key most ≡ Is x a) where
      xmin_here : table_of n s ≡ left (before ++ x ∷ []) a (2 * i + 2 + 1) (any_number xmin_key ∷ after)
      xmin_here = slot_here ∙ left_next before at (2 * i + 2) _ _ p

      pub no_xmin : field_at s a xmin_key most ≡ Bad → broken_at n (2 * i + 3) ≡ table_of n s
      no_xmin e =
          let line : 2 * i + 3 ≡ 2 * i + 2 + 1 = omega arith in
          rw line (sym (xmin_here ∙ left_broken (before ++ x ∷ []) a (2 * i + 2 + 1) _ _ e))

      pub slots_next : {y b : ℕ} → field_at s a xmin_key most ≡ Is y b → Slots (set txids i x) (set xmins i y) b (i + 1)
      slots_next {y} {b} q =
          let line : 2 * i + 2 + 1 + 1 ≡ 2 * (i + 1) + 2 = omega arith in
          let xs = one_more txids i x (omega (arith, l.txid_places)) in
          let ys = one_more xmins i y (omega (arith, l.xmin_places)) in
          let many = length-take-le i txids (omega (arith, l.txid_places)) ∙ sym (length-take-le i xmins (omega (arith, l.xmin_places))) in
          record {
            txid_places = length-set txids i x ∙ l.txid_places;
            xmin_places = length-set xmins i y ∙ l.xmin_places;
            rest = xmin_here ∙ left_next (before ++ x ∷ []) a (2 * i + 2 + 1) _ _ q ∙ rw (line, append_snoc before x, xs, ys, slot_numbers_more (take i txids) (take i xmins) x y many);
          }

  -- the slots, and the pins before k
  pub record Pins (xs ys pins : List ℕ) (at k : ℕ) : Type 0 where
    pub txid_places : length xs ≡ n
    pub xmin_places : length ys ≡ n
    pub pin_places : length pins ≡ pin_count
    pub rest : table_of n s ≡ left (slot_numbers xs ys ++ take k pins) at (2 * n + 2 + k) (pin_rules (pin_count - k))

  pub pins_start : {xs ys pins : List ℕ} {at i : ℕ} → Slots xs ys at i → n ≤ i → i ≤ n → pins ≡ free_pins → Pins xs ys pins at 0
  unfolding table_rules free_pins
  pins_start {xs} {ys} {at = at} {i = i} l h b p =
      let none : n - i ≡ 0 = omega (arith, h) in
      let line : 2 * i + 2 ≡ 2 * n + 2 + 0 = omega (arith, h, b) in
      let all_txids = take_all i xs (omega (arith, h, l.txid_places)) in
      let all_xmins = take_all i ys (omega (arith, h, l.xmin_places)) in
      record {
        txid_places = l.txid_places;
        xmin_places = l.xmin_places;
        pin_places = ap length p ∙ length-replicate pin_count zero;
        rest = l.rest ∙ rw (all_txids, all_xmins, none, line, append-nil);
      }

  module _ {xs ys pins : List ℕ} {at k : ℕ} (l : Pins xs ys pins at k) where
    module _ (h : k < pin_count) where
      pin_left : pin_count - k ≡ suc (pin_count - (k + 1))
      pin_left = omega (arith, h)

      pin_here : table_of n s ≡ left (slot_numbers xs ys ++ take k pins) at (2 * n + 2 + k) (any_number pin_key ∷ pin_rules (pin_count - (k + 1)))
      unfolding pin_rules
      pin_here = l.rest ∙ ap (λ m. left (slot_numbers xs ys ++ take k pins) at (2 * n + 2 + k) (pin_rules m)) pin_left

      pub no_pin : field_at s at pin_key most ≡ Bad → broken_at n (2 * n + 2 + k) ≡ table_of n s
      no_pin e = sym (pin_here ∙ left_broken _ at (2 * n + 2 + k) _ _ e)

      pub pins_next : {x b : ℕ} → field_at s at pin_key most ≡ Is x b → Pins xs ys (set pins k x) b (k + 1)
      pins_next {x} {b} p =
          let line : 2 * n + 2 + k + 1 ≡ 2 * n + 2 + (k + 1) = omega arith in
          let one = one_more pins k x (omega (arith, l.pin_places)) in
          record {
            txid_places = l.txid_places;
            xmin_places = l.xmin_places;
            pin_places = length-set pins k x ∙ l.pin_places;
            rest = pin_here ∙ left_next _ at (2 * n + 2 + k) _ _ p ∙ rw (line, one, append_assoc);
          }

    -- all pins were read
    module _ (h : pin_count ≤ k) (b : k ≤ pin_count) where
      abbrev read : List ℕ
      read = slot_numbers xs ys ++ pins

      abbrev line : ℕ
      line = 2 * n + 2 + pin_count

      clock_here : table_of n s ≡ left read at line (any_number clock_key ∷ any_number sample_key ∷ any_number line_key ∷ [])
      unfolding pin_rules
      clock_here =
          let same : k ≡ pin_count = omega (arith, h, b) in
          let none : pin_count - k ≡ 0 = omega (arith, h) in
          let all_pins = take_all k pins (omega (arith, h, l.pin_places)) in
          l.rest ∙ rw (all_pins, none, same)

      pub no_clock : field_at s at clock_key most ≡ Bad → broken_at n line ≡ table_of n s
      no_clock e = sym (clock_here ∙ left_broken read at line _ _ e)

      module _ {x a : ℕ} (p : field_at s at clock_key most ≡ Is x a) where
        sample_here : table_of n s ≡ left (read ++ x ∷ []) a (line + 1) (any_number sample_key ∷ any_number line_key ∷ [])
        sample_here = clock_here ∙ left_next read at line _ _ p

        pub no_sample : field_at s a sample_key most ≡ Bad → broken_at n (line + 1) ≡ table_of n s
        no_sample e = sym (sample_here ∙ left_broken _ a (line + 1) _ _ e)

        module _ {y c : ℕ} (q : field_at s a sample_key most ≡ Is y c) where
          line_here : table_of n s ≡ left (read ++ x ∷ [] ++ y ∷ []) c (line + 1 + 1) (any_number line_key ∷ [])
          line_here = sample_here ∙ left_next _ a (line + 1) _ _ q

          pub no_line : field_at s c line_key most ≡ Bad → broken_at n (line + 2) ≡ table_of n s
          no_line e = let third : line + 2 ≡ line + 1 + 1 = omega arith in rw third (sym (line_here ∙ left_broken _ c (line + 1 + 1) _ _ e))

          module _ {z e : ℕ} (r : field_at s c line_key most ≡ Is z e) where
            end_here : table_of n s ≡ cond (eqb e (length s)) (whole (lent xs ys pins (counted x y z))) (broken_at n (past_last n))
            unfolding lines_at made
            end_here =
                let numbers = numbers_are xs ys pins (counted x y z) (l.txid_places ∙ sym l.xmin_places) in
                let all : read ++ x ∷ [] ++ y ∷ [] ++ z ∷ [] ++ [] ≡ numbers_of xs ys pins (counted x y z) = rw numbers (simp (append-nil, append_assoc)) in
                line_here
                ∙ left_next (read ++ x ∷ [] ++ y ∷ []) c (line + 1 + 1) (any_number line_key) [] r
                ∙ rw (all, from-numbers n xs ys pins (counted x y z) l.txid_places l.xmin_places l.pin_places)

            pub more_stands : (e ≡ length s → ⊥) → broken_at n (line + 3) ≡ table_of n s
            more_stands h = sym (end_here ∙ rw (ne_eqb e (length s) h) (ap (broken_at n) (omega arith)))

            pub all_read : e ≡ length s → whole (lent xs ys pins (counted x y z)) ≡ table_of n s
            all_read h = sym (end_here ∙ rw (eq-eqb e (length s) h))
