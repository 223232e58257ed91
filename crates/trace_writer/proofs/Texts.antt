-- The text of a run, line by line, as its lines are placed one after the other.
use Prim.Native.Nat.{ℕ, ◌+◌, ◌≤◌}
use native.Mathlib.Omega.{arith}
use mathlib.Core.Path.{◌≡◌, refl, ap, ◌∙◌}
use mathlib.Core.List.{List, [], ◌∷◌, ◌++◌, append_assoc}
use lib.ListN.{length, length-append}
use Rattle.text.specs.Bytes.{bytes}
use Rattle.text.specs.Keys.{op_key, slot_key, id_key, stamp_key, clock_key, sample_key}
use Rattle.text.specs.Decimal.{decimal, decimal_in, number_text}
use Rattle.text.specs.Line.{line_text, joined}
use Rattle.text.specs.Placed.{Placed}
use Rattle.text.proofs.Placed.{placed_then, placed_same}
use Rattle.grammar.specs.Names.{name_line}
use Rattle.grammar.specs.Items.{lines_of}
use Rattle.grammar.specs.Texts.{first_line, text_lines, whole_text}
use Rattle.trace.specs.Op.{op_name}
use Rattle.trace.specs.Version.{header_of}
use Rattle.trace.specs.Record.{record_form, any_form, record_text}
use Rattle.trace.specs.Trace.{first_record, trace_text}
use Rattle.trace.specs.declared.Op.{Op}
use Rattle.trace.specs.declared.Record.{Record}
use Rattle.trace.specs.declared.Version.{Version}
use Rattle.trace.specs.declared.Version.TheVariants.{Proc1, Proc2, Proc3}
use Rattle.trace.proofs.Shape.{header-length}
use Rattle.rows_measure.specs.Measuring.{records_text}
use Rattle.rows_measure.specs.TwoLines.{two_lines, op_and_slot_key}
use Rattle.rows_measure.proofs.Lengths.{record_lines_lem}

-- the header is the line of a key and a number
abbrev pub header_number : Version → ℕ
header_number Proc1 = 1
header_number Proc2 = 2
header_number Proc3 = 3

pub header-line : (v : Version) → line_text (bytes "trace=proc-") (header_number v) ≡ header_of v
unfolding line_text number_text decimal decimal_in name_line
header-line Proc1 = refl
header-line Proc2 = refl
header-line Proc3 = refl

-- so are the lines of an op and its slot
pub two_lines_lem : (o : Op) (n : ℕ) → line_text (op_and_slot_key o) n ≡ two_lines o n
unfolding line_text two_lines name_line
two_lines_lem o n = append_assoc (op_key ++ op_name o) slot_key (number_text n)

-- a record that has room: so has each of its lines, and together they are its text
room_after : {xs ys t : List ℕ} {at p : ℕ} (n : ℕ) → Placed xs at t ys p → at + (length t + n) ≤ length xs → p + n ≤ length ys
room_after n p h = omega (arith, p.size, p.end)

first_fits : (p a b n : ℕ) → p + (a + b) ≤ n → p + a ≤ n
first_fits p a b n h = omega arith

module _ (r : Record) (xs : List ℕ) (at : ℕ) (h : at + length (record_text r) ≤ length xs) where
  abbrev two : List ℕ
  two = two_lines r.op r.slot

  abbrev id : List ℕ
  id = line_text id_key r.id

  abbrev stamp : List ℕ
  stamp = line_text stamp_key r.stamp

  abbrev clock : List ℕ
  clock = line_text clock_key r.clock

  abbrev sample : List ℕ
  sample = line_text sample_key r.sample

  sizes : at + (length two + (length id + (length stamp + (length clock + length sample)))) ≤ length xs
  sizes =
      let e = ap length (record_lines_lem r) in
      let f = length-append (two ++ id ++ stamp ++ clock) sample in
      let g = length-append (two ++ id ++ stamp) clock in
      omega (arith, e, f, g, length-append (two ++ id) stamp, length-append two id)

  pub two_fits : at + length two ≤ length xs
  two_fits = first_fits _ _ _ _ sizes

  module _ {ys : List ℕ} {p : ℕ} (a : Placed xs at two ys p) where
    after_two : p + (length id + (length stamp + (length clock + length sample))) ≤ length ys
    after_two = room_after _ a sizes

    pub id_fits : p + length id ≤ length ys
    id_fits = first_fits _ _ _ _ after_two

    module _ {zs : List ℕ} {q : ℕ} (b : Placed ys p id zs q) where
      after-id : q + (length stamp + (length clock + length sample)) ≤ length zs
      after-id = room_after _ b after_two

      pub stamp-fits : q + length stamp ≤ length zs
      stamp-fits = first_fits _ _ _ _ after-id

      module _ {us : List ℕ} {e : ℕ} (c : Placed zs q stamp us e) where
        after-stamp : e + (length clock + length sample) ≤ length us
        after-stamp = room_after _ c after-id

        pub clock_fits : e + length clock ≤ length us
        clock_fits = first_fits _ _ _ _ after-stamp

        module _ {vs : List ℕ} {f : ℕ} (d : Placed us e clock vs f) where
          pub sample_fits : f + length sample ≤ length vs
          sample_fits = room_after _ d after-stamp

          pub record_placed : {ws : List ℕ} {g : ℕ} → Placed vs f sample ws g → Placed xs at (record_text r) ws g
          record_placed last =
              let start : at ≤ length xs = omega arith in
              let three = placed_then start a b in
              let five = placed_then start (placed_then start three c) d in
              placed_same (record_lines_lem r) (placed_then start five last)

-- the text of a whole trace
same_lines : (v : Version) (rs : List Record) → lines_of (record_form v) rs ≡ lines_of any_form rs
unfolding lines_of
same_lines v [] = refl
same_lines v (r ∷ rs) = ap (λ (ls : List (List ℕ)). any_form.lines r ++ ls) (same_lines v rs)

pub trace_text_lem : (v : Version) (rs : List Record) → trace_text v rs ≡ header_of v ++ records_text rs
unfolding whole_text text_lines first_line joined records_text
trace_text_lem v rs = ap (λ (ls : List (List ℕ)). header_of v ++ joined ls) (same_lines v rs)

pub trace_length : (v : Version) (rs : List Record) → length (trace_text v rs) ≡ first_record + length (records_text rs)
trace_length v rs =
    ap length (trace_text_lem v rs)
    ∙ length-append (header_of v) (records_text rs)
    ∙ ap (λ (n : ℕ). n + length (records_text rs)) (header-length v)

pub header-fits : (v : Version) (rs : List Record) (xs : List ℕ) → length (trace_text v rs) ≤ length xs → length (header_of v) ≤ length xs
header-fits v rs xs h = omega (arith, trace_length v rs, header-length v)
