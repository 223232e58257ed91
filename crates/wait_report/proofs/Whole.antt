-- The whole report: which text it is, and that its parts put one after the other are it.
use Prim.Native.Nat.{ℕ, ◌+◌, ◌≤◌}
use native.Mathlib.Omega.{arith}
use mathlib.Core.Path.{◌≡◌, refl, sym, ap, ◌∙◌}
use mathlib.Core.List.{List, ◌++◌}
use lib.ListN.{length, length-append}
use Rattle.std.specs.Prelude.{Result, Ok, Err}
use Rattle.kinds.specs.declared.told.Told.{Told}
use Rattle.kinds.specs.declared.refusal.Refusal.TheVariants.{BadTrace}
use Rattle.kinds.specs.Refusals.{told}
use Rattle.kinds.specs.Verdicts.{tells}
use Rattle.model.specs.declared.Table.{Table}
use Rattle.text.specs.Put.{Put}
use Rattle.text.specs.Write.{put_at, written}
use Rattle.text.specs.Placed.{Placed}
use Rattle.text.proofs.Splice.{room, splice_length}
use Rattle.text.proofs.Placed.{fits_next, both_placed, placed_put}
use Rattle.table_text.specs.TableText.{table_text, table_of}
use Rattle.wait.specs.Waits.{wait_of}
use Rattle.wait_rules.specs.Owner.{Owner}
use Rattle.wait.specs.declared.WaitAnswer.{WaitAnswer}
use Rattle.wait_report.specs.Report.{verdict_lines, answer_text, on_table, report_of}

-- what putting a text answers and leaves
abbrev pub Puts : List ℕ → List ℕ → List ℕ → Put → Type 0
Puts xs t ys put = (put ≡ put_at xs 0 t) × (ys ≡ written xs 0 t)

puts_same : (xs : List ℕ) {t u ys : List ℕ} {put : Put} → t ≡ u → Puts xs t ys put → Puts xs u ys put
puts_same xs e p = rw (← e) p

-- a text that is put after another
put-after : (t u : List ℕ) {xs ys zs : List ℕ} {p : ℕ} {put : Put} → 0 + length (t ++ u) ≤ length xs → Placed xs 0 t ys p
    → put ≡ put_at ys p u → zs ≡ written ys p u → Puts xs (t ++ u) zs put
put-after t u {xs} {ys} {zs} {p} h a q w =
    let fits = fits_next t u h a in
    let r = room ys p u fits in
    let left = w ∙ sym r.1 in
    let b : Placed ys p u zs (p + length u) = record { left = left; size = ap length left ∙ splice_length ys p u fits; end = refl } in
    let both = placed_put h (both_placed t u h a b) in
    (q ∙ sym r.0 ∙ both.0, both.1)

-- the five lines and the table
answer-length : (a : WaitAnswer)
    → length (answer_text a) ≡ length (verdict_lines (tells a.verdict)) + length (table_text a.table)
unfolding answer_text
answer-length a = length-append (verdict_lines (tells a.verdict)) (table_text a.table)

-- its length, where t is what the verdict tells, m measures its lines, and k the table
pub answer_size : (a : WaitAnswer) {t : Told} {m k : ℕ} → t ≡ tells a.verdict → m ≡ length (verdict_lines t)
    → k ≡ length (table_text a.table) → length (answer_text a) ≡ m + k
answer_size a e five rest = omega (arith, answer-length a, five, rest, ap (λ (x : Told). length (verdict_lines x)) e)

-- .. of which the lines alone are no more
pub lines_short : (a : WaitAnswer) {t : Told} {m : ℕ} → t ≡ tells a.verdict → m ≡ length (verdict_lines t)
    → m ≤ length (answer_text a)
lines_short a e five = omega (arith, answer_size a e five refl)

pub answer-put : (a : WaitAnswer) {t : Told} {xs ys zs : List ℕ} {p : ℕ} {put : Put} → t ≡ tells a.verdict
    → 0 + length (answer_text a) ≤ length xs → Placed xs 0 (verdict_lines t) ys p
    → put ≡ put_at ys p (table_text a.table) → zs ≡ written ys p (table_text a.table) → Puts xs (answer_text a) zs put
unfolding answer_text
answer-put a e h f q w = put-after (verdict_lines (tells a.verdict)) (table_text a.table) h (rw (← e) f) q w

-- a table's text that breaks a rule, and one that doesn't
module _ (n : ℕ) (table : List ℕ) (owner : Owner) (wait xs : List ℕ) {ys : List ℕ} {put : Put} where
  pub report_broken : {t : Told} (line : ℕ) → table_of n table ≡ Err line → t ≡ told (BadTrace line)
      → Puts xs (verdict_lines t) ys put → Puts xs (report_of n table owner wait) ys put
  unfolding report_of on_table
  report_broken line e q p = puts_same xs (rw (e, q)) p

  pub report-whole : {a : WaitAnswer} (t : Table) → table_of n table ≡ Ok t → a ≡ wait_of n t owner wait
      → Puts xs (answer_text a) ys put → Puts xs (report_of n table owner wait) ys put
  unfolding report_of on_table
  report-whole t e q p = puts_same xs (rw (e, q)) p
