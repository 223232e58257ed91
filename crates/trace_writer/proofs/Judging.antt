-- A run of rows as a loop writes it: from row i on every row left is a record, and the whole text is theirs at the place that was reached
-- (`Left`).
use Prim.Native.Nat.{ℕ, ◌+◌, ◌≤◌, ◌<◌}
use native.Mathlib.Omega.{arith}
use mathlib.Core.Path.{◌≡◌, refl, sym, ap, ◌∙◌}
use mathlib.Core.List.{List, [], ◌∷◌}
use lib.ListN.{length, drop, get_or, length-append}
use Rattle.text.specs.Write.{spliced}
use Rattle.text.specs.Placed.{Placed}
use Rattle.text.proofs.Splice.{splice_none, splice_append}
use Rattle.trace.specs.Record.{record_text}
use Rattle.trace.specs.Version.{header_of}
use Rattle.trace.specs.Trace.{trace_text}
use Rattle.trace.specs.declared.Record.{Record}
use Rattle.trace.specs.declared.Version.{Version}
use Rattle.rows_measure.specs.Measuring.{Records, Are, BadRow, with_first, row_under, records_of, listed, records_text}
use Rattle.rows_measure.specs.Judged.{Good, Bad}
use Rattle.rows_measure.proofs.Lengths.{records_none, records-first}
use Rattle.rows_measure.proofs.Walking.{bad_run, rows_here, rows_over}
use Rattle.trace_writer.proofs.Texts.{trace_text_lem}

-- every row from i on is a record, and the whole text is what those records put at `at`
pub record Left (v : Version) (rows : List (List ℕ)) (whole buf : List ℕ) (at i : ℕ) : Type 0 where
  pub good : records_of v (drop i rows) ≡ Are (listed (records_of v (drop i rows)))
  pub room : at + length (records_text (listed (records_of v (drop i rows)))) ≤ length buf
  pub text : whole ≡ spliced buf at (records_text (listed (records_of v (drop i rows))))

module _ (v : Version) (rows : List (List ℕ)) where
  -- past the header
  pub left_start : (xs buf : List ℕ) (at : ℕ) → records_of v rows ≡ Are (listed (records_of v rows))
      → length (trace_text v (listed (records_of v rows))) ≤ length xs → Placed xs 0 (header_of v) buf at
      → Left v rows (spliced buf at (records_text (listed (records_of v rows)))) buf at 0
  left_start xs buf at g h p =
      let rs = listed (records_of v rows) in
      let size = ap length (trace_text_lem v rs) ∙ length-append (header_of v) (records_text rs) in
      record { good = g; room = omega (arith, p.size, p.end, size); text = refl }

  pub past-header : (xs buf : List ℕ) (at : ℕ) → Placed xs 0 (header_of v) buf at
      → spliced buf at (records_text (listed (records_of v rows))) ≡ spliced xs 0 (trace_text v (listed (records_of v rows)))
  past-header xs buf at p =
      let rs = listed (records_of v rows) in
      rw (p.left, p.end) (splice_append xs 0 (header_of v) (records_text rs) (omega arith) ∙ ap (spliced xs 0) (sym (trace_text_lem v rs)))

  module _ (whole : List ℕ) (buf : List ℕ) (at i : ℕ) where
    -- the row at i, where it is a record
    pub first-left : (r : Record) → i < length rows → Good r ≡ row_under v (get_or rows i []) → Left v rows whole buf at i
        → (listed (records_of v (drop i rows)) ≡ r ∷ listed (records_of v (drop (i + 1) rows)))
        × (records_of v (drop (i + 1) rows) ≡ Are (listed (records_of v (drop (i + 1) rows))))
    first-left r h e l = go (records_of v (drop (i + 1) rows)) refl
      where
        here : (x : Records) → records_of v (drop (i + 1) rows) ≡ x → records_of v (drop i rows) ≡ with_first r x
        here x q = rows_here v rows i h ∙ rw (← e, q)

        go : (x : Records) → records_of v (drop (i + 1) rows) ≡ x
            → (listed (records_of v (drop i rows)) ≡ r ∷ listed x) × (x ≡ Are (listed x))
        go BadRow q = absurd (bad_run _ (sym (here BadRow q) ∙ l.good))
        go (Are rs) q = (ap listed (here (Are rs) q), refl)

    pub record_room : (r : Record) → i < length rows → Good r ≡ row_under v (get_or rows i []) → Left v rows whole buf at i
        → at + length (record_text r) ≤ length buf
    record_room r h e l =
        let f = (first-left r h e l).0 in
        let rest = listed (records_of v (drop (i + 1) rows)) in
        let size = ap (λ (x : List Record). length (records_text x)) f ∙ ap length (records-first r rest) in
        omega (arith, l.room, size, length-append (record_text r) (records_text rest))

    pub left-next : {ys : List ℕ} {past : ℕ} (r : Record) → i < length rows → Good r ≡ row_under v (get_or rows i [])
        → Left v rows whole buf at i
        → Placed buf at (record_text r) ys past → Left v rows whole ys past (i + 1)
    left-next {ys} {past} r h e l p =
        let f = first-left r h e l in
        let rest = listed (records_of v (drop (i + 1) rows)) in
        let t = ap records_text f.0 ∙ records-first r rest in
        let both = splice_append buf at (record_text r) (records_text rest) (omega (arith, l.room)) in
        record {
          good = f.1;
          room = omega (arith, l.room, p.size, p.end, ap length t, length-append (record_text r) (records_text rest));
          text = l.text ∙ ap (spliced buf at) t ∙ sym both ∙ rw (p.left, p.end);
        }

    pub none_bad : i < length rows → Bad ≡ row_under v (get_or rows i []) → Left v rows whole buf at i → ⊥
    none_bad h e l = bad_run _ (sym (rows_here v rows i h ∙ rw (← e)) ∙ l.good)

    pub left_over : length rows ≤ i → Left v rows whole buf at i → buf ≡ whole
    left_over h l =
        let over = ap (λ (x : Records). records_text (listed x)) (rows_over v rows i h) in
        let none : records_text (listed (records_of v (drop i rows))) ≡ [] = over ∙ records_none in
        sym (l.text ∙ ap (spliced buf at) none ∙ sym (splice_none buf at))
