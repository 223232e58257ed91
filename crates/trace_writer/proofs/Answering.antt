-- What is answered and what is left, by what was measured.
use Prim.Native.Nat.{ℕ, ◌+◌, ◌≤◌, ◌<◌, min}
use native.Mathlib.Omega.{arith}
use mathlib.Core.Path.{◌≡◌, refl, sym, ap, ◌∙◌}
use mathlib.Core.Bool.{Bool, true, false}
use mathlib.Core.List.{List}
use lib.ListN.{length}
use lib.Dec.{leb}
use borrow.Author.Tests.{le-leb, lt-leb, leb-true}
use Rattle.std.specs.Prelude.{Ok, Err, Some, None}
use Rattle.std.specs.Option.{ok_or}
use Rattle.kinds.specs.declared.refusal.Refusal.{Refusal}
use Rattle.kinds.specs.declared.refusal.Refusal.TheVariants as refusal
use Rattle.text.specs.Write.{spliced}
use Rattle.trace.specs.Trace.{first_record, longest, trace_text}
use Rattle.trace.specs.declared.Version.{Version}
use Rattle.rows_measure.specs.Measuring.{Records, Are, BadRow, records_of, listed, records_text, too_long, sized, measured}
use Rattle.trace_writer.specs.Writing.{has_room, wrote_of, left_of}
use Rattle.trace_writer.specs.Wrote as wrote
use Rattle.rows_measure.specs.Measured.{Measured}
use Rattle.rows_measure.specs.Measured as measure
use Rattle.trace_writer.proofs.Texts.{trace_length}

-- what was measured, with a refusal in the place of none
pub measured_none : (m : Measured) {r : Refusal} → ok_or m refusal.BadRecord ≡ Err r → (m ≡ measure.BadRow) × (r ≡ refusal.BadRecord)
measured_none None {r} e = let same : r ≡ refusal.BadRecord = cc in (refl, same)
measured_none (Some n) e = absurd (let z : ◌≡◌ {A = ℕ} 0 1 = cc in omega arith)

pub measured_some : (m : Measured) {n : ℕ} → ok_or m refusal.BadRecord ≡ Ok n → m ≡ measure.Length n
measured_some (Some k) {n} e = let same : k ≡ n = cc in ap measure.Length same
measured_some None e = absurd (let z : ◌≡◌ {A = ℕ} 0 1 = cc in omega arith)

module _ (v : Version) (rows : List (List ℕ)) where
  -- a bad row was found
  pub measured_bad : measured v rows ≡ measure.BadRow → records_of v rows ≡ BadRow
  unfolding measured
  measured_bad = go (records_of v rows)
    where
      go : (x : Records) → sized first_record x ≡ measure.BadRow → x ≡ BadRow
      go BadRow h = refl
      go (Are rs) h = absurd (let z : ◌≡◌ {A = ℕ} 0 1 = cc in omega arith)

  -- or every row is a record, and n is the text's length, held
  pub record Known (n : ℕ) : Type 0 where
    pub good : records_of v rows ≡ Are (listed (records_of v rows))
    pub size : n ≡ min (length (trace_text v (listed (records_of v rows)))) too_long

  pub measured-good : (n : ℕ) → measured v rows ≡ measure.Length n → Known n
  unfolding measured
  measured-good n h = go (records_of v rows) refl h
    where
      go : (x : Records) → records_of v rows ≡ x → sized first_record x ≡ measure.Length n → Known n
      go BadRow q e = absurd (let z : ◌≡◌ {A = ℕ} 0 1 = cc in omega arith)
      go (Are rs) q e =
          let held : min (first_record + length (records_text rs)) too_long ≡ n = cc in
          record { good = q ∙ ap Are (sym (ap listed q)); size = rw (q, trace_length v rs) (sym held) }

  module _ (xs : List ℕ) where
    pub refused_bad : measured v rows ≡ measure.BadRow
        → (wrote.Refused refusal.BadRecord ≡ wrote_of v rows (length xs)) × (xs ≡ left_of v rows xs)
    unfolding wrote_of left_of
    refused_bad h = (rw (measured_bad h), rw (measured_bad h))

    pub refused_room : (n : ℕ) → measured v rows ≡ measure.Length n → min longest (length xs) < n
        → (wrote.Refused refusal.NoRoom ≡ wrote_of v rows (length xs)) × (xs ≡ left_of v rows xs)
    unfolding wrote_of left_of
    refused_room n h l =
        let k = measured-good n h in
        let over = no_room (length (trace_text v (listed (records_of v rows)))) (omega (arith, k.size)) in
        (rw (k.good, over), rw (k.good, over))
      where
        no_room : (size : ℕ) → min longest (length xs) < size → has_room size (length xs) ≡ false
        no_room size l = go (leb size longest) refl
          where
            go : (b : Bool) → leb size longest ≡ b → has_room size (length xs) ≡ false
            go false e = rw e
            go true e = let p = leb-true size longest e in rw (e, lt-leb size (length xs) (omega arith))

    -- there is room: the writer has what it requires, and what it leaves is what is promised
    pub room_written : (n : ℕ) → measured v rows ≡ measure.Length n → n ≤ longest → n ≤ length xs
        → (records_of v rows ≡ Are (listed (records_of v rows))) × (length (trace_text v (listed (records_of v rows))) ≤ length xs)
    room_written n h l s =
        let k = measured-good n h in
        (k.good, omega (arith, k.size))

    pub written-whole : (n : ℕ) → measured v rows ≡ measure.Length n → n ≤ longest → n ≤ length xs → {ys : List ℕ}
        → ys ≡ spliced xs 0 (trace_text v (listed (records_of v rows)))
        → (wrote.Length n ≡ wrote_of v rows (length xs)) × (ys ≡ left_of v rows xs)
    unfolding wrote_of left_of
    written-whole n h l s e =
        let k = measured-good n h in
        let size = length (trace_text v (listed (records_of v rows))) in
        let same : n ≡ size = omega (arith, k.size) in
        let inside = le-leb size longest (omega (arith, k.size)) in
        let fits = le-leb size (length xs) (omega (arith, k.size)) in
        (rw (k.good, inside, fits) (ap wrote.Length same), e ∙ rw (k.good, inside, fits))
