-- Where a run starts at a record of a trace, or at its end, the run from that place on is the part of the records that are left.
use Prim.Native.Nat.{ℕ, ◌+◌}
use mathlib.Core.Path.{◌≡◌, refl, sym, ap, ◌∙◌}
use mathlib.Core.Bool.{Bool, true, false}
use mathlib.Core.List.{List, ◌++◌}
use native.Mathlib.Omega.{arith}
use lib.ListN.{length}
use Rattle.grammar.specs.Items as items
use Rattle.grammar.proofs.Walk.{along, look, At, ended, broke, went, Past, next_item, none_left, no_items}
use Rattle.model.specs.declared.Table.{Table}
use Rattle.model.specs.Calls.{after, shown}
use Rattle.text.specs.Write.{spliced}
use Rattle.trace.specs.declared.Record.{Record}
use Rattle.trace.specs.RecordAt.{Is}
use Rattle.trace.specs.declared.Version.{Version}
use Rattle.trace.specs.Record.{any_form, record_at}
use Rattle.trace.specs.Trace.{records_from, Boundary}
use Rattle.trace.proofs.Shape.{any_facts}
use Rattle.output.specs.Output.{printed, fits}
use Rattle.step.specs.Named.{call_of}
use Rattle.replay_part.specs.declared.Progress.{Progress}
use Rattle.replay_part.specs.Course.{course_of, progress_of}
use Rattle.replay_part.specs.Part.{part_of, PartFits}
use Rattle.replay_part.proofs.Courses.{course_over, course_full, course_next}
use Rattle.replay_part.proofs.Running.{inside_of}

said : (s : List ℕ) (at : ℕ) {r : Record} {e : ℕ} → any_form.at s at ≡ items.Is r e → record_at s at ≡ Is r e
unfolding record_at
said s at p = rw p

module _ (v : Version) (n size : ℕ) (s : List ℕ) where
  record Same (at filled : ℕ) (t : Table) : Type 0 where
    text : (course_of v n size s at filled t).text ≡ (part_of v n size filled t (records_from s at)).text
    table : (course_of v n size s at filled t).table ≡ (part_of v n size filled t (records_from s at)).table
    left : records_from s (course_of v n size s at filled t).at ≡ (part_of v n size filled t (records_from s at)).left
    boundary : Boundary s (course_of v n size s at filled t).at

  Alike : ℕ → Type 0
  Alike at = (filled : ℕ) (t : Table) → Boundary s at → Same at filled t

  same : (at : ℕ) → Alike at
  unfolding Alike part_of
  same = along any_form any_facts s Alike (λ at ih filled t h. go at ih filled t h (look any_form any_facts s at 0))
    where
      go : (at : ℕ) → Past any_form any_facts s Alike at → (filled : ℕ) (t : Table) → Boundary s at → At any_form any_facts s at 0 → Same at filled t
      go at ih filled t h (ended p q) =
          let none = none_left any_form any_facts s at p in
          let c = course_over v n size s at filled t p in
          record { text = rw (c, none); table = rw (c, none); left = rw (c, none); boundary = rw c h }
      go at ih filled t h (broke k p q) = absurd (no_items (0 + k) (records_from s at) (sym q ∙ h))
      go at ih filled t h (went r e p q) = step (fits v n size filled (shown n t (call_of r)).count) refl
        where
          step : (b : Bool) → fits v n size filled (shown n t (call_of r)).count ≡ b → Same at filled t
          step false short =
              let m = next_item any_form any_facts s at r e h p in
              let c = course_full v n size s at filled t r e (said s at p) short in
              record { text = rw (c, m.first, short); table = rw (c, m.first, short); left = rw (c, m.first, short); boundary = rw c h }
          step true ok =
              let m = next_item any_form any_facts s at r e h p in
              let out = printed v n t (call_of r) in
              let c = course_next v n size s at filled t r e (said s at p) ok in
              let i = ih r e p (filled + length out) (after n t (call_of r)) m.again in
              record {
                text = rw (c, m.first, ok) (ap (λ (u : List ℕ). out ++ u) i.text);
                table = rw (c, m.first, ok) i.table;
                left = rw (c, m.first, ok) i.left;
                boundary = rw c i.boundary;
              }

-- what a part leaves, where the run started at a record
pub part_fits :
    {v : Version} {n : ℕ} {s : List ℕ} {from : ℕ} {t : Table} {xs ys : List ℕ} {r : Progress} →
    (r ≡ progress_of (course_of v n (length xs) s from 0 t)) × (ys ≡ spliced xs 0 (course_of v n (length xs) s from 0 t).text) →
    length ys ≡ length xs → Boundary s from → PartFits v n s from t xs ys r
unfolding Alike
part_fits {v} {n} {s} {from} {t} {xs} {ys} {r} f k h =
    let course = course_of v n (length xs) s from 0 t in
    let i = same v n (length xs) s from 0 t h in
    let fit = inside_of xs 0 course.text (omega arith) (ap length (sym f.1) ∙ k) in
    record {
      text = f.1 ∙ ap (λ (u : List ℕ). spliced xs 0 u) i.text;
      filled = ap (λ (p : Progress). p.filled) f.0 ∙ ap length i.text;
      table = ap (λ (p : Progress). p.table) f.0 ∙ i.table;
      left = rw f.0 i.left;
      boundary = rw f.0 i.boundary;
      inside = omega (arith, ap (λ (p : Progress). p.filled) f.0, fit);
    }
