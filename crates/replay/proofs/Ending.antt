-- What a run ends with: the line of its number, and the second engine's line after it where the header has one. Lines that are put one
-- after the other are one text (crate output, proofs/Wrote).
use Prim.Native.Nat.{ℕ, ◌+◌, ◌≤◌, ◌<◌, ◌^◌}
use mathlib.Core.Path.{◌≡◌, sym, ◌∙◌}
use mathlib.Core.Logic.{◌⊎◌, inl, inr}
use mathlib.Core.List.{List, ◌++◌, append-nil}
use native.Mathlib.Nat.{zero-add}
use native.Mathlib.Omega.{arith}
use lib.ListN.{length, length-append}
use Rattle.text.specs.Keys.{records_key}
use Rattle.text.specs.Line.{line_text}
use Rattle.text.specs.Write.{spliced}
use Rattle.text.proofs.Decimal.{length-word}
use Rattle.text.proofs.Splice.{line-length, splice_append}
use Rattle.trace.specs.declared.Version.{Version}
use Rattle.trace.specs.declared.Version.TheVariants.{Proc1, Proc2, Proc3}
use Rattle.output.specs.Wrote.{Wrote}
use Rattle.replay_text.specs.Replay.{agree_key, agree_line, last_text}

-- the second line has room behind the first
pub room_behind :
    (count : ℕ) {at a b : ℕ} → count < 2 ^ 64 → 56 ≤ a → b ≡ a → at ≡ length (line_text records_key count) → at + 27 ≤ b
room_behind count small size same k = omega (arith, line-length records_key count, length-word count small)

pub record Ends (v : Version) (count : ℕ) (xs ys : List ℕ) (end : ℕ) : Type 0 where
  pub size : end ≡ length (last_text v count)
  pub text : ys ≡ spliced xs 0 (last_text v count)

module _
    (count : ℕ) (xs : List ℕ) {ys : List ℕ} {at : ℕ} (k : at ≡ length (line_text records_key count))
    (p : ys ≡ spliced xs 0 (line_text records_key count))
  where
    pub ends_plain : Ends Proc1 count xs ys at
    unfolding last_text agree_line
    ends_plain = let none = append-nil (line_text records_key count) in record { size = k ∙ rw none; text = p ∙ rw none }

    module _ {zs : List ℕ} {end most : ℕ} (w : Wrote ys at (line_text agree_key 1) zs end most) where
      both-size : end ≡ length (line_text records_key count ++ line_text agree_key 1)
      both-size = omega (arith, w.end, k, length-append (line_text records_key count) (line_text agree_key 1))

      both-text : zs ≡ spliced xs 0 (line_text records_key count ++ line_text agree_key 1)
      both-text =
          let first = line_text records_key count in
          let one = rw (zero-add (length first)) at (splice_append xs 0 first (line_text agree_key 1) (omega arith)) in
          w.left ∙ rw (p, k) one

      pub ends_agreed : (v : Version) → (v ≡ Proc2) ⊎ (v ≡ Proc3) → Ends v count xs zs end
      unfolding last_text agree_line
      ends_agreed v (inl e) = rw e record { size = both-size; text = both-text }
      ends_agreed v (inr e) = rw e record { size = both-size; text = both-text }
