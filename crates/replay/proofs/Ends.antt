-- The two lines of refusal 9, and the last line of a replay: what was put is what specs/Into.antt says. A line put where it has room,
-- and two lines that are one text, are of crate output (proofs/Wrote).
use Prim.Native.Nat.{ℕ, ◌+◌, ◌≤◌, ◌<◌, ◌^◌}
use mathlib.Core.Path.{◌≡◌, refl, sym, ap, ◌∙◌}
use mathlib.Core.Bool.{Bool, true, false, cond}
use mathlib.Core.List.{List}
use native.Mathlib.Nat.{zero-add}
use native.Mathlib.Omega.{arith}
use lib.Dec.{leb}
use lib.ListN.{length}
use borrow.Author.Tests.{le-leb, lt-leb}
use Rattle.kinds.specs.Refusals.{told}
use Rattle.text.specs.Put.{Put, Past, NoRoom}
use Rattle.text.specs.Decimal.{decimal_in, decimal, number_text}
use Rattle.text.specs.Keys.{answer_key, records_key, at_key}
use Rattle.text.specs.Line.{line_text}
use Rattle.text.specs.Write.{put_at, written}
use Rattle.output.specs.Wrote.{Wrote}
use Rattle.output.proofs.Wrote.{line_wrote, wrote_then}
use Rattle.replay_text.specs.Replay.{broken_text}
use Rattle.replay.specs.Into.{BrokenFits, EndFits}
use Rattle.replay.specs.Replayed.{Replayed, Written, NoRoom as Short}
use Rattle.std.specs.Option.{ok_or, unwrap_or}

module _ (line : ℕ) (xs : List ℕ) where
  pub broken_short : length xs < 33 → BrokenFits line xs xs (Short 0)
  broken_short h = let e = lt-leb 33 (length xs) h in record { says = rw e; text = rw e }

  -- both lines have room in 33 bytes
  module _
      (room : 33 ≤ length xs) (small : line < 2 ^ 64) {ys zs : List ℕ} {at end : ℕ}
      (e : at ≡ unwrap_or (put_at xs 0 (line_text answer_key 9)) 0) (w : ys ≡ written xs 0 (line_text answer_key 9))
      (f : end ≡ unwrap_or (put_at ys at (line_text at_key line)) at) (v : zs ≡ written ys at (line_text at_key line))
    where
      one : Wrote xs 0 (line_text answer_key 9) ys at 28
      one = line_wrote xs 0 answer_key 9 (omega arith) (omega arith) e w

      -- `answer=9` is nine bytes
      nine : at ≡ 9
      unfolding line_text number_text decimal decimal_in
      nine = one.end

      pub broken_written : BrokenFits line xs zs (Written end)
      unfolding told broken_text
      broken_written =
          let two = line_wrote ys at at_key line small (omega (arith, nine, one.size)) f v in
          let both = wrote_then (omega arith) one two in
          let ok = le-leb 33 (length xs) room in
          record { says = rw ok (ap Written (both.end ∙ zero-add (length (broken_text line)))); text = rw ok both.left }

pub end_fits :
    (count filled : ℕ) (xs : List ℕ) {ys : List ℕ} {put : Put} {r : Replayed} → put ≡ put_at xs filled (line_text records_key count) →
    ys ≡ written xs filled (line_text records_key count) → r ≡ ok_or put filled → EndFits count filled xs ys r
unfolding put_at
end_fits count filled xs p w e =
    let last = line_text records_key count in
    record { says = e ∙ rw p (go (leb (filled + length last) (length xs)) (filled + length last)); text = w }
  where
    go : (b : Bool) (end : ℕ) → ok_or (cond b (Past end) NoRoom) filled ≡ cond b (Written end) (Short filled)
    go true end = refl
    go false end = refl
