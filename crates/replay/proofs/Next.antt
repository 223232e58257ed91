-- What was put at a buffer's start: the last line has room in 29 bytes and refusal 9 in 33, whatever their numbers (the longest number
-- has 20 digits: crate text, proofs/Decimal).
use Prim.Native.Nat.{ℕ, ◌+◌, ◌≤◌, ◌<◌, ◌^◌}
use mathlib.Core.Path.{◌≡◌, sym, ap, ◌∙◌}
use mathlib.Core.List.{List}
use native.Mathlib.Nat.{zero-add}
use native.Mathlib.Omega.{arith}
use lib.ListN.{length, take, drop}
use lib.Seq.{take-append_seam}
use borrow.Author.Tests.{le-leb}
use Rattle.text.specs.Keys.{records_key}
use Rattle.text.specs.Line.{line_text}
use Rattle.text.specs.Write.{spliced, written}
use Rattle.text.proofs.Decimal.{length-word}
use Rattle.text.proofs.Splice.{line-length}
use Rattle.replay_text.specs.Replay.{broken_text}
use Rattle.replay.specs.Into.{BrokenFits, EndFits}
use Rattle.replay.specs.Replayed.{Replayed, Written, NoRoom}
use Rattle.replay_part.proofs.Running.{inside_of}

-- a buffer with a text put at its start begins with it
pub begins_with : (xs t : List ℕ) {ys : List ℕ} {size : ℕ} → size ≡ length t → ys ≡ spliced xs 0 t → take size ys ≡ t
unfolding spliced
begins_with xs t k e = rw (k, e) (take-append_seam t (drop (0 + length t) xs))

-- and holds it whole
pub put_inside :
    (xs t : List ℕ) {ys : List ℕ} {size : ℕ} → size ≡ length t → ys ≡ spliced xs 0 t → length ys ≡ length xs → size ≤ length ys
put_inside xs t k e same =
    let fit = inside_of xs 0 t (omega arith) (ap length (sym e) ∙ same) in
    omega (arith, k, same, fit)

-- refusal 9 had room, and was put
pub record BrokenPut (line : ℕ) (xs ys : List ℕ) (r : Replayed) : Type 0 where
  pub says : r ≡ Written (length (broken_text line))
  pub text : ys ≡ spliced xs 0 (broken_text line)

pub broken_put : (line : ℕ) {xs ys : List ℕ} {r : Replayed} → 33 ≤ length xs → BrokenFits line xs ys r → BrokenPut line xs ys r
broken_put line {xs} room f =
    let ok = le-leb 33 (length xs) room in
    record { says = rw ok at f.says; text = rw ok at f.text }
