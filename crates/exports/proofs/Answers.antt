-- What the numbers for a C host say of the replay's own answers, case by case of the answer. The numbers stand in specs/Status.antt, the
-- answers in crate replay (specs/Into, specs/Sent).
use Prim.Native.Nat.{ℕ, ◌≤◌, ◌-◌, ◌^◌}
use mathlib.Core.Path.{◌≡◌, refl, sym, ◌∙◌}
use mathlib.Core.Bool.{true, false}
use mathlib.Core.List.{List}
use native.Mathlib.Omega.{arith}
use lib.IntN.{ℤ}
use lib.ListN.{length}
use mir.Syntax.{w32}
use mir.Val.{to_z, of_z}
use Rattle.text.specs.Put.{Put, Past, NoRoom as None}
use Rattle.trace.specs.Trace.{trace_of}
use Rattle.replay.specs.declared.border.Handed.{Handed}
use Rattle.replay.specs.Replayed.{Replayed, Written, NoRoom}
use Rattle.replay.specs.Sent.{Sent, All, Refused, is_trace, SentFits}
use Rattle.replay.specs.Into.{Into, whole, cut, into_of, replayed, IntoFits}
use Rattle.input.specs.Input.{Input, InputFits}
use Rattle.input.specs.Input as reads
use Rattle.exports.specs.Status.{answered, reported, ReadFits, all, failed, StatusFits, done, refused, unwritten, RunFits}
use Rattle.std.specs.Result.{result_unwrap_or}
use Rattle.std.specs.Option.{unwrap_or}

-- the length of a whole output, or 0
answered_of : (i : Into) → result_unwrap_or (replayed i) 0 ≡ answered i
answered_of (whole t) = refl
answered_of (cut t) = refl

pub answered_as : {n : ℕ} {s xs ys : List ℕ} {r : Replayed} {k : ℕ} → IntoFits n s xs ys r → k ≡ result_unwrap_or r 0 → k ≡ answered (into_of n (length xs) s)
answered_as {n} {s} {xs} f e = e ∙ rw f.says (answered_of (into_of n (length xs) s))

module _ {n : ℕ} {s : List ℕ} {to : ℤ} {r : Sent} (f : SentFits n s to r) where
  pub all_is_trace : {h : Handed} → r ≡ All h → is_trace (trace_of s) ≡ true
  all_is_trace e = (rw e at f.ended).read

  pub refused_is_none : {h : Handed} → r ≡ Refused h → is_trace (trace_of s) ≡ false
  refused_is_none e = (rw e at f.ended).read

-- how many bytes were read, or the largest number
pub read_fits : (most : ℕ) (r : Input) → InputFits most r → ReadFits most (unwrap_or r (2 ^ 64 - 1))
read_fits most (reads.All size) f = all f
read_fits most reads.Failed f = failed

-- handed on as a result, a number is read back from its bits
pub status_fits : {s : List ℕ} {r : ℤ} → StatusFits s r → RunFits (to_z w32 (of_z w32 r))
status_fits (done h) = omega arith
status_fits (refused h) = omega arith
status_fits unwritten = omega arith

-- the length of a report, or 0
pub reported_as : {k : ℕ} (p : Put) → k ≡ unwrap_or p 0 → k ≡ reported p
reported_as (Past length) e = e
reported_as None e = e

-- what was read lies inside the buffer
pub input_inside : {most size : ℕ} {r : Input} → InputFits most r → r ≡ reads.All size → size ≤ most
input_inside f e = rw e at f
