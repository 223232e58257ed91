-- The numbers that a C host gets.
use Rattle.std.specs.Prelude.{ℕ, ◌≤◌, ◌-◌, ◌^◌, ◌≡◌, true, false, List, ℤ, pos, negsuc, length}
use Rattle.kinds.specs.Kinds.{slot, txid}
use Rattle.trace.specs.Trace.{trace_of}
use Rattle.text.specs.Put.{Put, Past, NoRoom}
use Rattle.wait_rules.specs.Owner.{Owner, Holds}
use Rattle.text.specs.Write.{spliced}
use Rattle.replay.specs.Into.{Into, whole, cut, text_in, into_of}
use Rattle.replay.specs.Sent.{is_trace}

-- a replay into a buffer: the length of the whole text, or 0 where it had no room
abbrev pub answered : Into → ℕ
answered (whole t) = length t
answered (cut t) = 0

abbrev pub answer_of : ℕ → List ℕ → List ℕ → ℕ
answer_of n s xs = answered (into_of n (length xs) s)

-- and what it leaves in the buffer: that text, or as many records as had room, and past it what was there
abbrev pub left_of : ℕ → List ℕ → List ℕ → List ℕ
left_of n s xs = spliced xs 0 (text_in (into_of n (length xs) s))

-- a report into a buffer: its length, or 0 where it had no room
abbrev pub reported : Put → ℕ
reported (Past length) = length
reported NoRoom = 0

-- the owner of a slot, by its numbers
abbrev pub holder : ℕ → ℕ → Owner
holder i id = Holds (slot i) (txid id)

-- a number of bytes inside the buffer, or the largest number
pub data ReadFits (most : ℕ) : ℕ → Type 0 where
  all : {size : ℕ} → size ≤ most → ReadFits most size
  failed : ReadFits most (2 ^ 64 - 1)

-- 0 for a trace, 3 for a text that is none, and 1 for either; that a write failed then is not stated
pub data StatusFits (s : List ℕ) : ℤ → Type 0 where
  done : is_trace (trace_of s) ≡ true → StatusFits s (pos 0)
  refused : is_trace (trace_of s) ≡ false → StatusFits s (pos 3)
  unwritten : StatusFits s (pos 1)

-- 0, 1, 2 or 3
abbrev pub RunFits : ℤ → Type 0
RunFits (pos k) = k ≤ 3
RunFits (negsuc k) = ⊥
