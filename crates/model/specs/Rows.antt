-- The twelve situations at the edges, every pair of refusals whose order a call decides, and what pins do, each as one list.
use Rattle.std.specs.Prelude.{ℕ, zero, suc, ◌+◌, ◌-◌, ◌≡◌, List, [], ◌∷◌, length, replicate}
use Rattle.kinds.specs.declared.Stamp.{Stamp}
use Rattle.kinds.specs.declared.refusal.Refusal.TheVariants.{NoFreeSlot, InvalidSlot, SlotOwnershipMismatch, ZeroTxid, ClockExhausted}
use Rattle.kinds.specs.declared.refusal.Refusal.TheVariants.{BadReservation, WildJump, BadClock, BadSample, NoFreePin, InvalidPin}
use Rattle.kinds.specs.declared.refusal.Refusal.TheVariants.{FreePin}
use Rattle.kinds.specs.Kinds.{top, pin_count, free_pins, number, slot, pin_no, txid}
use Rattle.settled.specs.declared.Snapshot.{Snapshot}
use Rattle.settled.specs.Snapshots.{no_snapshot}
use Rattle.model.specs.declared.Table.{Table}
use Rattle.model.specs.Answer.{Answer, Begun, Done, Pinned, Oldest, Line, Stamped, Refused}
use Rattle.model.specs.Tally.{places}
use Rattle.model.specs.Tables.{counted, fresh_table, clock_of, line_of}
use Rattle.model.specs.Calls.{Call, begin, end, snap, own, oldest, vacuum, stamp, finish, pin, unpin, after, answer, shown}

-- what is seen of a call: its answer, the snapshot beside it, and the clock and the line after it
pub record Seen : Type 0 where
  pub answers : Answer
  pub shows : Snapshot
  pub clock : ℕ
  pub line : ℕ

-- a situation: a table, calls on it, and what is seen of each
pub record Row : Type 0 where
  pub start : Table
  pub calls : List Call
  pub sees : List Seen

abbrev seen_of : ℕ → Table → Call → Seen
seen_of n t c =
    record { answers = answer n t c; shows = shown n t c; clock = clock_of (after n t c); line = line_of (after n t c) }

unfoldable pub seen_from : ℕ → Table → List Call → List Seen
seen_from n t [] = []
seen_from n t (c ∷ cs) = seen_of n t c ∷ seen_from n (after n t c) cs

-- what is seen of each row, and what it says
unfoldable pub seen_in : ℕ → List Row → List (List Seen)
seen_in n [] = []
seen_in n (r ∷ rs) = seen_from n r.start r.calls ∷ seen_in n rs

unfoldable pub said : List Row → List (List Seen)
said [] = []
said (r ∷ rs) = r.sees ∷ said rs

-- every row of the list holds at n slots
abbrev pub RowsHold : ℕ → List Row → Type 0
RowsHold n rs = seen_in n rs ≡ said rs

-- ids from k on, one a slot
abbrev pub from : ℕ → ℕ → List ℕ
from zero k = []
from (suc n) k = k ∷ from n (k + 1)

-- a table whose taken slots, from slot 0 on, retain their own txids
abbrev holding : List ℕ → ℕ → Table
holding ids clock = record { txids = ids; snapshot_xmins = ids; pins = free_pins; counters = counted clock 1 1 }

-- seen of a call that shows no snapshot, and of one that does
abbrev seen : ℕ → Answer → ℕ → ℕ → Seen
seen n a clock line = record { answers = a; shows = no_snapshot n; clock = clock; line = line }

abbrev snapped : ℕ → ℕ → ℕ → List ℕ → ℕ → Seen
snapped n xmin xmax ids clock =
    record {
      answers = Done;
      shows = record { xmin = xmin; xmax = xmax; ids = places n ids; count = length ids };
      clock = clock;
      line = 1;
    }

-- three slots hold 9, 4, 7; all hold an id; all are empty, at some clock
abbrev three : ℕ → Table
three n = holding (9 ∷ 4 ∷ 7 ∷ replicate (n - 3) 0) 12

abbrev full : ℕ → ℕ → Table
full n clock = holding (from n 1) clock

abbrev empty : ℕ → ℕ → Table
empty n clock = holding (replicate n 0) clock

-- one call on a table, and what is seen of it
abbrev one : Table → Call → Seen → Row
one t c s = record { start = t; calls = c ∷ []; sees = s ∷ [] }

-- P1 to P12 at n slots; `any` is the number of P7's begin, which may be any
unfoldable pub rows : ℕ → Stamp → List Row
rows n any =
    -- P1 fresh, snap 1/1: count 0, xmin = xmax = 1
    one (fresh_table n) (snap 1 1) (snapped n 1 1 [] 1)
    -- P2 the whole case: the stale sample 3 gives xmin 3, not 5
    ∷ record {
      start = fresh_table n;
      calls = begin (number 5) ∷ snap 9 3 ∷ [];
      sees = seen n (Begun (slot 0) (txid 5)) 6 1 ∷ snapped n 3 6 (5 ∷ []) 9 ∷ [];
    }
    -- P3 slots 0 to 2 hold 9, 4, 7; clock 12, sample 2
    ∷ one (three n) (snap 12 2) (snapped n 2 10 (9 ∷ 4 ∷ 7 ∷ []) 12)
    -- P4 the same, sample 12
    ∷ one (three n) (snap 12 12) (snapped n 4 12 (9 ∷ 4 ∷ 7 ∷ []) 12)
    -- P5 full with ids from 1 on, clock 1,200, begin 1,300: refusal 1 with 1,300, clock 1,301
    ∷ one (full n 1200) (begin (number 1300)) (seen n (Refused (NoFreeSlot (txid 1300))) 1301 1)
    -- P6 clock 1, begin 2^64 − 2: 13
    ∷ one (fresh_table n) (begin (number 18446744073709551614)) (seen n (Refused WildJump) 1 1)
    -- P7 clock 2^64 − 1, any begin: 5
    ∷ one (empty n top) (begin any) (seen n (Refused ClockExhausted) top 1)
    -- P8 clock 1, begin 2^64 − 1: 6
    ∷ one (fresh_table n) (begin (number 18446744073709551615)) (seen n (Refused BadReservation) 1 1)
    -- P9 end, the first slot number that no slot has, id 0: 2; the last slot passes that check, so 4
    ∷ record {
      start = fresh_table n;
      calls = end (slot n) (txid 0) ∷ end (slot (n - 1)) (txid 0) ∷ [];
      sees = seen n (Refused (InvalidSlot (slot n))) 1 1 ∷ seen n (Refused ZeroTxid) 1 1 ∷ [];
    }
    -- P10 end, empty slot 0, id 0: 4
    ∷ one (fresh_table n) (end (slot 0) (txid 0)) (seen n (Refused ZeroTxid) 1 1)
    -- P11 end twice: the second is 3, observed 0
    ∷ record {
      start = fresh_table n;
      calls = begin (number 5) ∷ end (slot 0) (txid 5) ∷ end (slot 0) (txid 5) ∷ [];
      sees =
          seen n (Begun (slot 0) (txid 5)) 6 1
          ∷ seen n Done 6 1
          ∷ seen n (Refused (SlotOwnershipMismatch (slot 0) (txid 5) (txid 0))) 6 1
          ∷ [];
    }
    -- P12 empty table, vacuum 100/100, then 100/50: line 100 both times; oldest with 50 answers 50; no slot holds it
    ∷ record {
      start = fresh_table n;
      calls = vacuum 100 100 ∷ vacuum 100 50 ∷ oldest 100 50 ∷ [];
      sees =
          seen n (Line 100 65535) 100 100
          ∷ seen n (Line 100 65535) 100 100
          ∷ seen n (Oldest 50 65535) 100 100
          ∷ [];
    }
    ∷ []

-- the registration (slot 0, 6), where slot 0 holds 9
abbrev mismatch : Answer
mismatch = Refused (SlotOwnershipMismatch (slot 0) (txid 6) (txid 9))

-- a slot number that no slot has
abbrev nowhere : ℕ → ℕ → Seen
nowhere n clock = seen n (Refused (InvalidSlot (slot n))) clock 1

-- slot 0 holds 9, and the clock is at its end
abbrev exhausted : ℕ → Table
exhausted n = holding (9 ∷ replicate (n - 1) 0) top

-- three slots hold 9, 4, 7, and every pin holds 3
abbrev all_pinned : ℕ → Table
all_pinned n =
    record {
      txids = 9 ∷ 4 ∷ 7 ∷ replicate (n - 3) 0;
      snapshot_xmins = 9 ∷ 4 ∷ 7 ∷ replicate (n - 3) 0;
      pins = replicate pin_count 3;
      counters = counted 12 1 1;
    }

-- a call that earns two refusals is given the one that its order has first; the clock of `three` is 12, so that 4294967308 is the
-- farthest number there. 5 and 13 are never earned together: no number is above 2^64 − 1
unfoldable pub orders : ℕ → List Row
orders n =
    -- 2 before 4, by every call that names a registration; before 3; before 7 and 8, and before 5, 6 and 13
    one (three n) (end (slot n) (txid 0)) (nowhere n 12)
    ∷ one (three n) (own (slot n) (txid 0) 12 1) (nowhere n 12)
    ∷ one (three n) (finish (slot n) (txid 0) (number 12)) (nowhere n 12)
    ∷ one (three n) (end (slot n) (txid 6)) (nowhere n 12)
    ∷ one (three n) (own (slot n) (txid 6) 12 1) (nowhere n 12)
    ∷ one (three n) (finish (slot n) (txid 6) (number 12)) (nowhere n 12)
    ∷ one (three n) (own (slot n) (txid 9) 11 1) (nowhere n 12)
    ∷ one (three n) (own (slot n) (txid 9) 12 0) (nowhere n 12)
    ∷ one (exhausted n) (finish (slot n) (txid 9) (number 1)) (nowhere n top)
    ∷ one (three n) (finish (slot n) (txid 9) (number 0)) (nowhere n 12)
    ∷ one (three n) (finish (slot n) (txid 9) (number 4294967309)) (nowhere n 12)
    -- 4 before 3
    ∷ one (three n) (end (slot 0) (txid 0)) (seen n (Refused ZeroTxid) 12 1)
    ∷ one (three n) (own (slot 0) (txid 0) 12 1) (seen n (Refused ZeroTxid) 12 1)
    ∷ one (three n) (finish (slot 0) (txid 0) (number 12)) (seen n (Refused ZeroTxid) 12 1)
    -- 4 before 7 and 8, and before 5, 6 and 13
    ∷ one (three n) (own (slot 0) (txid 0) 11 1) (seen n (Refused ZeroTxid) 12 1)
    ∷ one (three n) (own (slot 0) (txid 0) 12 0) (seen n (Refused ZeroTxid) 12 1)
    ∷ one (exhausted n) (finish (slot 0) (txid 0) (number 1)) (seen n (Refused ZeroTxid) top 1)
    ∷ one (three n) (finish (slot 0) (txid 0) (number 0)) (seen n (Refused ZeroTxid) 12 1)
    ∷ one (three n) (finish (slot 0) (txid 0) (number 4294967309)) (seen n (Refused ZeroTxid) 12 1)
    -- 3 before 7 and 8
    ∷ one (three n) (own (slot 0) (txid 6) 11 1) (seen n mismatch 12 1)
    ∷ one (three n) (own (slot 0) (txid 6) 12 0) (seen n mismatch 12 1)
    -- 7 before 8, by every call that observes
    ∷ one (three n) (snap 11 0) (seen n (Refused BadClock) 12 1)
    ∷ one (three n) (own (slot 0) (txid 9) 11 12) (seen n (Refused BadClock) 12 1)
    ∷ one (three n) (oldest 11 0) (seen n (Refused BadClock) 12 1)
    ∷ one (three n) (vacuum 11 12) (seen n (Refused BadClock) 12 1)
    -- 8: the sample is 0, or above the given clock
    ∷ one (three n) (snap 12 0) (seen n (Refused BadSample) 12 1)
    ∷ one (three n) (own (slot 0) (txid 9) 12 13) (seen n (Refused BadSample) 12 1)
    -- 3 before 5, 6 and 13
    ∷ one (exhausted n) (finish (slot 0) (txid 6) (number 1)) (seen n mismatch top 1)
    ∷ one (three n) (finish (slot 0) (txid 6) (number 0)) (seen n mismatch 12 1)
    ∷ one (three n) (finish (slot 0) (txid 6) (number 4294967309)) (seen n mismatch 12 1)
    -- 5 before 6, and 6 at a number below the clock, by every call that reserves
    ∷ one (empty n top) (begin (number 0)) (seen n (Refused ClockExhausted) top 1)
    ∷ one (empty n top) (stamp (number 0)) (seen n (Refused ClockExhausted) top 1)
    ∷ one (exhausted n) (finish (slot 0) (txid 9) (number 0)) (seen n (Refused ClockExhausted) top 1)
    ∷ one (three n) (stamp (number 11)) (seen n (Refused BadReservation) 12 1)
    ∷ one (three n) (finish (slot 0) (txid 9) (number 11)) (seen n (Refused BadReservation) 12 1)
    -- 6 before 13, and 13 one past the farthest number, by every call that reserves; the farthest itself is accepted
    ∷ one (three n) (begin (number top)) (seen n (Refused BadReservation) 12 1)
    ∷ one (three n) (stamp (number top)) (seen n (Refused BadReservation) 12 1)
    ∷ one (three n) (finish (slot 0) (txid 9) (number top)) (seen n (Refused BadReservation) 12 1)
    ∷ one (three n) (begin (number 4294967309)) (seen n (Refused WildJump) 12 1)
    ∷ one (three n) (stamp (number 4294967309)) (seen n (Refused WildJump) 12 1)
    ∷ one (three n) (finish (slot 0) (txid 9) (number 4294967309)) (seen n (Refused WildJump) 12 1)
    ∷ one (empty n 12) (begin (number 4294967308)) (seen n (Begun (slot 0) (txid 4294967308)) 4294967309 1)
    ∷ one (three n) (stamp (number 4294967308)) (seen n (Stamped (number 4294967308)) 4294967309 1)
    ∷ one (three n) (finish (slot 0) (txid 9) (number 4294967308)) (seen n (Stamped (number 4294967308)) 4294967309 1)
    -- near the end of the clock nothing wraps: 2^64 − 2 is still reserved there
    ∷ one (empty n 18446744073709551614) (stamp (number 18446744073709551614))
    (seen n (Stamped (number 18446744073709551614)) top 1)
    -- 7 before 14 and 8 before 14, by a pinned snapshot, where every pin is taken; 8 reads the sample as given
    ∷ one (three n) (pin 11 0) (seen n (Refused BadClock) 12 1)
    ∷ one (all_pinned n) (pin 11 1) (seen n (Refused BadClock) 12 1)
    ∷ one (all_pinned n) (pin 12 0) (seen n (Refused BadSample) 12 1)
    ∷ one (all_pinned n) (pin 12 13) (seen n (Refused BadSample) 12 1)
    ∷ one (all_pinned n) (pin 12 12) (seen n (Refused NoFreePin) 12 1)
    -- 15 before 16, at the first number that no pin has; 16
    ∷ one (three n) (unpin (pin_no pin_count)) (seen n (Refused (InvalidPin (pin_no pin_count))) 12 1)
    ∷ one (three n) (unpin (pin_no 0)) (seen n (Refused (FreePin (pin_no 0))) 12 1)
    -- 5, 6 and 13 before 1
    ∷ one (full n top) (begin (number 1)) (seen n (Refused ClockExhausted) top 1)
    ∷ one (full n 1200) (begin (number 1199)) (seen n (Refused BadReservation) 1200 1)
    ∷ one (full n 1200) (begin (number 4294968497)) (seen n (Refused WildJump) 1200 1)
    ∷ one (full n 1200) (begin (number 4294968496)) (seen n (Refused (NoFreeSlot (txid 4294968496))) 4294968497 1)
    ∷ []

-- seen of a pinned snapshot
abbrev pinned : ℕ → ℕ → ℕ → ℕ → List ℕ → ℕ → ℕ → Seen
pinned n k xmin xmax ids clock line =
    record {
      answers = Pinned (pin_no k);
      shows = record { xmin = xmin; xmax = xmax; ids = places n ids; count = length ids };
      clock = clock;
      line = line;
    }

-- what pins do: which one is taken, the sample that a snapshot uses, and whom they hold back
unfoldable pub pin_rows : ℕ → List Row
pin_rows n =
    -- a free pin is not released once more, and is taken next
    record {
      start = all_pinned n;
      calls = unpin (pin_no 5) ∷ unpin (pin_no 5) ∷ pin 12 2 ∷ [];
      sees = seen n Done 12 1 ∷ seen n (Refused (FreePin (pin_no 5))) 12 1 ∷ pinned n 5 2 10 (9 ∷ 4 ∷ 7 ∷ []) 12 1 ∷ [];
    }
    -- a full table of slots refuses no pin: every id is listed
    ∷ one (full n 1200) (pin 5000 5000) (pinned n 0 1 5000 (from n 1) 5000 1)
    -- the lowest free pin
    ∷ record {
      start = fresh_table n;
      calls = pin 1 1 ∷ pin 1 1 ∷ unpin (pin_no 0) ∷ pin 1 1 ∷ [];
      sees = pinned n 0 1 1 [] 1 1 ∷ pinned n 1 1 1 [] 1 1 ∷ seen n Done 1 1 ∷ pinned n 0 1 1 [] 1 1 ∷ [];
    }
    -- the line is 100: a pin with the stale sample 50 uses 100, one with sample 0 is refused by the sample as given; the pin
    -- holds the line, and a release lets it go
    ∷ record {
      start = fresh_table n;
      calls =
          vacuum 100 100 ∷ pin 100 0 ∷ pin 100 50 ∷ vacuum 200 200 ∷ unpin (pin_no 0) ∷ vacuum 200 200 ∷ [];
      sees =
          seen n (Line 100 65535) 100 100
          ∷ seen n (Refused BadSample) 100 100
          ∷ pinned n 0 100 100 [] 100 100
          ∷ seen n (Line 100 2000) 200 100
          ∷ seen n Done 200 100
          ∷ seen n (Line 200 65535) 200 200
          ∷ [];
    }
    -- the holder: a slot before a pin that holds the same; of pins that do, the lowest; none where the sample is lower
    ∷ record {
      start = fresh_table n;
      calls =
          begin (number 5) ∷ pin 9 9 ∷ pin 9 9 ∷ oldest 9 9 ∷ end (slot 0) (txid 5) ∷ oldest 9 9 ∷ unpin (pin_no 0) ∷ oldest 9 9
          ∷ oldest 9 4 ∷ [];
      sees =
          seen n (Begun (slot 0) (txid 5)) 6 1
          ∷ pinned n 0 5 9 (5 ∷ []) 9 1
          ∷ pinned n 1 5 9 (5 ∷ []) 9 1
          ∷ seen n (Oldest 5 0) 9 1
          ∷ seen n Done 9 1
          ∷ seen n (Oldest 5 2000) 9 1
          ∷ seen n Done 9 1
          ∷ seen n (Oldest 5 2001) 9 1
          ∷ seen n (Oldest 4 65535) 9 1
          ∷ [];
    }
    ∷ []

-- every row holds, P7 whatever its number, and every order
pub record AllRowsHold (n : ℕ) : Type 0 where
  pub edges : (any : Stamp) → RowsHold n (rows n any)
  pub in_order : RowsHold n (orders n)
