-- When a call is refused, and by what: each test on the numbers that it reads. An earlier refusal of a call's order hides the later ones.
use Rattle.std.specs.Prelude.{ℕ, ◌+◌, List, cond, ◌||◌, eqb, ltb, leb, get_or}
use Rattle.kinds.specs.declared.Stamp.{Stamp}
use Rattle.kinds.specs.declared.SlotNo.{SlotNo}
use Rattle.kinds.specs.declared.PinNo.{PinNo}
use Rattle.kinds.specs.declared.Txid.{Txid}
use Rattle.kinds.specs.declared.refusal.Refusal.TheVariants.{NoFreeSlot, InvalidSlot, SlotOwnershipMismatch, ClockExhausted}
use Rattle.kinds.specs.declared.refusal.Refusal.TheVariants.{BadReservation, WildJump, BadClock, BadSample, NoFreePin, InvalidPin}
use Rattle.kinds.specs.declared.refusal.Refusal.TheVariants.{FreePin}
use Rattle.kinds.specs.Verdicts.{Verdict, Pass, Refuse, then, zero_test}
use Rattle.kinds.specs.Kinds.{top, pin_count, txid, txid_of}
use Rattle.model.specs.Tally.{lowest_empty}

-- 2: the slot is not below the number of slots
abbrev pub slot_test : ℕ → SlotNo → Verdict
slot_test n slot = cond (leb n slot.0) (Refuse (InvalidSlot slot)) Pass

-- 3: the slot holds another txid, or none
abbrev pub holder_test : List ℕ → SlotNo → Txid → Verdict
holder_test txids slot id =
    cond (eqb (get_or txids slot.0 0) id.0) Pass
    (Refuse (SlotOwnershipMismatch slot id (txid (get_or txids slot.0 0))))

-- 2, 4, 3: the registration (slot, id) holds its slot
abbrev pub owner_test : ℕ → List ℕ → SlotNo → Txid → Verdict
owner_test n txids slot id = then (slot_test n slot) (then (zero_test id) (holder_test txids slot id))

-- how far above the clock a reserved number may lie: 2^32
abbrev pub farthest : ℕ
farthest = 4294967296

-- 5: the clock is at its end. 6: the number is 0, below the clock, or 2^64 − 1. 13: it lies farther above the clock. By ≤ and <,
-- which is the same on 64-bit numbers: the theorems then need no ranges, and no sum has an end
abbrev pub reservation_test : ℕ → Stamp → Verdict
reservation_test clock number =
    cond (leb top clock) (Refuse ClockExhausted)
    (cond (eqb number.0 0 || (ltb number.0 clock || leb top number.0)) (Refuse BadReservation)
    (cond (ltb (clock + farthest) number.0) (Refuse WildJump) Pass))

-- 1: all slots are taken
abbrev pub full_test : ℕ → List ℕ → Stamp → Verdict
full_test n txids number = cond (leb n (lowest_empty txids)) (Refuse (NoFreeSlot (txid_of number))) Pass

-- 7: the given clock is below the table's. 8: the sample is 0 or above the given clock
abbrev pub observation_test : ℕ → ℕ → ℕ → Verdict
observation_test former clock sample =
    cond (ltb clock former) (Refuse BadClock)
    (cond (eqb sample 0 || ltb clock sample) (Refuse BadSample) Pass)

-- 14: all pins are taken
abbrev pub pin_test : List ℕ → Verdict
pin_test pins = cond (leb pin_count (lowest_empty pins)) (Refuse NoFreePin) Pass

-- 15: no pin has the number. 16: the pin is free
abbrev pub release_test : List ℕ → PinNo → Verdict
release_test pins k =
    cond (leb pin_count k.0) (Refuse (InvalidPin k))
    (cond (eqb (get_or pins k.0 0) 0) (Refuse (FreePin k)) Pass)
