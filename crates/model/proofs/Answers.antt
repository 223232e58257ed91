-- Answers are told apart by their case and by what they carry.
use Prim.Native.Nat.{ℕ}
use mathlib.Core.Path.{◌≡◌, ap}
use native.Mathlib.Omega.{arith}
use Rattle.kinds.specs.declared.Stamp.{Stamp}
use Rattle.kinds.specs.declared.SlotNo.{SlotNo}
use Rattle.kinds.specs.declared.Txid.{Txid}
use Rattle.kinds.specs.declared.PinNo.{PinNo}
use Rattle.kinds.specs.declared.refusal.Refusal.{Refusal}
use Rattle.kinds.specs.Kinds.{slot, pin_no, txid_of}
use Rattle.kinds.proofs.Unique.{same_slot, same_pin, same_txid}
use Rattle.model.specs.Answer.{Answer, Begun, Done, Pinned, Oldest, Line, Stamped, Refused}

-- what stands in a case, 0 in every other
abbrev pub begun-slot : Answer → ℕ
begun-slot (Begun slot id) = slot.0
begun-slot Done = 0
begun-slot (Pinned k) = 0
begun-slot (Oldest xmin holder) = 0
begun-slot (Line line holder) = 0
begun-slot (Stamped stamp) = 0
begun-slot (Refused r) = 0

abbrev pub begun_id : Answer → ℕ
begun_id (Begun slot id) = id.0
begun_id Done = 0
begun_id (Pinned k) = 0
begun_id (Oldest xmin holder) = 0
begun_id (Line line holder) = 0
begun_id (Stamped stamp) = 0
begun_id (Refused r) = 0

abbrev pub line_given : Answer → ℕ
line_given (Begun slot id) = 0
line_given Done = 0
line_given (Pinned k) = 0
line_given (Oldest xmin holder) = 0
line_given (Line line holder) = line
line_given (Stamped stamp) = 0
line_given (Refused r) = 0

-- 1 for a refusal
abbrev refuses : Answer → ℕ
refuses (Begun slot id) = 0
refuses Done = 0
refuses (Pinned k) = 0
refuses (Oldest xmin holder) = 0
refuses (Line line holder) = 0
refuses (Stamped stamp) = 0
refuses (Refused r) = 1

pub refused_not_begun : (r : Refusal) (slot : SlotNo) (id : Txid) → Refused r ≡ Begun slot id → ⊥
refused_not_begun r slot id e = let z = ap refuses e in omega (arith, z)

pub refused_not_line : (r : Refusal) (line holder : ℕ) → Refused r ≡ Line line holder → ⊥
refused_not_line r line holder e = let z = ap refuses e in omega (arith, z)

pub begun_as :
    {i : ℕ} {number : Stamp} {slot' : SlotNo} {id : Txid} → i ≡ slot'.0 → number.0 ≡ id.0 →
    Begun (slot i) (txid_of number) ≡ Begun slot' id
begun_as {i} {number} {slot'} {id} p q = rw (same_slot (slot i) slot' p, same_txid (txid_of number) id q)

-- what an oldest answers, by its case
abbrev pub found_xmin : Answer → ℕ
found_xmin (Begun slot id) = 0
found_xmin Done = 0
found_xmin (Pinned k) = 0
found_xmin (Oldest xmin holder) = xmin
found_xmin (Line line holder) = 0
found_xmin (Stamped stamp) = 0
found_xmin (Refused r) = 0

pub refused_not_oldest : (r : Refusal) (xmin holder : ℕ) → Refused r ≡ Oldest xmin holder → ⊥
refused_not_oldest r xmin holder e = let z = ap refuses e in omega (arith, z)

-- which pin a pinned snapshot took, by its case
abbrev pub pin-told : Answer → ℕ
pin-told (Begun slot id) = 0
pin-told Done = 0
pin-told (Pinned k) = k.0
pin-told (Oldest xmin holder) = 0
pin-told (Line line holder) = 0
pin-told (Stamped stamp) = 0
pin-told (Refused r) = 0

pub refused_not_pinned : (r : Refusal) (k : PinNo) → Refused r ≡ Pinned k → ⊥
refused_not_pinned r k e = let z = ap refuses e in omega (arith, z)

pub pinned_as : {i : ℕ} {k : PinNo} → i ≡ k.0 → Pinned (pin_no i) ≡ Pinned k
pinned_as {i} {k} p = rw (same_pin (pin_no i) k p)
