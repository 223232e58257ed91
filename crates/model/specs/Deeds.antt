-- What a call means for registrations and pins: six kinds of deed. Histories are told by them, not by the single calls.
use Rattle.std.specs.Prelude.{Bool, true, false, ◌&&◌, eqb}
use Rattle.kinds.specs.declared.SlotNo.{SlotNo}
use Rattle.kinds.specs.declared.Txid.{Txid}
use Rattle.kinds.specs.declared.PinNo.{PinNo}
use Rattle.model.specs.Calls.{Call, begin, end, snap, own, oldest, vacuum, stamp, finish, pin, unpin}

-- a transaction is registered, ends, takes its snapshot; a pin is taken, with a snapshot, or freed; or the call concerns none
pub data Deed : Type 0 where
  registers : Deed
  ends : SlotNo → Txid → Deed
  takes : SlotNo → Txid → Deed
  takes_pin : Deed
  frees_pin : PinNo → Deed
  idle : Deed

abbrev pub deed : Call → Deed
deed (begin number) = registers
deed (end slot id) = ends slot id
deed (snap clock sample) = idle
deed (own slot id clock sample) = takes slot id
deed (oldest clock sample) = idle
deed (vacuum clock sample) = idle
deed (stamp number) = idle
deed (finish slot id number) = ends slot id
deed (pin clock sample) = takes_pin
deed (unpin k) = frees_pin k

-- a begin: accepted, it takes a slot
abbrev pub registering : Deed → Bool
registering registers = true
registering (ends slot id) = false
registering (takes slot id) = false
registering takes_pin = false
registering (frees_pin k) = false
registering idle = false

-- an end or a finish: accepted, it empties its slot
abbrev pub ending : Deed → Bool
ending registers = false
ending (ends slot id) = true
ending (takes slot id) = false
ending takes_pin = false
ending (frees_pin k) = false
ending idle = false

-- a transaction's snapshot, or a pinned one: accepted, the promise covers it
abbrev pub taking : Deed → Bool
taking registers = false
taking (ends slot id) = false
taking (takes slot id) = true
taking takes_pin = true
taking (frees_pin k) = false
taking idle = false

-- (slot, id) and (slot', id') are one transaction
abbrev pub same_transaction : SlotNo → Txid → SlotNo → Txid → Bool
same_transaction slot id slot' id' = eqb slot.0 slot'.0 && eqb id.0 id'.0

-- the deed is an end, or a snapshot, of (slot, id)
abbrev pub ends_it : SlotNo → Txid → Deed → Bool
ends_it slot id registers = false
ends_it slot id (ends slot' id') = same_transaction slot id slot' id'
ends_it slot id (takes slot' id') = false
ends_it slot id takes_pin = false
ends_it slot id (frees_pin k) = false
ends_it slot id idle = false

abbrev pub takes_it : SlotNo → Txid → Deed → Bool
takes_it slot id registers = false
takes_it slot id (ends slot' id') = false
takes_it slot id (takes slot' id') = same_transaction slot id slot' id'
takes_it slot id takes_pin = false
takes_it slot id (frees_pin k) = false
takes_it slot id idle = false

-- the deed is a release of pin k
abbrev pub frees_it : PinNo → Deed → Bool
frees_it k registers = false
frees_it k (ends slot id) = false
frees_it k (takes slot id) = false
frees_it k takes_pin = false
frees_it k (frees_pin j) = eqb j.0 k.0
frees_it k idle = false

abbrev pub opens : Call → Bool
opens c = registering (deed c)

abbrev pub closes : Call → Bool
closes c = ending (deed c)

abbrev pub takes_snapshot : Call → Bool
takes_snapshot c = taking (deed c)

abbrev pub end_of : SlotNo → Txid → Call → Bool
end_of slot id c = ends_it slot id (deed c)

abbrev pub own_of : SlotNo → Txid → Call → Bool
own_of slot id c = takes_it slot id (deed c)

abbrev pub release_of : PinNo → Call → Bool
release_of k c = frees_it k (deed c)
