-- The call that a record names.
use Rattle.kinds.specs.Kinds.{number, slot, txid, pin_no}
use Rattle.model.specs.Calls.{Call, begin, end, snap, own, oldest, vacuum, stamp, finish, pin, unpin}
use Rattle.trace.specs.declared.Op.{Op}
use Rattle.trace.specs.declared.Op.TheVariants.{Begin, End, Snap, Own, Oldest, Vacuum, Stamp, Finish, Pin, Unpin}
use Rattle.trace.specs.declared.Record.{Record}

-- the call with the fields that its op reads
abbrev pub call_by : Op → Record → Call
call_by Begin r = begin (number r.stamp)
call_by End r = end (slot r.slot) (txid r.id)
call_by Snap r = snap r.clock r.sample
call_by Own r = own (slot r.slot) (txid r.id) r.clock r.sample
call_by Oldest r = oldest r.clock r.sample
call_by Vacuum r = vacuum r.clock r.sample
call_by Stamp r = stamp (number r.stamp)
call_by Finish r = finish (slot r.slot) (txid r.id) (number r.stamp)
call_by Pin r = pin r.clock r.sample
call_by Unpin r = unpin (pin_no r.slot)

unfoldable pub call_of : Record → Call
call_of r = call_by r.op r
