-- Whose slot must not be touched: nobody's, or that of a registration.
use Rattle.std.specs.Prelude.{Option, Some, None}
use Rattle.kinds.specs.declared.SlotNo.{SlotNo}
use Rattle.kinds.specs.declared.Txid.{Txid}
use Rattle.wait_rules.specs.declared.Registration.{Registration}

abbrev pub Owner : Type 0
Owner = Option Registration

pattern abbrev pub Nobody : Owner
Nobody = None

pattern abbrev pub HeldBy : Registration → Owner
HeldBy own = Some own

-- the registration by its two numbers: no pattern, since none holds a record
abbrev pub Holds : SlotNo → Txid → Owner
Holds slot id = HeldBy (record { slot = slot; id = id })
