use Rattle.std.proofs.Common.{rules}
use Rattle.record_check.specs.declared.Slot.{Slot}
use Rattle.record_check.proofs.Columns.{column_made}
use Rattle.record_check.proofs.xmins_of.Goals as goal

pub returns : goal.returns
returns c =
    let none : Slot = record { txid = 0; snapshot_xmin = 0 } in
    column_made _ _ c.from_fn.result _ (λ (slot : Slot). slot.snapshot_xmin) c.args.slots.now none c.requires c.from_fn.ensures.items (λ k y q b h. search rules)
