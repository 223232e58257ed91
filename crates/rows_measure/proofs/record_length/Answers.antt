-- The length of a record's text is the sum of its parts (crate's proofs/Lengths.antt).
use mathlib.Core.Path.{ap}
use mathlib.Core.List.{◌++◌}
use native.Mathlib.Omega.{arith}
use lib.ListN.{length, length-append}
use Rattle.text.specs.Keys.{op_key, slot_key}
use Rattle.trace.specs.Op.{op_name}
use Rattle.rows_measure.proofs.Lengths.{record-length}
use Rattle.rows_measure.proofs.record_length.Goals as goal

pub returns : goal.returns
returns c =
    let op = c.args.r.op in
    let key = ap length c.op_and_slot_key-key.ensures in
    omega (arith, key, length-append (op_key ++ op_name op) slot_key, length-append op_key (op_name op), record-length c.args.r)
