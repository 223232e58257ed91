-- Invariant: the length of all lines is what was counted and that of the lines left (crate's proofs/Walk.antt).
use Prim.Native.Nat.{◌+◌, ◌*◌, ◌≤◌}
use mathlib.Core.Path.{◌≡◌}
use lib.ListN.{length}
use Rattle.std.specs.Iterator.Adapters.{zip_first, zip_second}
use Rattle.std.specs.Slice.Iter.{iter_rest}
use Rattle.table_text.specs.TableText.{lines_under}
use Rattle.table_measure.proofs.length_under.Given as goal

abbrev pub invariant-loop-txid : goal.invariant-loop-txid
invariant-loop-txid l =
    let t = l.table in
    let txids = iter_rest (zip_first l.txid-iterator) in
    let xmins = iter_rest (zip_second l.txid-iterator) in
    (length xmins ≡ length txids)
    × (l.total + 52 * length txids ≤ 52 * length t.txids)
    × (length (lines_under t.txids t.snapshot_xmins t.pins t.counters) ≡ l.total + length (lines_under txids xmins t.pins t.counters))
