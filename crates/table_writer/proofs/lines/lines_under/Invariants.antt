-- Invariant: the whole, put where it belongs, is what the lines left put at the place that was reached (proofs/Walk.antt of crate
-- table_measure).
use mathlib.Core.Path.{◌≡◌}
use lib.ListN.{length}
use Rattle.std.specs.Iterator.Adapters.{zip_first, zip_second}
use Rattle.std.specs.Slice.Iter.{iter_rest}
use Rattle.table_text.specs.TableText.{lines_under}
use Rattle.table_measure.proofs.Walk.{Left}
use Rattle.table_writer.proofs.lines.lines_under.Given as goal

abbrev pub invariant-loop-txid : goal.invariant-loop-txid
invariant-loop-txid l =
    let t = l.table in
    let txids = iter_rest (zip_first l.txid-iterator) in
    let xmins = iter_rest (zip_second l.txid-iterator) in
    (length xmins ≡ length txids)
    × Left (lines_under t.txids t.snapshot_xmins t.pins t.counters) l.initial.buf l.at l.buf l.past (lines_under txids xmins t.pins t.counters)
