use Rattle.ledger_scans.proofs.Seen.{seen-empty, seen-taken, seen_all}
use Rattle.ledger_scans.proofs.flight.in_flight.Goals as goal

pub loop-id-preserved-then-id-eq0 : goal.loop-id-preserved-then-id-eq0
loop-id-preserved-then-id-eq0 c = seen-empty c.loop-id.invariant c.loop-id-test.true c.if-id-eq0.true

pub loop-id-preserved : goal.loop-id-preserved
loop-id-preserved c =
    seen-taken c.loop-id.invariant c.loop-id-test.true c.if-id-eq0.false c.min.ensures c.saturating_add.ensures c.max.ensures

pub returns : goal.returns
returns c = seen_all c.loop-id.invariant c.loop-id-test.false
