-- The walk goes over the ids of the taken slots, and counts them (crate's proofs/Ids.antt).
use mathlib.Core.Path.{◌∙◌}
use native.Mathlib.Omega.{arith}
use borrow.Author.Tests.{tests}
use Rattle.std.proofs.Common.{rules}
use Rattle.std.proofs.lemmas.Iterator.{YieldsList-from_slice}
use Rattle.std.proofs.lemmas.Iterator.Consumers.{YieldsList-at, YieldsList-from_filter, YieldsList-from_enumerate, YieldsList-turn, YieldsList-end}
use Rattle.std.proofs.lemmas.List.{length_push}
use Rattle.model.proofs.Tally.{active-length}
use Rattle.ledger_scans.proofs.Ids.{is_taken, taken-active, places_more, places_all}
use Rattle.ledger_scans.proofs.flight.listed_ids.Goals as goal

pub loop-place-preserved : goal.loop-place-preserved
loop-place-preserved c =
    let turn =
    YieldsList-turn
    (YieldsList-at c.into_iter-place-iterator.ensures.into_iter_gives
    (YieldsList-from_enumerate
    (YieldsList-at c.enumerate-place-items.ensures.source
    (YieldsList-from_filter _ is_taken (YieldsList-at c.filter.ensures.source (YieldsList-from_slice c.args.txids cc)) c.filter.ensures.closure (λ x r q k. search (rules, tests))))
    c.enumerate-place-items.ensures.count))
    c.loop-place.yielded _ c.loop-place.yielded_by _ _ _ c.in-Some.is c.next.ensures.steps in
    let one = rw (taken-active c.args.txids) at turn in
    let fits = active-length c.args.txids in
    rw (c.loop-place.invariant, length_push c.loop-place.yielded (c.in-Some.place, c.in-Some.field-0-1)) (places_more _ _ _ _ _ (omega arith) one.0 one.1)

pub returns : goal.returns
returns c =
    let end =
    YieldsList-end
    (YieldsList-at c.into_iter-place-iterator.ensures.into_iter_gives
    (YieldsList-from_enumerate
    (YieldsList-at c.enumerate-place-items.ensures.source
    (YieldsList-from_filter _ is_taken (YieldsList-at c.filter.ensures.source (YieldsList-from_slice c.args.txids cc)) c.filter.ensures.closure (λ x r q k. search (rules, tests))))
    c.enumerate-place-items.ensures.count))
    c.loop-place.yielded _ c.loop-place.yielded_by _ _ c.in-None.is c.next.ensures.steps in
    c.loop-place.invariant ∙ places_all _ _ _ (rw (taken-active c.args.txids) at end.1)
