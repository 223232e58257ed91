-- Each arm decides its call, and what is put is what the call prints (crate's proofs/Prints.antt). The columns that a decision reads are
-- those of the table that lends them (model's proofs/Lent.antt).
use mathlib.Core.Path.{refl, sym, ◌∙◌}
use borrow.Author.Tests.{lt-leb}
use borrow.Author.Rules.{rules}
use Rattle.kinds.specs.declared.TheConstants.{SLOTS}
use Rattle.model.specs.Tables.{lent_slots, lent_to_pin, lent_by}
use Rattle.model.specs.Calls.{shown_accepted, snap, own, pin, refusal}
use Rattle.model.proofs.Lent.{slots_show, lent_decides, lent_stamps, lent-pins, lent_releases}
use Rattle.step.specs.Named.{call_of}
use Rattle.step.specs.Step.{ran, ran_left}
use Rattle.step.proofs.Prints.{Prints, plain-prints, listing-put, listing-prints, refused-at_once}
use Rattle.step.proofs.record.run_record.Goals as goal

pub returns-then-txids-gt-SLOTS : goal.returns-then-txids-gt-SLOTS
unfolding ran ran_left
returns-then-txids-gt-SLOTS c =
    let many = lt-leb _ _ c.if-txids-gt-SLOTS.true in
    record { result_value = rw many c.nothing.ensures; buf_after = rw many }

pub returns-in-Snap : goal.returns-in-Snap
unfolding call_of refusal
returns-in-Snap c =
    let a = c.args in
    let few = c.if-txids-gt-SLOTS.false in
    let t = lent_slots SLOTS a.columns.txids.now a.columns.counters in
    let p = listing-put _ _ t (snap a.r.clock a.r.sample) _ _ refl _ _ (λ d k. search rules) (λ r e. sym c.observation_test-verdict.ensures ∙ e) c.run_listing.ensures in
    let o = listing-prints few (slots_show _ _ _ few refl) p in
    rw c.in-Snap.is record { result_value = o.ran; buf_after = o.left }

pub returns-in-Own : goal.returns-in-Own
unfolding call_of
returns-in-Own c =
    let a = c.args in
    let few = c.if-txids-gt-SLOTS.false in
    let t = lent_slots SLOTS a.columns.txids.now a.columns.counters in
    let call = own (record { 0 = a.r.slot }) (record { 0 = a.r.id }) a.r.clock a.r.sample in
    let p = listing-put _ _ t call _ _ refl _ _ (λ d k. search rules) (λ r e. sym c.own_test-verdict.ensures ∙ e) c.run_listing-in-Own.ensures in
    let o = listing-prints few (slots_show _ _ _ few refl) p in
    rw c.in-Own.is record { result_value = o.ran; buf_after = o.left }

pub returns-in-Pin : goal.returns-in-Pin
unfolding call_of
returns-in-Pin c =
    let a = c.args in
    let few = c.if-txids-gt-SLOTS.false in
    let t = lent_to_pin SLOTS a.columns.txids.now a.columns.pins.now a.columns.counters in
    let first = c.observation_test-verdict-in-Pin.ensures in
    let p = listing-put _ _ t (pin a.r.clock a.r.sample) _ _ refl _ _ (λ d k. search rules) (λ r e. refused-at_once _ _ _ _ (sym first ∙ e)) c.run_listing-in-Pin.ensures in
    let o = listing-prints few (lent-pins _ _ _ _ few) p in
    rw c.in-Pin.is record { result_value = o.ran; buf_after = o.left }

pub returns : goal.returns
unfolding call_of shown_accepted
returns c =
    let a = c.args in
    let few = c.if-txids-gt-SLOTS.false in
    let put = c.put_plain.ensures in
    let p : Prints a.version SLOTS (lent_by a.columns) (call_of a.r) a.buf.now a.at c.put_plain.new.buf c.put_plain.result = elim c.match-r.branch [
      | goal.in-Begin w ↦ rw w.in-Begin.is (plain-prints few (w.decided-is ∙ w.decide_begin-decided.ensures ∙ lent_decides _ _ _ refl) refl put)
      | goal.in-End w ↦ rw w.in-End.is (plain-prints few (w.decided-is ∙ w.decide_end-decided.ensures ∙ lent_decides _ _ _ refl) refl put)
      | goal.in-Oldest w ↦ rw w.in-Oldest.is (plain-prints few (w.decided-is ∙ w.decide_oldest-decided.ensures) refl put)
      | goal.in-Vacuum w ↦ rw w.in-Vacuum.is (plain-prints few (w.decided-is ∙ w.decide_vacuum-decided.ensures) refl put)
      | goal.in-Stamp w ↦ rw w.in-Stamp.is (plain-prints few (w.decided-is ∙ w.decide_stamp-decided.ensures ∙ lent_stamps _ _ _) refl put)
      | goal.in-Finish w ↦ rw w.in-Finish.is (plain-prints few (w.decided-is ∙ w.decide_finish-decided.ensures ∙ lent_decides _ _ _ refl) refl put)
      | goal.in-Unpin w ↦ rw w.in-Unpin.is (plain-prints few (w.decided-is ∙ w.decide_unpin-decided.ensures ∙ lent_releases _ _ _) refl put)
    ] in
    record { result_value = p.ran; buf_after = p.left }
