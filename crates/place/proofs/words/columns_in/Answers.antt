-- The columns are parts of the run, as long as the run goes (proofs/Laid.antt).
use mathlib.Core.Path.{refl, ◌∙◌}
use Rattle.kinds.specs.Kinds.{pin_count}
use Rattle.kinds.specs.declared.TheConstants.{SLOTS}
use Rattle.place.specs.Words.{table_of}
use Rattle.place.proofs.Laid.{front_of, back_of, past_both}
use Rattle.place.proofs.words.columns_in.Goals as goal

pub returns : goal.returns
unfolding table_of
returns c =
    let ws = c.args.words.now in
    let first = c.split_at.ensures in
    let second = c.split_at-2.ensures in
    let txids = front_of SLOTS c.min.ensures refl first.front in
    let rest = back_of SLOTS c.min.ensures refl first.back in
    let xmins = front_of SLOTS c.min-2.ensures rest second.front in
    let past = back_of SLOTS c.min-2.ensures rest second.back ∙ past_both SLOTS ws in
    let pins = front_of pin_count c.min-3.ensures past refl in
    rw (txids, xmins, pins, c.counters_in.ensures)
