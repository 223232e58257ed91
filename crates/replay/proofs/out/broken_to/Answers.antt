-- Refusal 9 is the one piece of the text, and it stands at the buffer's start (crate's proofs/Sending.antt and Pieces.antt).
use mathlib.Core.Path.{refl, ap, sym, ◌∙◌}
use native.Mathlib.Omega.{arith}
use lib.IntN.{ℤ}
use lib.Seq.{length-take-le}
use mir.Facts.{to_z-of_z}
use Rattle.std.proofs.Common.{Err}
use Rattle.std.proofs.lemmas.Result.{err_from_is_err_and}
use Rattle.replay.specs.Sent.{handed}
use Rattle.replay.proofs.Next.{put_inside}
use Rattle.replay.proofs.Pieces.{pieces_joined, sent_some}
use Rattle.replay.proofs.Sending.{broken_next, broken_all}
use Rattle.replay.proofs.out.broken_to.Goals as goal

pub hand_on-requires : goal.hand_on-requires
hand_on-requires c =
    let none = c.nothing.ensures ∙ ap (λ (fd : ℤ). handed fd 0) (to_z-of_z c.ranges.to) in
    rw none (broken_next _ _ _ c.requires _ c.broken_lines.ensures)

pub returns : goal.returns
returns c =
    let none = c.nothing.ensures ∙ ap (λ (fd : ℤ). handed fd 0) (to_z-of_z c.ranges.to) in
    let on = c.in_ok-all.ensures in
    record { text = pieces_joined _ _ (omega arith); ended = broken_all _ _ _ c.requires (rw none at on) }

pub returns-in_err-all : goal.returns-in_err-all
returns-in_err-all c =
    let none = c.nothing.ensures ∙ ap (λ (fd : ℤ). handed fd 0) (to_z-of_z c.ranges.to) in
    let next = broken_next _ _ _ c.requires _ c.broken_lines.ensures in
    let no = c.in_err-all.ensures in
    let p = err_from_is_err_and c.from_residual.result c.from_residual.ensures.1 in
    rw (p.1 ∙ ap Err p.2) (sent_some _ (omega arith) next refl (rw none at no))
