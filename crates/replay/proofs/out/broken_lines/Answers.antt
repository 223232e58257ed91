-- The buffer has room, so the two lines were put there (crate's proofs/Next.antt).
use mathlib.Core.Path.{◌≡◌, sym, ◌∙◌}
use lib.ListN.{length}
use lib.Seq.{length-take-le}
use Rattle.replay_text.specs.Replay.{broken_text}
use Rattle.replay.proofs.Next.{begins_with, put_inside, broken_put}
use Rattle.replay.proofs.out.broken_lines.Goals as goal

pub unwrap-size-requires : goal.unwrap-size-requires
unwrap-size-requires c = rw (broken_put _ c.requires c.put_broken.ensures).says

pub slice_bounds-result-end : goal.slice_bounds-result-end
slice_bounds-result-end c =
    let put = broken_put _ c.requires c.put_broken.ensures in
    let said = sym c.unwrap-size.ensures ∙ put.says in
    let size : c.unwrap-size.result ≡ length (broken_text c.args.line) = cc in
    sym (length-take-le _ _ (put_inside _ _ size put.text c.put_broken.auto.buf))

pub returns : goal.returns
returns c =
    let put = broken_put _ c.requires c.put_broken.ensures in
    let said = sym c.unwrap-size.ensures ∙ put.says in
    let size : c.unwrap-size.result ≡ length (broken_text c.args.line) = cc in
    begins_with c.args.buf.now (broken_text c.args.line) size put.text
