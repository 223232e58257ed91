use mathlib.Core.Path.{◌∙◌}
use Rattle.image.proofs.Eight.{word_read}
use Rattle.image.proofs.words.word_at.Goals as goal

pub returns : goal.returns
returns c =
    let chunk = rw c.unwrap.ensures at c.try_into.ensures.1 in
    c.from_le_bytes.ensures ∙ word_read c.args.s.now c.args.at c.unwrap.result c.requires chunk.same
