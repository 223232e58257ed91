-- Another length is no image; each column is read from its own place on.
use borrow.Author.Tests.{eq-eqb, ne_eqb}
use Rattle.image.specs.Images.{table_of, image_read}
use Rattle.image.proofs.read_image.Goals as goal

pub returns-then-image-ne-LENGTH : goal.returns-then-image-ne-LENGTH
unfolding image_read
returns-then-image-ne-LENGTH c = rw (ne_eqb _ _ c.if-image-ne-LENGTH.true)

pub returns : goal.returns
unfolding image_read table_of
returns c =
    rw (
      eq-eqb _ _ c.if-image-ne-LENGTH.false,
      c.column.ensures,
      c.column-2.ensures,
      c.column-3.ensures,
      c.word_at.ensures,
      c.word_at-2.ensures,
      c.word_at-3.ensures,
    )
