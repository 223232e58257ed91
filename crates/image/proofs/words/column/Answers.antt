use borrow.Author.Rules.{rules}
use Rattle.image.proofs.Chunks.{words_made}
use Rattle.image.proofs.words.column.Goals as goal

pub returns : goal.returns
returns g c =
    let a = c.args in
    words_made _ _ c.from_fn.result _ a.s.now a.from a.apart c.from_fn.ensures.items (λ k y q h. search rules)
