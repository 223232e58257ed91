-- The run is lent as three columns and the counters; each is what the change leaves of it (proofs/Laid.antt).
use mathlib.Core.Path.{ap, ◌∙◌}
use mathlib.Core.List.{List}
use Prim.Native.Nat.{ℕ}
use lib.ListN.{take, drop}
use borrow.Author.Tests.{ne_eqb}
use Rattle.kinds.specs.Kinds.{pin_count}
use Rattle.kinds.specs.declared.TheConstants.{SLOTS}
use Rattle.model.specs.Stored.{stored_txid, stored_xmin, stored_pin}
use Rattle.place.specs.Words.{stored_words}
use Rattle.place.proofs.Laid.{stored_parts}
use Rattle.place.proofs.words.store.Goals as goal

pub returns-then-words-ne-WORDS : goal.returns-then-words-ne-WORDS
unfolding stored_words
returns-then-words-ne-WORDS c = rw (ne_eqb _ _ c.if-words-ne-WORDS.true)

pub returns : goal.returns
returns c =
    let a = c.args in
    let slot = a.change.slot in
    let one = c.in-Some.ensures.cases in
    let two = c.in-Some-split_first_chunk_mut.ensures.cases in
    let three = c.in-Some-split_first_chunk_mut-2.ensures.cases in
    let rest = two.1 ∙ ap (λ (l : List ℕ). drop SLOTS l) one.1 in
    let txids = c.store_txid.ensures ∙ ap (λ (l : List ℕ). stored_txid SLOTS slot l) one.0 in
    let xmins = c.store_xmin.ensures ∙ ap (λ (l : List ℕ). stored_xmin SLOTS slot l) (two.0 ∙ ap (λ (l : List ℕ). take SLOTS l) one.1) in
    let pins = c.store_pin.ensures ∙ ap (λ (l : List ℕ). stored_pin slot l) (three.0 ∙ ap (λ (l : List ℕ). take pin_count l) rest) in
    stored_parts _ a.words.now c.if-words-ne-WORDS.false a.change txids xmins pins c.copy_from_slice.ensures.after
