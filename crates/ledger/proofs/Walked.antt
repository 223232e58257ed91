-- The walk: the calls left, made on what was told so far, reach what the whole list does.
use Prim.Native.Nat.{ℕ, ◌+◌, ◌<◌, ◌≤◌}
use mathlib.Core.Path.{◌≡◌, ap, ◌∙◌}
use mathlib.Core.List.{List, []}
use native.Mathlib.Numerals.{add-one}
use lib.ListN.{length, drop, get_or, drop_of_length-le}
use lib.Seq.{drop-cons}
use Rattle.model.specs.declared.Table.{Table}
use Rattle.model.specs.Calls.{after}
use Rattle.model.specs.History.{run, reached}
use Rattle.ledger_calls.specs.declared.Did.{Did}
use Rattle.ledger_calls.specs.Deeds.{did_by, left}
use Rattle.ledger_calls.proofs.Left.{left_after}
use Rattle.ledger.specs.List.{row_call, calls_of}

module _ (n : ℕ) (rows : List (List ℕ)) where
  -- before row i
  abbrev pub Walked : Table → ℕ → Type 0
  Walked t i = run n t (calls_of (drop i rows)) ≡ reached n (calls_of rows)

  module _ (t : Table) (i : ℕ) where
    pub walked_more : (did : Did) → Walked t i → i < length rows → did ≡ did_by n t (row_call (get_or rows i [])) → Walked (left t did.deed) (i + 1)
    unfolding run
    walked_more did w h d =
        let left_here : left t did.deed ≡ after n t (row_call (get_or rows i [])) =
        ap (λ (u : Did). left t u.deed) d ∙ left_after n t (row_call (get_or rows i [])) in
        rw (left_here, add-one) (rw (drop-cons rows i [] h) at w)

    pub walked_all : Walked t i → length rows ≤ i → t ≡ reached n (calls_of rows)
    unfolding run
    walked_all w h = rw (drop_of_length-le rows h) at w
