-- The five lines of a verdict: their length, and that they stand one after the other where they have room.
use Prim.Native.Nat.{ℕ, ◌+◌, ◌≤◌, ◌<◌}
use native.Mathlib.Omega.{arith}
use mathlib.Core.Path.{◌≡◌, sym, ap, ◌∙◌}
use mathlib.Core.List.{List, ◌++◌}
use lib.ListN.{length, length-append}
use Rattle.kinds.specs.declared.told.Told.{Told}
use Rattle.text.specs.Put.{Put}
use Rattle.text.specs.Decimal.{decimal}
use Rattle.text.specs.Keys.{answer_key, slot_key, id_key, seen_key, at_key}
use Rattle.text.specs.Line.{line_text}
use Rattle.text.specs.Write.{spliced, put_at, written}
use Rattle.text.specs.Placed.{Placed}
use Rattle.text.proofs.Splice.{line-length, room, splice_length}
use Rattle.text.proofs.Placed.{fits-first, fits_next, both_placed, placed_put}
use Rattle.wait_report.specs.Report.{verdict_lines}

pub verdict_length : (t : Told)
    → length (verdict_lines t)
    ≡ 28
    + length (decimal t.number)
    + length (decimal t.slot)
    + length (decimal t.id)
    + length (decimal t.seen)
    + length (decimal t.at)
unfolding verdict_lines
verdict_length t = simp (length-append, line-length) (omega arith)

-- one more text after those that were put
next : (s t : List ℕ) {xs ys zs : List ℕ} {p q : ℕ} → 0 + length (s ++ t) ≤ length xs → Placed xs 0 s ys p
    → (p + length t ≤ length ys → Placed ys p t zs q) → Placed xs 0 (s ++ t) zs q
next s t h a b = both_placed s t h a (b (fits_next s t h a))

module _ (t : Told) where
  abbrev answer : List ℕ
  answer = line_text answer_key t.number

  abbrev slot : List ℕ
  slot = line_text slot_key t.slot

  abbrev id : List ℕ
  id = line_text id_key t.id

  abbrev seen : List ℕ
  seen = line_text seen_key t.seen

  abbrev at : List ℕ
  at = line_text at_key t.at

  pub verdict_placed : {xs ys zs us vs ws : List ℕ} {p q r k m : ℕ} → 0 + length (verdict_lines t) ≤ length xs
      → (0 + length answer ≤ length xs → Placed xs 0 answer ys p)
      → (p + length slot ≤ length ys → Placed ys p slot zs q)
      → (q + length id ≤ length zs → Placed zs q id us r)
      → (r + length seen ≤ length us → Placed us r seen vs k)
      → (k + length at ≤ length vs → Placed vs k at ws m)
      → Placed xs 0 (verdict_lines t) ws m
  unfolding verdict_lines
  verdict_placed h a b c d e =
      let four-fit = fits-first (answer ++ slot ++ id ++ seen) at 0 h in
      let three-fit = fits-first (answer ++ slot ++ id) seen 0 four-fit in
      let two-fit = fits-first (answer ++ slot) id 0 three-fit in
      let one = a (fits-first answer slot 0 two-fit) in
      let two = next answer slot two-fit one b in
      let three = next (answer ++ slot) id three-fit two c in
      let four = next (answer ++ slot ++ id) seen four-fit three d in
      next (answer ++ slot ++ id ++ seen) at h four e
