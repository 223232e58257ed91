-- A record that some text can express is the record of its row, and a row that is a record is that record's row.
use Prim.Native.Nat.{ℕ, zero, suc, ◌-◌, ◌^◌, ◌≤◌, ◌<◌}
use native.Mathlib.Omega.{arith}
use mathlib.Core.Path.{◌≡◌, refl, sym, ap, ◌∙◌}
use mathlib.Core.List.{List, [], ◌∷◌}
use mathlib.Core.Bool.{Bool, true, false, cond, ◌&&◌, false≢true}
use lib.Dec.{eqb, ltb}
use lib.ListN.{get_or, length}
use borrow.Author.Tests.{eq-eqb, eqb-true, le-ltb, ltb-false}
use Rattle.text.specs.Line.{Within, none, also}
use Rattle.text.specs.FiveLines.{most, most_slot, limit, field_rules}
use Rattle.text.specs.declared.Reads.{Reads}
use Rattle.trace.specs.Op.{reads_of}
use Rattle.trace.specs.Record.{Expressible}
use Rattle.trace.specs.declared.Op.{Op}
use Rattle.trace.specs.declared.Record.{Record}
use Rattle.op_numbers.specs.Numbers.{op_number, op_numbered}
use Rattle.record_rows.specs.Rows.{row_of, may_be, allowed_by, of_op, on_numbered, record_row}
use Rattle.op_numbers.specs.OpNumbered.{OpNumbered}
use Rattle.op_numbers.specs.OpNumbered as numbered
use Rattle.record_rows.specs.RowIs as row
use Rattle.op_numbers.proofs.OpNumbers.{op_of_number, number_of_op}

-- a number within its limit may stand there
within_may : (b : Bool) (m n : ℕ) → n ≤ limit b m → may_be b n ≡ true
unfolding limit may_be
within_may true m n h = refl
within_may false m n h = eq-eqb n 0 (omega arith)

-- and one that may stand there, and is not above m, is within the limit
may_within : (b : Bool) (m n : ℕ) → may_be b n ≡ true → n ≤ m → n ≤ limit b m
unfolding limit may_be
may_within true m n h l = l
may_within false m n h l = omega (arith, eqb-true n 0 h)

limit-most : (b : Bool) (m n : ℕ) → n ≤ limit b m → n ≤ m
unfolding limit
limit-most true m n h = h
limit-most false m n h = omega arith

-- the record of the row of a record that some text can express
pub record_of_row : (r : Record) → Expressible r → record_row (row_of r) ≡ row.Record r
unfolding record_row of_op allowed_by field_rules
record_of_row r (also a _ (also b _ (also c _ (also d _ (also e _ none))))) =
    let reads = reads_of r.op in
    rw (
      op_of_number r.op,
      le-ltb most_slot r.slot (limit-most reads.slot most_slot r.slot a),
      within_may reads.slot most_slot r.slot a,
      within_may reads.id most r.id b,
      within_may reads.fourth most r.stamp c,
      within_may reads.clock most r.clock d,
      within_may reads.clock most r.sample e,
    )

-- a row of machine numbers that is a record: the record's row, and some text can express it
pub record RowOf (xs : List ℕ) (r : Record) : Type 0 where
  pub row : row_of r ≡ xs
  pub expressible : Expressible r

-- six machine numbers
pub record Machine (xs : List ℕ) : Type 0 where
  pub six : length xs ≡ 6
  pub small : (i : ℕ) → get_or xs i 0 < 2 ^ 64

both : (a b : Bool) → (a && b) ≡ true → (a ≡ true) × (b ≡ true)
both true b h = (refl, h)
both false b h = absurd (false≢true h)

no_record : (r : Record)
    → (row.SlotTooLarge ≡ row.Record r → ⊥) × (row.UnreadNumber ≡ row.Record r → ⊥) × (row.UnknownOp ≡ row.Record r → ⊥)
no_record r = (
  λ h. let z : ◌≡◌ {A = ℕ} 0 1 = cc in omega arith,
  λ h. let z : ◌≡◌ {A = ℕ} 0 1 = cc in omega arith,
  λ h. let z : ◌≡◌ {A = ℕ} 0 1 = cc in omega arith,
)

-- six numbers, by their places
six_places : (xs : List ℕ) → length xs ≡ 6
    → xs ≡ get_or xs 0 0 ∷ get_or xs 1 0 ∷ get_or xs 2 0 ∷ get_or xs 3 0 ∷ get_or xs 4 0 ∷ get_or xs 5 0 ∷ []
six_places [] h = absurd (omega arith)
six_places (a ∷ []) h = absurd (omega arith)
six_places (a ∷ b ∷ []) h = absurd (omega arith)
six_places (a ∷ b ∷ c ∷ []) h = absurd (omega arith)
six_places (a ∷ b ∷ c ∷ d ∷ []) h = absurd (omega arith)
six_places (a ∷ b ∷ c ∷ d ∷ e ∷ []) h = absurd (omega arith)
six_places (a ∷ b ∷ c ∷ d ∷ e ∷ f ∷ []) h = refl
six_places (a ∷ b ∷ c ∷ d ∷ e ∷ f ∷ g ∷ xs) h = absurd (omega arith)

-- numbers that may stand in their fields are within the limits
may_fit : (o : Op) (a b c d e : ℕ) → a ≤ most_slot → b < 2 ^ 64 → c < 2 ^ 64 → d < 2 ^ 64 → e < 2 ^ 64
    → allowed_by (reads_of o) a b c d e ≡ true → Expressible (record { op = o; slot = a; id = b; stamp = c; clock = d; sample = e })
unfolding allowed_by field_rules
may_fit o a b c d e la lb lc ld le h =
    let r = reads_of o in
    let s = both (may_be r.slot a) _ h in
    let i = both (may_be r.id b) _ s.1 in
    let f = both (may_be r.fourth c) _ i.1 in
    let t = both (may_be r.clock d) (may_be r.clock e) f.1 in
    also (may_within r.slot most_slot a s.0 la) (omega arith)
    (also (may_within r.id most b i.0 (omega arith)) lb
    (also (may_within r.fourth most c f.0 (omega arith)) lc
    (also (may_within r.clock most d t.0 (omega arith)) ld
    (also (may_within r.clock most e t.1 (omega arith)) le none))))

pub row_of_record : (xs : List ℕ) (r : Record) → Machine xs → record_row xs ≡ row.Record r → RowOf xs r
unfolding record_row of_op
row_of_record xs r m = go (op_numbered (get_or xs 0 0)) refl
  where
    numbers : Op → Record
    numbers o = record { op = o; slot = get_or xs 1 0; id = get_or xs 2 0; stamp = get_or xs 3 0; clock = get_or xs 4 0; sample = get_or xs 5 0 }

    may : Op → Bool
    may o = allowed_by (reads_of o) (get_or xs 1 0) (get_or xs 2 0) (get_or xs 3 0) (get_or xs 4 0) (get_or xs 5 0)

    read : (o : Op) → op_numbered (get_or xs 0 0) ≡ numbered.Is o → get_or xs 1 0 ≤ most_slot → (b : Bool) → may o ≡ b
        → cond b (row.Record (numbers o)) row.UnreadNumber ≡ row.Record r → RowOf xs r
    read o q l false p h = absurd ((no_record r).1 h)
    read o q l true p h =
        let same : numbers o ≡ r = cc in
        let fits = may_fit o _ _ _ _ _ l (m.small 2) (m.small 3) (m.small 4) (m.small 5) p in
        rw (← same) (record { row = rw (number_of_op (get_or xs 0 0) o q) (sym (six_places xs m.six)); expressible = fits })

    slot : (o : Op) → op_numbered (get_or xs 0 0) ≡ numbered.Is o → (b : Bool) → ltb most_slot (get_or xs 1 0) ≡ b
        → cond b row.SlotTooLarge (cond (may o) (row.Record (numbers o)) row.UnreadNumber) ≡ row.Record r → RowOf xs r
    slot o q true p h = absurd ((no_record r).0 h)
    slot o q false p h = read o q (ltb-false most_slot (get_or xs 1 0) p) (may o) refl h

    go : (x : OpNumbered) → op_numbered (get_or xs 0 0) ≡ x
        → on_numbered x (λ o. of_op o (get_or xs 1 0) (get_or xs 2 0) (get_or xs 3 0) (get_or xs 4 0) (get_or xs 5 0)) ≡ row.Record r → RowOf xs r
    go numbered.Unknown q h = absurd ((no_record r).2 h)
    go (numbered.Is o) q h = slot o q (ltb most_slot (get_or xs 1 0)) refl h
