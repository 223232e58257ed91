-- The computed table check says yes exactly where its named facts hold. So fresh passes, and every call keeps a yes.
use Prim.Native.Nat.{ℕ, zero, suc}
use mathlib.Core.Path.{◌≡◌, refl, sym, ◌∙◌, ap}
use mathlib.Core.Logic.{◌≢◌, ◌↔◌}
use mathlib.Core.List.{List, [], ◌∷◌}
use mathlib.Core.Bool.{Bool, true, false, ◌||◌, not, true≢false, false≢true, and-eq-true_iff, or-true}
use native.Mathlib.Nat.{suc-ne-zero, suc_inj}
use native.Mathlib.Omega.{arith}
use lib.Dec.{ltb, leb, eqb}
use lib.ListN.{length, get_or}
use borrow.Author.Tests.{ltb-true, leb-true, eqb-true, eqb-false, lt-ltb, le-leb, eq-eqb, ne_eqb, not-true}
use Rattle.kinds.specs.Kinds.{pin_count}
use Rattle.listed.specs.Listed.{listed}
use Rattle.listed.proofs.Listed.{place_listed, listed_place}
use Rattle.model.specs.declared.Table.{Table}
use Rattle.model.specs.Tables.{fresh_table, clock_of, sample_of, line_of}
use Rattle.model.specs.Calls.{Call, after}
use Rattle.model.specs.Check.{slot_passes, slots_pass, differ, pin_passes, pins_pass, pin_column_passes, numbers_pass, passes}
use Rattle.model.specs.Check.{table_passes}
use Rattle.model.specs.Facts.{SlotGood, empty, taken, PinGood, pin_free, pin_held, Good}
use Rattle.model.specs.History.{reached}
use Rattle.model.proofs.Places.{inside_of_ne}
use Rattle.model.proofs.Moves.{equally_long, good-fresh}
use Rattle.model.proofs.Facts.{good-after, good-reached}

-- one slot
slot_to : (clock line txid xmin : ℕ) → slot_passes clock line txid xmin ≡ true → SlotGood clock line txid xmin
slot_to clock line txid xmin e = go (eqb txid 0) refl
  where
    go : (b : Bool) → eqb txid 0 ≡ b → SlotGood clock line txid xmin
    go true q = empty (eqb-true _ _ q) (eqb-true _ _ (rw q at e))
    go false q =
        let (h₁, r₁) = (and-eq-true_iff (leb 1 xmin) _).0 (rw q at e) in
        let (h₂, r₂) = (and-eq-true_iff (leb xmin txid) _).0 r₁ in
        let (h₃, h₄) = (and-eq-true_iff (ltb txid clock) (leb line txid)).0 r₂ in
        taken (leb-true 1 xmin h₁) (leb-true xmin txid h₂) (ltb-true txid clock h₃) (leb-true line txid h₄)

slot-from : (clock line txid xmin : ℕ) → SlotGood clock line txid xmin → slot_passes clock line txid xmin ≡ true
slot-from clock line txid xmin (empty a b) = rw (eq-eqb txid 0 a, eq-eqb xmin 0 b)
slot-from clock line txid xmin (taken a b c d) =
    rw (ne_eqb txid 0 (λ z. omega arith), le-leb 1 xmin a, le-leb xmin txid b, lt-ltb txid clock c, le-leb line txid d)

-- both columns, place by place
abbrev Each : ℕ → ℕ → List ℕ → List ℕ → Type 0
Each clock line txids xmins = (i : ℕ) → SlotGood clock line (get_or txids i 0) (get_or xmins i 0)

slots_to :
    (clock line : ℕ) (txids xmins : List ℕ) → slots_pass clock line txids xmins ≡ true →
    (length txids ≡ length xmins) × Each clock line txids xmins
unfolding slots_pass
slots_to clock line [] [] e = (refl, λ i. empty (nothing i) (nothing i))
  where
    nothing : (i : ℕ) → ◌≡◌ {A = ℕ} (get_or [] i 0) 0
    nothing zero = refl
    nothing (suc i) = refl
slots_to clock line [] (m ∷ ms) e = absurd (false≢true e)
slots_to clock line (x ∷ xs) [] e = absurd (false≢true e)
slots_to clock line (x ∷ xs) (m ∷ ms) e =
    let (a, b) = (and-eq-true_iff (slot_passes clock line x m) (slots_pass clock line xs ms)).0 e in
    let (l, f) = slots_to clock line xs ms b in
    (ap suc l, each a f)
  where
    each : slot_passes clock line x m ≡ true → Each clock line xs ms → Each clock line (x ∷ xs) (m ∷ ms)
    each a f zero = slot_to clock line x m a
    each a f (suc i) = f i

slots_from :
    (clock line : ℕ) (txids xmins : List ℕ) → length txids ≡ length xmins → Each clock line txids xmins →
    slots_pass clock line txids xmins ≡ true
unfolding slots_pass
slots_from clock line [] [] l f = refl
slots_from clock line [] (m ∷ ms) l f = absurd (suc-ne-zero _ (sym l))
slots_from clock line (x ∷ xs) [] l f = absurd (suc-ne-zero _ l)
slots_from clock line (x ∷ xs) (m ∷ ms) l f =
    (and-eq-true_iff (slot_passes clock line x m) (slots_pass clock line xs ms)).1
    (slot-from clock line x m (f 0), slots_from clock line xs ms (suc_inj l) (λ i. f (suc i)))

-- taken txids differ
abbrev Differ : List ℕ → Type 0
Differ txids = (i j : ℕ) → get_or txids i 0 ≢ 0 → get_or txids i 0 ≡ get_or txids j 0 → i ≡ j

first_differs :
    (x : ℕ) (xs : List ℕ) (i : ℕ) → (eqb x 0 || not (listed x xs)) ≡ true → x ≢ 0 → get_or xs i 0 ≡ x → ⊥
first_differs x xs i e h q =
    let absent : listed x xs ≡ false = not-true (listed x xs) (rw (ne_eqb x 0 h) at e) in
    true≢false (sym (place_listed x xs i (inside_of_ne xs i (λ z. h (sym q ∙ z))) q) ∙ absent)

differ_to : (txids : List ℕ) → differ txids ≡ true → Differ txids
unfolding differ
differ_to [] e zero j h q = absurd (h refl)
differ_to [] e (suc i) j h q = absurd (h refl)
differ_to (x ∷ xs) e zero zero h q = refl
differ_to (x ∷ xs) e zero (suc j) h q =
    absurd (first_differs x xs j ((and-eq-true_iff (eqb x 0 || not (listed x xs)) (differ xs)).0 e).0 h (sym q))
differ_to (x ∷ xs) e (suc i) zero h q =
    absurd (first_differs x xs i ((and-eq-true_iff (eqb x 0 || not (listed x xs)) (differ xs)).0 e).0 (λ z. h (q ∙ z)) q)
differ_to (x ∷ xs) e (suc i) (suc j) h q =
    ap suc (differ_to xs ((and-eq-true_iff (eqb x 0 || not (listed x xs)) (differ xs)).0 e).1 i j h q)

differ-from : (txids : List ℕ) → Differ txids → differ txids ≡ true
unfolding differ
differ-from [] d = refl
differ-from (x ∷ xs) d =
    (and-eq-true_iff (eqb x 0 || not (listed x xs)) (differ xs)).1
    (first (eqb x 0) refl (listed x xs) refl, differ-from xs (λ i j h q. suc_inj (d (suc i) (suc j) h q)))
  where
    first : (b : Bool) → eqb x 0 ≡ b → (l : Bool) → listed x xs ≡ l → (b || not l) ≡ true
    first true e l p = refl
    first false e false p = refl
    first false e true p =
        let (i, b, q) = listed_place x xs p in
        absurd (suc-ne-zero i (d (suc i) 0 (λ z. eqb-false x 0 e (sym q ∙ z)) q))

-- one pin
pin_to : (clock line xmin : ℕ) → pin_passes clock line xmin ≡ true → PinGood clock line xmin
pin_to clock line xmin e = go (eqb xmin 0) refl
  where
    go : (b : Bool) → eqb xmin 0 ≡ b → PinGood clock line xmin
    go true q = pin_free (eqb-true xmin 0 q)
    go false q =
        let (a, b) = (and-eq-true_iff (leb line xmin) (leb xmin clock)).0 (rw q at e) in
        pin_held (leb-true line xmin a) (leb-true xmin clock b)

pin-from : (clock line xmin : ℕ) → PinGood clock line xmin → pin_passes clock line xmin ≡ true
pin-from clock line xmin (pin_free a) = rw (eq-eqb xmin 0 a)
pin-from clock line xmin (pin_held a b) = rw (le-leb line xmin a, le-leb xmin clock b) (or-true (eqb xmin 0))

-- the column of pins, place by place
abbrev EachPin : ℕ → ℕ → List ℕ → Type 0
EachPin clock line pins = (k : ℕ) → PinGood clock line (get_or pins k 0)

pins_to : (clock line : ℕ) (pins : List ℕ) → pins_pass clock line pins ≡ true → EachPin clock line pins
unfolding pins_pass
pins_to clock line [] e zero = pin_free refl
pins_to clock line [] e (suc k) = pin_free refl
pins_to clock line (x ∷ xs) e zero = pin_to clock line x ((and-eq-true_iff (pin_passes clock line x) (pins_pass clock line xs)).0 e).0
pins_to clock line (x ∷ xs) e (suc k) =
    pins_to clock line xs ((and-eq-true_iff (pin_passes clock line x) (pins_pass clock line xs)).0 e).1 k

pins-from : (clock line : ℕ) (pins : List ℕ) → EachPin clock line pins → pins_pass clock line pins ≡ true
unfolding pins_pass
pins-from clock line [] f = refl
pins-from clock line (x ∷ xs) f =
    (and-eq-true_iff (pin_passes clock line x) (pins_pass clock line xs)).1
    (pin-from clock line x (f 0), pins-from clock line xs (λ k. f (suc k)))

-- the whole check
pub passes-good : (n : ℕ) (t : Table) → table_passes n t ≡ true → Good n t
unfolding passes
passes-good n t e =
    let (a, b) = (and-eq-true_iff (numbers_pass n (length t.txids) (clock_of t) (sample_of t) (line_of t)) _).0 e in
    let (s, b₁) = (and-eq-true_iff (slots_pass (clock_of t) (line_of t) t.txids t.snapshot_xmins) _).0 b in
    let (d, b₂) = (and-eq-true_iff (differ t.txids) (pin_column_passes (clock_of t) (line_of t) t.pins)).0 b₁ in
    let (p₁, p₂) = (and-eq-true_iff (eqb (length t.pins) pin_count) (pins_pass (clock_of t) (line_of t) t.pins)).0 b₂ in
    let (a₁, r₁) = (and-eq-true_iff (eqb (length t.txids) n) _).0 a in
    let (a₂, r₂) = (and-eq-true_iff (leb 1 (sample_of t)) _).0 r₁ in
    let (a₃, r₃) = (and-eq-true_iff (leb (sample_of t) (clock_of t)) _).0 r₂ in
    let (a₄, a₅) = (and-eq-true_iff (leb 1 (line_of t)) (leb (line_of t) (clock_of t))).0 r₃ in
    let (l, f) = slots_to (clock_of t) (line_of t) t.txids t.snapshot_xmins s in
    record {
      txid_column = eqb-true _ _ a₁;
      xmin_column = sym l ∙ eqb-true _ _ a₁;
      pin_column = eqb-true _ _ p₁;
      sample_from_1 = leb-true _ _ a₂;
      sample_to_clock = leb-true _ _ a₃;
      line_from_1 = leb-true _ _ a₄;
      line_to_clock = leb-true _ _ a₅;
      each = f;
      each_pin = pins_to (clock_of t) (line_of t) t.pins p₂;
      differ = differ_to t.txids d;
    }

pub good-passes : (n : ℕ) (t : Table) → Good n t → table_passes n t ≡ true
unfolding passes
good-passes n t g =
    rw (
      eq-eqb (length t.txids) n g.txid_column,
      le-leb 1 (sample_of t) g.sample_from_1,
      le-leb (sample_of t) (clock_of t) g.sample_to_clock,
      le-leb 1 (line_of t) g.line_from_1,
      le-leb (line_of t) (clock_of t) g.line_to_clock,
      slots_from (clock_of t) (line_of t) t.txids t.snapshot_xmins (equally_long n t g) g.each,
      differ-from t.txids g.differ,
      eq-eqb (length t.pins) pin_count g.pin_column,
      pins-from (clock_of t) (line_of t) t.pins g.each_pin,
    )

pub passes_exactly : (n : ℕ) (t : Table) → (table_passes n t ≡ true) ↔ Good n t
passes_exactly n t = (passes-good n t, good-passes n t)

pub fresh-passes : (n : ℕ) → table_passes n (fresh_table n) ≡ true
fresh-passes n = good-passes n (fresh_table n) (good-fresh n)

-- accepted or refused, on any arguments
pub call_keeps_yes : (n : ℕ) (t : Table) (c : Call) → table_passes n t ≡ true → table_passes n (after n t c) ≡ true
call_keeps_yes n t c e = good-passes n (after n t c) (good-after n t c (passes-good n t e))

pub reached-passes : (n : ℕ) (cs : List Call) → table_passes n (reached n cs) ≡ true
reached-passes n cs = good-passes n (reached n cs) (good-reached n cs)
