-- What a scan has found in some slots and where it put their ids; and so in the slots after them.
use mathlib.Core.Path.{◌≡◌, refl, ◌∙◌, sym, ap}
use mathlib.Core.Bool.{true}
use mathlib.Core.List.{List, [], ◌∷◌, ◌++◌}
use Prim.Native.Nat.{ℕ, suc, ◌+◌, ◌-◌, ◌≤◌, min, max}
use native.Mathlib.Nat.{zero-add}
use native.Mathlib.Omega.{arith}
use lib.ListN.{length, take, set, replicate, length-take, length-append, length-replicate, replicate-append-replicate}
use lib.Seq.{sets, sets-eq, drop_at}
use lib.Dec.{eqb}
use borrow.Author.Tests.{eq-eqb, ne_eqb}
use Rattle.std.specs.List.{list_all}
use Rattle.std.proofs.Common.{add-zero, add_assoc}
use Rattle.kinds.specs.Kinds.{saturating_next}
use Rattle.settled.specs.declared.Snapshot.{Snapshot}
use Rattle.model.specs.Tally.{active, minimum, maximum, places, snapshot_of}
use Rattle.model.proofs.Tally.{active-length}
use Rattle.taken_scans.proofs.Slots.{minimum-append, maximum-append, active-append, active_none}
use Rattle.taken_scans.specs.declared.snapshot.Found.{Found}
use Rattle.taken_scans.specs.declared.snapshot.Taken.{Taken}
use Rattle.taken_scans.specs.Found.{found_in}
use Rattle.taken_scans.specs.Taken.{taken_of}

sets-append : (l : List ℕ) (i : ℕ) (xs ys : List ℕ) → sets l i (xs ++ ys) ≡ sets (sets l i xs) (i + length xs) ys
sets-append l i [] ys = rw add-zero refl
sets-append l i (x ∷ xs) ys =
    let next : i + length (x ∷ xs) ≡ suc i + length xs = omega arith in
    rw next (sets-append (set l i x) (suc i) xs ys)

-- these slots were read: before, this was found and the run was `start`; now that is found, and the run is `ids`
pub record Gathered (before : Found) (start slots : List ℕ) (found : Found) (ids : List ℕ) : Type 0 where
  pub value : found ≡ found_in slots before
  pub filled : ids ≡ sets start before.count (active slots)

module _ {before : Found} {start : List ℕ} where
  -- slots that are all empty
  pub gathered_none : (slots : List ℕ) → list_all (λ y. eqb y 0) slots ≡ true → Gathered before start slots before start
  unfolding minimum maximum
  gathered_none slots e =
      record { value = rw (active_none slots e, add-zero) refl; filled = rw (active_none slots e) refl }

  pub gathered_empty : (x : ℕ) → x ≡ 0 → Gathered before start (x ∷ []) before start
  gathered_empty x e = gathered_none (x ∷ []) (rw (eq-eqb x 0 e))

  -- one taken slot
  pub gathered_one :
      {low high : ℕ} (x : ℕ) → (x ≡ 0 → ⊥) → low ≡ min before.low x → high ≡ max before.high x →
      Gathered before start (x ∷ []) (record { count = before.count + 1; low = low; high = high }) (set start before.count x)
  unfolding active minimum maximum
  gathered_one x e l h = record { value = rw (ne_eqb x 0 e, l, h); filled = rw (ne_eqb x 0 e) }

  -- some slots, then the slots after them
  pub gathered_then :
      {xs ys ids ids' : List ℕ} {found found' : Found} →
      Gathered before start xs found ids → Gathered found ids ys found' ids' → Gathered before start (xs ++ ys) found' ids'
  gathered_then {xs} {ys} s t =
      record {
        value =
            t.value
            ∙ rw (
              s.value,
              active-append xs ys,
              minimum-append before.low (active xs) (active ys),
              maximum-append before.high (active xs) (active ys),
              length-append (active xs) (active ys),
              add_assoc,
            );
        filled =
            t.filled
            ∙ rw (s.filled, s.value, active-append xs ys) (sym (sets-append start before.count (active xs) (active ys)));
      }

  -- there is room for the slots after them
  pub gathered_room :
      {xs ids : List ℕ} {found : Found} → Gathered before start xs found ids → (ys zs : List ℕ) (size : ℕ) → zs ≡ xs ++ ys →
      before.count + length zs ≤ size → found.count + length ys ≤ size
  gathered_room {xs} s ys zs size e h =
      omega (arith, h, ap length e, length-append xs ys, active-length xs, ap (λ (f : Found). f.count) s.value)

-- all slots are read
module _
    {sample : ℕ} {start slots ids : List ℕ} {found : Found}
    (s : Gathered (record { count = 0; low = sample; high = 0 }) start slots found ids)
  where
    pub gathered_nothing :
        found.count ≡ 0 → ◌≡◌ {A = Taken} (record { xmin = found.low; xmax = sample; count = found.count }) (taken_of slots sample)
    unfolding taken_of
    gathered_nothing e =
        let count : found.count ≡ length (active slots) = ap (λ (f : Found). f.count) s.value ∙ zero-add (length (active slots)) in
        let low : found.low ≡ minimum sample (active slots) = ap (λ (f : Found). f.low) s.value in
        rw (← count, ← low, eq-eqb found.count 0 e)

    pub gathered_some :
        {xmax : ℕ} → (found.count ≡ 0 → ⊥) → xmax ≡ max sample (saturating_next found.high) →
        ◌≡◌ {A = Taken} (record { xmin = found.low; xmax = xmax; count = found.count }) (taken_of slots sample)
    unfolding taken_of
    gathered_some e m =
        let count : found.count ≡ length (active slots) = ap (λ (f : Found). f.count) s.value ∙ zero-add (length (active slots)) in
        let low : found.low ≡ minimum sample (active slots) = ap (λ (f : Found). f.low) s.value in
        let high : found.high ≡ maximum 0 (active slots) = ap (λ (f : Found). f.high) s.value in
        rw (← count, ← low, ← high, ne_eqb found.count 0 e, m)

-- the places that a scan has filled, where it began with n zeros
places_are : (n : ℕ) (ids : List ℕ) → length ids ≤ n → sets (replicate n 0) 0 ids ≡ places n ids
places_are n ids h =
    let zero : ℕ = 0 in
    let rest : ℕ = n - length ids in
    let whole : length ids + rest ≡ n = omega arith in
    let split : replicate (length ids) zero ++ replicate rest zero ≡ replicate n zero =
    rw whole at (replicate-append-replicate (length ids) rest zero) in
    sets-eq ids (replicate n zero) 0 (omega (arith, length-replicate n zero))
    ∙ rw (zero-add (length ids), ← split)
    (ap (λ (l : List ℕ). ids ++ l)
    (drop_at (replicate (length ids) zero) (replicate rest zero) (length ids) (length-replicate (length ids) zero)))

-- what was taken into n zeros is the snapshot's
pub taken-shown :
    (n : ℕ) (txids : List ℕ) (sample : ℕ) {start ids : List ℕ} {t : Taken} → start ≡ replicate n 0 →
    t ≡ taken_of (take (length start) txids) sample → ids ≡ sets start 0 (active (take (length start) txids)) →
    ◌≡◌ {A = Snapshot} (record { xmin = t.xmin; xmax = t.xmax; ids = ids; count = t.count }) (snapshot_of n (take n txids) sample)
unfolding taken_of snapshot_of
taken-shown n txids sample {start} {ids} z t e =
    let zero : ℕ = 0 in
    let size : length start ≡ n = ap length z ∙ length-replicate n zero in
    let few : length (active (take n txids)) ≤ n = omega (arith, active-length (take n txids), length-take n txids) in
    let shown : ids ≡ places n (active (take n txids)) = rw size at e ∙ rw z (places_are n (active (take n txids)) few) in
    rw (t, shown, size)
