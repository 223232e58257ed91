-- Which ids are settled in the snapshot of a registered transaction, and in one whose sample is raised: all below what bounds
-- the taken txids.
use Prim.Native.Nat.{ℕ, ◌≤◌, ◌<◌, max}
use mathlib.Core.Path.{◌≡◌, refl, sym, ◌∙◌}
use mathlib.Core.Logic.{◌≢◌}
use mathlib.Core.Bool.{Bool, true, false, cond}
use mathlib.Core.List.{List}
use native.Mathlib.Nat.{le_refl}
use native.Mathlib.Omega.{arith}
use lib.Dec.{eqb}
use lib.ListN.{length, get_or}
use borrow.Author.Tests.{lt-ltb, ne_eqb}
use Rattle.kinds.specs.Kinds.{top, saturating_next}
use Rattle.settled.specs.declared.Snapshot.{Snapshot}
use Rattle.listed.specs.Listed.{listed}
use Rattle.settled.specs.Settled.{settled_in}
use Rattle.listed.proofs.Listed.{listed_place}
use Rattle.model.specs.Tally.{active, maximum, xmax_of, snapshot_of}
use Rattle.model.proofs.Tally.{maximum_member, taken-active, active-taken, used_places}

-- the settled test's definition, of a whole snapshot
abbrev pub Settles : Snapshot → ℕ → Type 0
Settles s x = settled_in s.xmax s.ids s.count x ≡ true

-- every listed id below 2^64 − 1 is below xmax
pub listed_below_xmax : (sample : ℕ) (ids : List ℕ) (y : ℕ) → listed y ids ≡ true → y < top → y < xmax_of sample ids
listed_below_xmax sample ids y e h =
    let (i, b, p) = listed_place y ids e in
    rw (ne_eqb (length ids) 0 (λ z. omega arith)) (omega (arith, maximum_member 0 ids y e))

-- an id below every taken txid is not active
pub not_active :
    (txids : List ℕ) (bound x : ℕ) → ((j : ℕ) → get_or txids j 0 ≢ 0 → bound ≤ get_or txids j 0) → x < bound →
    listed x (active txids) ≡ false
not_active txids bound x under l = go (listed x (active txids)) refl
  where
    clash : (i : ℕ) × (get_or txids i 0 ≡ x) × (x ≢ 0) → ⊥
    clash (i, p, q) =
        let k = under i (λ z. q (sym p ∙ z)) in
        omega arith

    go : (b : Bool) → listed x (active txids) ≡ b → listed x (active txids) ≡ false
    go true e = absurd (clash (active-taken txids x e))
    go false e = e

-- the sample is at most xmax
pub sample_to_xmax : (sample : ℕ) (ids : List ℕ) → sample ≤ xmax_of sample ids
sample_to_xmax sample ids = go (eqb (length ids) 0)
  where
    go : (b : Bool) → sample ≤ cond b sample (max sample (saturating_next (maximum 0 ids)))
    go true = le_refl _
    go false = omega arith

-- so of a snapshot whose sample is at least the bound too, registered or not
pub settled_in_pinned :
    (n : ℕ) (txids : List ℕ) (sample bound x : ℕ) → bound ≤ sample →
    ((j : ℕ) → get_or txids j 0 ≢ 0 → bound ≤ get_or txids j 0) → x < bound → Settles (snapshot_of n txids sample) x
unfolding snapshot_of
settled_in_pinned n txids sample bound x h under l =
    rw (
      lt-ltb x (xmax_of sample (active txids)) (omega (arith, sample_to_xmax sample (active txids))),
      used_places n (active txids),
      not_active txids bound x under l,
    )

pub settled_in_own :
    (n : ℕ) (txids : List ℕ) (sample i bound x : ℕ) → get_or txids i 0 ≢ 0 → get_or txids i 0 < top →
    ((j : ℕ) → get_or txids j 0 ≢ 0 → bound ≤ get_or txids j 0) → x < bound → Settles (snapshot_of n txids sample) x
unfolding snapshot_of
settled_in_own n txids sample i bound x h t under l =
    rw (
      lt-ltb x (xmax_of sample (active txids)) below,
      used_places n (active txids),
      not_active txids bound x under l,
    )
  where
    below : x < xmax_of sample (active txids)
    below = omega (arith, under i h, listed_below_xmax sample (active txids) (get_or txids i 0) (taken-active txids i h) t)
