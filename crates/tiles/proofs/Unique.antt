-- At most one answer fits what `used` promises: the refusal is determined, or the bytes and where they lie; so at most one
-- part what `used_part` promises, and one number what `used_refusal` promises.
use Prim.Native.Nat.{ℕ}
use mathlib.Core.Path.{◌≡◌, sym, ap, ◌∙◌}
use Rattle.kinds.specs.declared.Txid.{Txid}
use Rattle.settled.specs.declared.Snapshot.{Snapshot}
use Rattle.std.specs.Prelude.{Result}
use Rattle.kinds.specs.declared.refusal.Refusal.{Refusal}
use Rattle.tiles.specs.Tiles.{Bytes, Part, PartFits, NumberFits, UsedFits, seen_as}

pub used_unique :
    (n : ℕ) (shown : Snapshot) (own maker : Txid) (older : Bytes) (olderUsed : ℕ) (newer : Bytes) (newerUsed : ℕ)
    (r s : Result Bytes Refusal) →
    UsedFits n shown own maker older olderUsed newer newerUsed r → UsedFits n shown own maker older olderUsed newer newerUsed s →
    seen_as r ≡ seen_as s
used_unique n shown own maker older olderUsed newer newerUsed r s p q = p ∙ sym q

pub part_unique :
    (n : ℕ) (shown : Snapshot) (own maker : Txid) (older : Bytes) (olderUsed : ℕ) (newer : Bytes) (newerUsed : ℕ) (r s : Bytes) →
    PartFits n shown own maker older olderUsed newer newerUsed r → PartFits n shown own maker older olderUsed newer newerUsed s →
    (r.now ≡ s.now) × (r.ref_ptr ≡ s.ref_ptr)
part_unique n shown own maker older olderUsed newer newerUsed r s p q =
    (ap (λ (x : Part). x.bytes) (p ∙ sym q), ap (λ (x : Part). x.start) (p ∙ sym q))

pub number_unique :
    (n : ℕ) (shown : Snapshot) (own maker : Txid) (older : Bytes) (olderUsed : ℕ) (newer : Bytes) (newerUsed : ℕ) (r s : ℕ) →
    NumberFits n shown own maker older olderUsed newer newerUsed r →
    NumberFits n shown own maker older olderUsed newer newerUsed s → r ≡ s
number_unique n shown own maker older olderUsed newer newerUsed r s p q = p ∙ sym q
