-- Upstream's history with one more number at its end. What well_formed says of it is kept by what one of our calls reserves
-- (model's `Step`): nothing, or one number from the clock on, which the clock then passes.
use Prim.Native.Nat.{ℕ, ◌+◌, ◌<◌, ◌≤◌}
use mathlib.Core.Path.{◌≡◌, refl, ◌∙◌}
use mathlib.Core.Logic.{◌≢◌}
use mathlib.Core.List.{List, [], ◌∷◌}
use native.Mathlib.Nat.{le_trans}
use native.Mathlib.Decide.{dec_lt}
use native.Mathlib.Omega.{arith}
use lib.ListN.{length, get_or, length-append, get_or-append}
use Rattle.model.proofs.Reservations.{Step, nothing, one}
use Rattle.upstream.specs.States.{Slot, at, push, pushes}
use Rattle.upstream.specs.Relations.{Contains, HistoryPart}

get_d_last : (l : List ℕ) (x : ℕ) → get_or (push l x) (length l) 0 ≡ x
get_d_last [] x = refl
get_d_last (y ∷ l) x = get_d_last l x

pub length_push : (l : List ℕ) (x : ℕ) → length (push l x) ≡ length l + 1
length_push l x = length-append l (x ∷ [])

-- a place of the longer list is one of the shorter, or the last
data Placed (l : List ℕ) (x i : ℕ) : Type 0 where
  old : i < length l → get_or (push l x) i 0 ≡ get_or l i 0 → Placed l x i
  last : i ≡ length l → get_or (push l x) i 0 ≡ x → Placed l x i

placed : (l : List ℕ) (x i : ℕ) → i < length (push l x) → Placed l x i
placed l x i h = go (dec_lt i (length l))
  where
    go : Dec (i < length l) → Placed l x i
    go (yes b) = old b (get_or-append l (x ∷ []) 0 i b)
    go (no b) =
        let e : i ≡ length l = omega (arith, length_push l x) in
        last e (rw e (get_d_last l x))

contains_old : (l : List ℕ) (x y : ℕ) → Contains l y → Contains (push l x) y
contains_old l x y c =
    record {
      place = c.place;
      inside = omega (arith, length_push l x, c.inside);
      there = get_or-append l (x ∷ []) 0 c.place c.inside ∙ c.there;
    }

pub contains_pushes : (l ids : List ℕ) (y : ℕ) → Contains l y → Contains (pushes l ids) y
contains_pushes l [] y c = c
contains_pushes l (x ∷ ids) y c = contains_pushes (push l x) ids y (contains_old l x y c)

pub contains_last : (l : List ℕ) (x : ℕ) → Contains (push l x) x
contains_last l x = record { place = length l; inside = omega (arith, length_push l x); there = get_d_last l x }

module _ (ss ss' : List Slot) (c c' : ℕ) (l : List ℕ) (p : HistoryPart ss c l) where
  pub history_push :
      (k : ℕ) → 0 < k → c ≤ k → ((i : ℕ) → (at ss' i).txid ≢ 0 → Contains (push l k) (at ss' i).txid) →
      HistoryPart ss' (k + 1) (push l k)
  history_push k z h r =
      record {
        ordered = λ i j b e. rising i j b (placed l k i (le_trans b (le_trans (omega arith) e))) (placed l k j e);
        positive = λ i b. high i (placed l k i b);
        below = λ i b. low i (placed l k i b);
        registered = r;
      }
    where
      rising : (i j : ℕ) → i < j → Placed l k i → Placed l k j → get_or (push l k) i 0 < get_or (push l k) j 0
      rising i j b (old x q) (old y w) = rw (q, w) (p.ordered i j b y)
      rising i j b (old x q) (last y w) = rw (q, w) (le_trans (p.below i x) h)
      rising i j b (last x q) (old y w) = absurd (omega arith)
      rising i j b (last x q) (last y w) = absurd (omega arith)

      high : (i : ℕ) → Placed l k i → 0 < get_or (push l k) i 0
      high i (old x q) = rw q (p.positive i x)
      high i (last x q) = rw q z

      low : (i : ℕ) → Placed l k i → get_or (push l k) i 0 < k + 1
      low i (old x q) = rw q (let g = p.below i x in omega arith)
      low i (last x q) = rw q (omega arith)

  pub history_step :
      (ids : List ℕ) → Step c ids c' → ((i : ℕ) → (at ss' i).txid ≢ 0 → Contains (pushes l ids) (at ss' i).txid) →
      HistoryPart ss' c' (pushes l ids)
  history_step ids (nothing e h) r =
      rw e
      (record {
        ordered = p.ordered;
        positive = p.positive;
        below = λ i b. le_trans (p.below i b) h;
        registered = rw e at r;
      })
  history_step ids (one x e z h q) r = rw (e, q) (history_push x z h (rw e at r))
