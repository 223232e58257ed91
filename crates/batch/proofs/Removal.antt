-- No version that a batch removes is needed: its ender is not 0 and is below the line (Exactly.antt), so that it is settled in every
-- snapshot of which the promise to vacuum speaks (model/proofs/Promise.antt).
use Prim.Native.Nat.{ℕ, ◌≤◌, ◌<◌}
use native.Mathlib.Omega.{arith}
use native.Mathlib.Nat.{le_trans}
use mathlib.Core.Path.{sym, ◌∙◌}
use mathlib.Core.Logic.{◌≢◌}
use mathlib.Core.Bool.{true≢false}
use mathlib.Core.List.{List, [], ◌∷◌, ◌++◌}
use lib.ListN.{get_or}
use lib.Seq.{append_snoc}
use Rattle.settled.specs.declared.Snapshot.{Snapshot}
use Rattle.model.specs.Calls.{Call, vacuum}
use Rattle.model.specs.Promise.{SettledBelow, line_after, Covered, Gives}
use Rattle.model.proofs.Promise.{promise, vacuum_promise}
use Rattle.batch.specs.Batch.{ender}
use Rattle.batch.specs.Removal.{Removes, NoneNeeded, RemovalPromise}
use Rattle.batch.proofs.Exactly.{goes_exactly, decided_at}

removed_ended :
    (line : ℕ) (versions : List (List ℕ)) (run : List ℕ) (i : ℕ) → Removes line versions run i →
    (ender (get_or versions i []) ≢ 0) × (ender (get_or versions i []) < line)
removed_ended line versions run i r =
    (goes_exactly line (ender (get_or versions i []))).0 (sym (decided_at line versions run i r.decided r.inside) ∙ r.goes)

none_needed : (line : ℕ) (s : Snapshot) → SettledBelow line s → NoneNeeded line s
none_needed line s settles versions run i own r d =
    let (z, l) = removed_ended line versions run i r in
    true≢false (sym (settles (ender (get_or versions i [])) (from-1 _ z) l) ∙ d.not_ended)
  where
    from-1 : (x : ℕ) → x ≢ 0 → 1 ≤ x
    from-1 x z = omega arith

pub removal_promise : (n : ℕ) → RemovalPromise n
removal_promise n =
    record {
      held = λ before after s c.
          none_needed (line_after n before) s
          (λ x h l. (promise n).held (before ++ after) s c x h (le_trans l ((promise n).never_falls before after)));
      later = λ before after c k e. none_needed (line_after n before) _ ((promise n).later before after c k e);
    }

-- so for every line that a vacuum answers, from its call on
pub given_line_safe :
    (n : ℕ) (before after : List Call) (clock sample line : ℕ) → Gives n before clock sample line → (s : Snapshot) →
    Covered n (before ++ vacuum clock sample ∷ after) s → NoneNeeded line s
given_line_safe n before after clock sample line g s c =
    rw ((vacuum_promise n).is-line before clock sample line g)
    ((removal_promise n).held (before ++ vacuum clock sample ∷ []) after s (rw (append_snoc before (vacuum clock sample) after) c))
