-- Upstream's state over a list of calls from fresh: the table reached, and the numbers reserved. Each call is one step of it, and
-- well_formed holds of every one: the table passes the check (model's `good-reached`), the numbers are in order (its
-- `reserved-in-order`) and have every taken txid (its `taken-reserved`).
use Prim.Native.Nat.{ℕ}
use mathlib.Core.Path.{◌≡◌, sym, ap, ◌∙◌}
use mathlib.Core.Logic.{◌≢◌}
use mathlib.Core.Bool.{true}
use mathlib.Core.List.{List, [], ◌∷◌, ◌++◌, append_assoc, append-nil}
use Rattle.listed.specs.Listed.{listed}
use Rattle.listed.proofs.Listed.{listed_place}
use Rattle.model.specs.declared.Table.{Table}
use Rattle.model.specs.Tables.{fresh_table, clock_of}
use Rattle.model.specs.Calls.{Call, refusal, after}
use Rattle.model.specs.History.{reached}
use Rattle.model.specs.Reservations.{reserves_by, reservations}
use Rattle.model.proofs.History.{run_snoc}
use Rattle.model.proofs.Facts.{good-reached}
use Rattle.model.proofs.BelowTop.{below_reached}
use Rattle.model.proofs.Reservations.{InOrder, reserved_in_order, order_place, order_places, reservations_snoc}
use Rattle.model.proofs.Taken.{taken-reserved}
use Rattle.upstream.specs.States.{State, at, push, pushes, state_of, state_after}
use Rattle.upstream.specs.Relations.{Contains, WellFormed, Sound, TxidsBelowTop}
use Rattle.upstream.proofs.Pairs.{slots_of, txid-at}
use Rattle.upstream.proofs.Yes.{from-good}

-- a history, as upstream has it
abbrev pub state_reached : ℕ → List Call → State
state_reached n cs = state_of (reached n cs) (reservations n cs)

pushes-append : (history ids : List ℕ) → pushes history ids ≡ history ++ ids
pushes-append history [] = sym (append-nil history)
pushes-append history (id ∷ ids) = pushes-append (push history id) ids ∙ append_assoc history (id ∷ []) ids

-- one more call is one step of the state
pub state_steps :
    (n : ℕ) (cs : List Call) (c : Call) →
    state_after n (reached n cs) (reservations n cs) c ≡ state_reached n (cs ++ c ∷ [])
state_steps n cs c =
    ap (λ (l : List ℕ). state_of (after n (reached n cs) c) l)
    (pushes-append (reservations n cs) (reserves_by (refusal n (reached n cs) c) c) ∙ sym (reservations_snoc n cs c))
    ∙ ap (λ (t : Table). state_of t (reservations n (cs ++ c ∷ []))) (sym (run_snoc n (fresh_table n) cs c))

-- who is listed stands at some place
listed_contains : (x : ℕ) (ids : List ℕ) → listed x ids ≡ true → Contains ids x
listed_contains x ids e =
    let (i, h, p) = listed_place x ids e in
    record { place = i; inside = h; there = p }

pub sound_from-fresh : (n : ℕ) (cs : List Call) → Sound n (reached n cs)
sound_from-fresh n cs = from-good n (reached n cs) (good-reached n cs)

pub from-fresh : (n : ℕ) (cs : List Call) → WellFormed n (state_reached n cs)
from-fresh n cs =
    record {
      table = (sound_from-fresh n cs).table;
      history =
          record {
            ordered = λ i j l h. order_places _ (reservations n cs) _ i j order l h;
            positive = λ i h. (order_place _ (reservations n cs) _ i order h).1;
            below = λ i h. (order_place _ (reservations n cs) _ i order h).2;
            registered = registered;
          };
    }
  where
    order : InOrder (clock_of (fresh_table n)) (reservations n cs) (clock_of (reached n cs))
    order = reserved_in_order n (fresh_table n) cs

    registered :
        (i : ℕ) → (at (slots_of (reached n cs)) i).txid ≢ 0 → Contains (reservations n cs) (at (slots_of (reached n cs)) i).txid
    registered i z =
        let e = txid-at n (reached n cs) (sound_from-fresh n cs).shape i in
        rw e (listed_contains _ (reservations n cs) (taken-reserved n cs i (λ q. z (e ∙ q))))

pub below_from-fresh : (n : ℕ) (cs : List Call) → TxidsBelowTop (state_reached n cs)
below_from-fresh n cs i = rw (txid-at n (reached n cs) (sound_from-fresh n cs).shape i) (below_reached n cs i)
