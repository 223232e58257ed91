-- Our calls are upstream's events (I:775-806): an accepted begin, end or transaction snapshot is one step of its `wait_step`, on any
-- table whose columns have one place a slot. By our own rules a transaction snapshot is two events (wait's `own-told`).
use Prim.Native.Nat.{ℕ, ◌≤◌}
use native.Mathlib.Omega.{arith}
use mathlib.Core.Path.{refl, sym, ap, ◌∙◌}
use mathlib.Core.Logic.{◌≢◌}
use mathlib.Core.List.{List}
use lib.ListN.{set}
use Rattle.kinds.specs.declared.Stamp.{Stamp}
use Rattle.kinds.specs.declared.SlotNo.{SlotNo}
use Rattle.kinds.specs.declared.Txid.{Txid}
use Rattle.model.specs.declared.Table.{Table}
use Rattle.model.specs.Tally.{active, xmin_of, snapshot_of, lowest_empty}
use Rattle.model.specs.Tables.{txid_at}
use Rattle.model.specs.Answers.{tells_of}
use Rattle.model.specs.Calls.{begin, end, own, change_accepted, change_of, after, answer_accepted, answer, shown_accepted, shown}
use Rattle.model.specs.History.{Accepts}
use Rattle.model.proofs.Tally.{lowest_empty_lem, minimum_member, minimum_bound, taken-active, active-taken}
use Rattle.model.proofs.Tests.{free_lowest}
use Rattle.model.proofs.Accepted.{accepted_acceptable}
use Rattle.model.proofs.Transactions.{registered_taken}
use Rattle.upstream.specs.States.{slot, state_of, state_after, Shaped}
use Rattle.upstream.proofs.Pairs.{pairs_set, pairs-set_xmin, slots_of, slots_length, txid-at}
use Rattle.interference.specs.Interference.{Register, End, Horizon, WaitStep}

module _ (n : ℕ) (t : Table) (h : List ℕ) (s : Shaped n t) where
  pub native_begin : (k : Stamp) → Accepts n t (begin k)
      → WaitStep (state_of t h) (state_after n t h (begin k))
      (Register (tells_of (answer n t (begin k))).slot (tells_of (answer n t (begin k))).id)
  unfolding change_accepted change_of after answer_accepted answer tells_of
  native_begin k a =
      let (r, f) = accepted_acceptable n t (begin k) a in
      let i = lowest_empty t.txids in
      rw a
      (record {
        inside = omega (arith, slots_length n t s, free_lowest n t f);
        empty = txid-at n t s i ∙ lowest_empty_lem t.txids;
        from_clock = r.from_clock;
        below_top = r.below_top;
        slots = pairs_set t.txids t.snapshot_xmins i k.0 k.0;
        clock = refl;
        sample = refl;
        reservations = refl;
      })

  pub native_end : (i : SlotNo) (id : Txid) → Accepts n t (end i id)
      → WaitStep (state_of t h) (state_after n t h (end i id)) (End i.0)
  unfolding change_accepted change_of after
  native_end i id a =
      let w = accepted_acceptable n t (end i id) a in
      rw a
      (record {
        inside = omega (arith, slots_length n t s, w.inside);
        taken = omega (arith, txid-at n t s i.0, registered_taken t i id w.registered);
        slots = pairs_set t.txids t.snapshot_xmins i.0 0 0;
        clock = refl;
        sample = refl;
        reservations = refl;
      })

  pub native_snapshot : (i : SlotNo) (id : Txid) (c m : ℕ) → Accepts n t (own i id c m)
      → WaitStep (state_of t h) (state_after n t h (own i id c m)) (Horizon i.0 (shown n t (own i id c m)).xmin)
  unfolding change_accepted change_of after shown_accepted shown snapshot_of
  native_snapshot i id c m a =
      let (w, o) = accepted_acceptable n t (own i id c m) a in
      let xmin = xmin_of m (active t.txids) in
      let active-here = taken-active t.txids i.0 (registered_taken t i id w.registered) in
      rw a
      (record {
        inside = omega (arith, slots_length n t s, w.inside);
        positive = minimum_bound m (active t.txids) 1 o.positive (λ x e. positive x (active-taken t.txids x e).2);
        within = omega (arith, txid-at n t s i.0, minimum_member m (active t.txids) (txid_at t i.0) active-here);
        onward = o.onward;
        sample_positive = o.positive;
        sample_within = o.within;
        slots =
            pairs-set_xmin t.txids t.snapshot_xmins i.0 xmin
            ∙ ap (λ (x : ℕ). set (slots_of t) i.0 (slot x xmin)) (sym (txid-at n t s i.0));
        reservations = refl;
      })
    where
      positive : (x : ℕ) → x ≢ 0 → 1 ≤ x
      positive x z = omega arith
