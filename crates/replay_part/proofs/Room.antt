-- A record has room where a full table's ids would have it, so a part of a run in an empty buffer goes on. That no snapshot lists more
-- ids than there are slots is of crate model (proofs/Tally).
use Prim.Native.Nat.{ℕ, ◌+◌, ◌-◌, ◌≤◌}
use mathlib.Core.Path.{◌≡◌}
use mathlib.Core.Bool.{Bool, true, false, cond}
use mathlib.Core.List.{List, [], ◌∷◌}
use native.Mathlib.Omega.{arith}
use lib.ListN.{length}
use borrow.Author.Tests.{le-leb}
use Rattle.kinds.specs.Verdicts.{Verdict, Pass, Refuse}
use Rattle.model.specs.declared.Table.{Table}
use Rattle.model.specs.Calls.{Call, begin, end, snap, own, oldest, vacuum, stamp, finish, pin, unpin, refusal, after}
use Rattle.model.specs.Calls.{shown_accepted, shown_by, shown}
use Rattle.model.specs.Facts.{Good}
use Rattle.model.proofs.Tally.{active-length}
use Rattle.model.proofs.Facts.{good-after}
use Rattle.trace.specs.declared.Record.{Record}
use Rattle.trace.specs.declared.Version.{Version}
use Rattle.settled.specs.Snapshots.{no_snapshot}
use Rattle.model.specs.Tally.{snapshot_of}
use Rattle.output.specs.Output.{printed, need, fits}
use Rattle.step.specs.Named.{call_of}
use Rattle.replay_part.specs.Part.{Part, with_text, part_of}

-- a snapshot lists no more ids than the table has slots
accepted_few : (n : ℕ) (t : Table) (c : Call) → (shown_accepted n t c).count ≤ length t.txids
unfolding shown_accepted no_snapshot snapshot_of
accepted_few n t (begin number) = omega arith
accepted_few n t (end slot id) = omega arith
accepted_few n t (snap clock sample) = active-length t.txids
accepted_few n t (own slot id clock sample) = active-length t.txids
accepted_few n t (oldest clock sample) = omega arith
accepted_few n t (vacuum clock sample) = omega arith
accepted_few n t (stamp number) = omega arith
accepted_few n t (finish slot id number) = omega arith
accepted_few n t (pin clock sample) = active-length t.txids
accepted_few n t (unpin k) = omega arith

shown_few : (n : ℕ) (t : Table) (c : Call) → (shown n t c).count ≤ length t.txids
unfolding shown no_snapshot
shown_few n t c = go (refusal n t c)
  where
    go : (v : Verdict) → (shown_by v n t c).count ≤ length t.txids
    go Pass = accepted_few n t c
    go (Refuse r) = omega arith

pub room_fits :
    (v : Version) (n size at : ℕ) (t : Table) (c : Call) → Good n t → at + need v n ≤ size → fits v n size at (shown n t c).count ≡ true
room_fits v n size at t c g h =
    let many = (shown n t c).count in
    let few : many ≤ n = omega (arith, shown_few n t c, g.txid_column) in
    let room : need v many ≤ size - at = omega arith in
    rw (le-leb many n few, le-leb (need v many) (size - at) room)

module _ (v : Version) (n size : ℕ) where
  -- a part leaves no more records than there were, and a table with the facts of the check
  record Left (rs : List Record) (p : Part) : Type 0 where
    few : length p.left ≤ length rs
    good : Good n p.table

  part_left : (at : ℕ) (t : Table) (rs : List Record) → Good n t → Left rs (part_of v n size at t rs)
  unfolding part_of
  part_left at t [] g = record { few = omega arith; good = g }
  part_left at t (r ∷ rs) g =
      go (fits v n size at (shown n t (call_of r)).count)
      (part_left (at + length (printed v n t (call_of r))) (after n t (call_of r)) rs (good-after n t (call_of r) g))
    where
      go :
          (b : Bool) → Left rs (part_of v n size (at + length (printed v n t (call_of r))) (after n t (call_of r)) rs) →
          Left (r ∷ rs)
          (cond b
          (with_text (printed v n t (call_of r)) (part_of v n size (at + length (printed v n t (call_of r))) (after n t (call_of r)) rs))
          (record { text = []; table = t; left = r ∷ rs }))
      go true l = record { few = omega (arith, l.few); good = l.good }
      go false l = record { few = omega arith; good = g }

  pub part_good : (t : Table) (rs : List Record) → Good n t → Good n (part_of v n size 0 t rs).table
  part_good t rs g = (part_left 0 t rs g).good

  -- and fewer from an empty buffer
  pub part_goes_on :
      (t : Table) (r : Record) (rs : List Record) → Good n t → need v n ≤ size → length (part_of v n size 0 t (r ∷ rs)).left ≤ length rs
  unfolding part_of
  part_goes_on t r rs g h =
      rw (room_fits v n size 0 t (call_of r) g (omega arith))
      (part_left (0 + length (printed v n t (call_of r))) (after n t (call_of r)) rs (good-after n t (call_of r) g)).few
