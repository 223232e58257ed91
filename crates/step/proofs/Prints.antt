-- What is put for a decided call is what the call prints.
use Prim.Native.Nat.{ℕ, ◌≤◌}
use mathlib.Core.Path.{◌≡◌, refl, ap, ◌∙◌}
use mathlib.Core.Bool.{false}
use mathlib.Core.List.{List}
use lib.ListN.{length}
use borrow.Author.Tests.{le-leb}
use Rattle.kinds.specs.declared.refusal.Refusal.{Refusal}
use Rattle.kinds.specs.Verdicts.{Verdict, Pass, Refuse}
use Rattle.settled.specs.Snapshots.{no_snapshot}
use Rattle.model.specs.declared.Table.{Table}
use Rattle.model.specs.declared.answer.Decision.{Decision}
use Rattle.model.specs.declared.answer.SnapshotDecision.{SnapshotDecision}
use Rattle.model.specs.Tables.{clock_of}
use Rattle.model.specs.Tests.{observation_test}
use Rattle.model.specs.Calls.{Call, pin, refusal, after, shown_accepted, shown_by, shown, decision, snapshot_decision}
use Rattle.model.specs.Changes.{refused_decision}
use Rattle.model.specs.Deeds.{opens}
use Rattle.std.specs.Result.{MatchResult}
use Rattle.model.proofs.Decides.{refused_shows}
use Rattle.trace.specs.declared.Version.{Version}
use Rattle.output.specs.Output.{printed}
use Rattle.step.specs.declared.Ran.{Ran}
use Rattle.step.specs.Put.{listing_ran, listing_left, PlainPut, ListingPut}
use Rattle.step.specs.Step.{ran, ran_left}

-- a call that shows nothing where it is accepted shows nothing
shows_none : (n : ℕ) (t : Table) (c : Call) → shown_accepted n t c ≡ no_snapshot n → shown n t c ≡ no_snapshot n
unfolding shown
shows_none n t c e = go (refusal n t c)
  where
    go : (v : Verdict) → shown_by v n t c ≡ no_snapshot n
    go Pass = e
    go (Refuse r) = refl

-- of the refusals of a pin those of the clock and the sample come first
pub refused-at_once :
    (n : ℕ) (t : Table) (clock sample : ℕ) {r : Refusal} → observation_test (clock_of t) clock sample ≡ Refuse r →
    refusal n t (pin clock sample) ≡ Refuse r
unfolding refusal
refused-at_once n t clock sample e = rw e

-- a snapshot call puts its text: one that is refused lists nothing, and what was decided where it passed is its decision
module _
    (v : Version) (n : ℕ) (t : Table) (c : Call) (xs : List ℕ) (at : ℕ) {ys : List ℕ} {o : Ran} (free : opens c ≡ false) where
  refused-put :
      {r : Refusal} → refusal n t c ≡ Refuse r → PlainPut v n (refused_decision t.counters r) xs at ys o →
      ListingPut v n (snapshot_decision n t c) xs at ys o
  unfolding no_snapshot
  refused-put e p =
      let d = refused_shows n t c free e in
      record {
        ran = p.ran ∙ ap (λ (d : SnapshotDecision). listing_ran v n d xs at) d;
        left = p.left ∙ ap (λ (d : SnapshotDecision). listing_left v n d xs at) d;
      }

  pub listing-put :
      (Decided : SnapshotDecision → Type 0) (verdict : Verdict) →
      ((d : SnapshotDecision) → Decided d → d ≡ snapshot_decision n t c) →
      ((r : Refusal) → verdict ≡ Refuse r → refusal n t c ≡ Refuse r) →
      MatchResult verdict (λ _. (d : SnapshotDecision) × Decided d × ListingPut v n d xs at ys o)
      (λ r. PlainPut v n (refused_decision t.counters r) xs at ys o) →
      ListingPut v n (snapshot_decision n t c) xs at ys o
  listing-put Decided Pass is refused (d, decided, p) = rw (is d decided) at p
  listing-put Decided (Refuse r) is refused p = refused-put (refused r refl) p

-- what running a call promises
pub record Prints (v : Version) (n : ℕ) (t : Table) (c : Call) (xs : List ℕ) (at : ℕ) (ys : List ℕ) (o : Ran) : Type 0 where
  pub ran : o ≡ ran v n t c xs at
  pub left : ys ≡ ran_left v n t c xs at

module _
    {v : Version} {n : ℕ} {t : Table} {c : Call} {xs : List ℕ} {at : ℕ} {ys : List ℕ} {o : Ran} (few : length t.txids ≤ n) where
  pub plain-prints :
      {d : Decision} → d ≡ decision n t c → shown_accepted n t c ≡ no_snapshot n → PlainPut v n d xs at ys o →
      Prints v n t c xs at ys o
  unfolding decision after no_snapshot printed ran ran_left
  plain-prints e none p =
      record {
        ran = p.ran ∙ rw (e, le-leb (length t.txids) n few, shows_none n t c none);
        left = p.left ∙ rw (e, le-leb (length t.txids) n few, shows_none n t c none);
      }

  pub listing-prints :
      {d : SnapshotDecision} → d ≡ snapshot_decision n t c → ListingPut v n d xs at ys o → Prints v n t c xs at ys o
  unfolding snapshot_decision after printed ran ran_left
  listing-prints e p =
      record {
        ran = p.ran ∙ rw (e, le-leb (length t.txids) n few);
        left = p.left ∙ rw (e, le-leb (length t.txids) n few);
      }
