-- The calls that observe the clock, and the release of a pin, by their tests.
use Prim.Native.Nat.{ℕ, ◌≤◌, ◌<◌, max}
use mathlib.Core.Path.{◌≡◌, refl, sym, ap, ◌∙◌}
use borrow.Author.Tests.{lt-leb, le-leb}
use Rattle.kinds.specs.declared.SlotNo.{SlotNo}
use Rattle.kinds.specs.declared.PinNo.{PinNo}
use Rattle.kinds.specs.declared.Txid.{Txid}
use Rattle.kinds.specs.Verdicts.{Pass}
use Rattle.kinds.specs.Kinds.{pin_count}
use Rattle.kinds.specs.declared.refusal.Refusal.TheVariants.{NoFreePin}
use Rattle.kinds.specs.Refusals.{told, accepted}
use Rattle.settled.specs.Snapshots.{no_snapshot}
use Rattle.model.specs.declared.Counters.{Counters}
use Rattle.model.specs.declared.Table.{Table}
use Rattle.model.specs.Tables.{counted, line_of, clock_of}
use Rattle.model.specs.Tally.{lowest_empty, snapshot_of}
use Rattle.model.specs.Changes.{observed}
use Rattle.model.specs.Tests.{owner_test, observation_test, release_test}
use Rattle.model.specs.Answers.{accepted_with, tells_of, xmin_told, holder_told, numbers_of}
use Rattle.model.specs.Calls.{snap, own, oldest, vacuum, pin, unpin, refusal, change_accepted, answer_accepted, shown_accepted}
use Rattle.model.proofs.Tests.{owns}
use Rattle.ledger_scans.specs.declared.flight.Flight.{Flight}
use Rattle.ledger_scans.specs.declared.held.Held.{Held}
use Rattle.ledger_scans.specs.Flight.{flight_of}
use Rattle.ledger_scans.specs.Held.{held_of}
use Rattle.ledger_calls.specs.Deeds.{plainly, showing, holding, stayed, in_slot, in_pin, did_by}
use Rattle.ledger_calls.proofs.Tells.{both_pass, refused_did, accepted_did}

module _ (n : ℕ) (t : Table) (clock sample : ℕ) (seen : observation_test (clock_of t) clock sample ≡ Pass) where
  module _ {k : Counters} (now : k ≡ observed clock sample t.counters) where
    module _ {f : Flight} (flight : f ≡ flight_of t.txids sample) where
      pub snap_shows : stayed (showing accepted f (line_of t)) k ≡ did_by n t (snap clock sample)
      unfolding refusal change_accepted answer_accepted shown_accepted numbers_of tells_of xmin_told holder_told snapshot_of flight_of
      snap_shows = rw (now, flight) (accepted_did n t (snap clock sample) seen)

      -- the slot keeps its txid, which the owner test found there
      pub own_retains :
          (slot : SlotNo) (id : Txid) → owner_test n t.txids slot id ≡ Pass →
          in_slot (showing accepted f (line_of t)) slot.0 id.0 f.xmin k ≡ did_by n t (own slot id clock sample)
      unfolding refusal change_accepted answer_accepted shown_accepted numbers_of tells_of xmin_told holder_told snapshot_of flight_of
      own_retains slot id owner =
          let holds = (owns n t slot id owner).registered.holds in
          ap (λ (x : ℕ). in_slot (showing accepted f (line_of t)) slot.0 x f.xmin k) (sym holds)
          ∙ rw (now, flight) (accepted_did n t (own slot id clock sample) (both_pass _ _ owner seen))

    pub oldest-holds :
        {h : Held} → h ≡ held_of t.txids t.snapshot_xmins t.pins sample →
        stayed (holding h.xmin h.holder (line_of t)) k ≡ did_by n t (oldest clock sample)
    unfolding refusal change_accepted answer_accepted shown_accepted no_snapshot numbers_of tells_of xmin_told holder_told held_of
    oldest-holds held = rw (now, held) (accepted_did n t (oldest clock sample) seen)

    -- the lowest free pin holds the xmin of a snapshot with the larger of sample and line
    pub pin_takes :
        {at : ℕ} → at ≡ lowest_empty t.pins → at < pin_count → {used : ℕ} → used ≡ max sample (line_of t) → {f : Flight} →
        f ≡ flight_of t.txids used →
        in_pin (showing (accepted_with at 0) f (line_of t)) at f.xmin k ≡ did_by n t (pin clock sample)
    unfolding refusal change_accepted answer_accepted shown_accepted numbers_of tells_of xmin_told holder_told snapshot_of flight_of
    pin_takes low h u flight =
        rw (now, flight, u, low)
        (accepted_did n t (pin clock sample) (both_pass _ _ seen (rw (lt-leb pin_count (lowest_empty t.pins) (rw low at h)))))

  pub vacuum_raises :
      {h : Held} → h ≡ held_of t.txids t.snapshot_xmins t.pins sample → {line : ℕ} → line ≡ max (line_of t) h.xmin →
      stayed (holding 0 h.holder line) (counted clock sample line) ≡ did_by n t (vacuum clock sample)
  unfolding refusal change_accepted answer_accepted shown_accepted no_snapshot numbers_of tells_of xmin_told holder_told held_of
  vacuum_raises held up = rw (up, held) (accepted_did n t (vacuum clock sample) seen)

  -- 14
  pub pin-full :
      {at : ℕ} → at ≡ lowest_empty t.pins → pin_count ≤ at →
      stayed (plainly (told NoFreePin) (line_of t)) t.counters ≡ did_by n t (pin clock sample)
  unfolding refusal
  pin-full low h = refused_did n t (pin clock sample) refl (rw (seen, le-leb pin_count (lowest_empty t.pins) (rw low at h)))

module _ (n : ℕ) (t : Table) (k : PinNo) where
  pub unpin_frees :
      release_test t.pins k ≡ Pass → in_pin (plainly accepted (line_of t)) k.0 0 t.counters ≡ did_by n t (unpin k)
  unfolding refusal change_accepted answer_accepted shown_accepted no_snapshot numbers_of tells_of xmin_told holder_told
  unpin_frees p = accepted_did n t (unpin k) p
