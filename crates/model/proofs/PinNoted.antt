-- What one call does to the snapshot that pin k holds: takes the pin with another, releases it, or leaves it.
use Prim.Native.Nat.{ℕ, ◌≤◌, max}
use mathlib.Core.Path.{◌≡◌, refl, sym}
use mathlib.Core.Logic.{◌≢◌}
use mathlib.Core.Bool.{Bool, true, false}
use mathlib.Core.Option.{Option, none, some}
use native.Mathlib.Omega.{arith}
use lib.Dec.{eqb}
use lib.Seq.{get_or-set_other}
use borrow.Author.Tests.{eqb-true, eqb-false}
use Rattle.kinds.specs.declared.PinNo.{PinNo}
use Rattle.kinds.specs.declared.refusal.Refusal.{Refusal}
use Rattle.kinds.specs.Verdicts.{Verdict, Pass}
use Rattle.kinds.specs.Refusals.{consumed}
use Rattle.kinds.proofs.Verdicts.{refuse_not_pass}
use Rattle.settled.specs.declared.Snapshot.{Snapshot}
use Rattle.model.specs.declared.Counters.{Counters}
use Rattle.model.specs.declared.Table.{Table}
use Rattle.model.specs.Tally.{lowest_empty}
use Rattle.model.specs.Tables.{pin_at, line_of}
use Rattle.model.specs.Changes.{past_number, applied}
use Rattle.model.specs.Calls.{Call, pin, refusal, change_accepted, spent, after, shown}
use Rattle.model.specs.Deeds.{release_of}
use Rattle.model.specs.Pins.{held_by}
use Rattle.model.proofs.Accepted.{accepted_acceptable}
use Rattle.model.proofs.Refused.{Declined, stays, spends}
use Rattle.model.proofs.Calls.{after_accepted, change_refused, by_verdict}
use Rattle.model.proofs.Does.{Does, stands, enters, leaves, retakes, takes-pin, frees_the_pin, does}
use Rattle.model.proofs.Does.{LineMoves, line_stays, line_raised, counts_on}
use Rattle.model.proofs.Facts.{oldest-pin}

-- the line rose to the larger of itself and the pin at most, where the pin is taken
abbrev pub LineUnder : Table → PinNo → Counters → Type 0
LineUnder t k after = pin_at t k.0 ≢ 0 → after.vacuum_line ≤ max (line_of t) (pin_at t k.0)

pub data PinNoted (n : ℕ) (t : Table) (k : PinNo) (c : Call) (held : Option Snapshot) (v : Verdict) (u : Table) : Type 0 where
  now-pinned :
      (clock sample : ℕ) → c ≡ pin clock sample → v ≡ Pass → u ≡ after_accepted t c → lowest_empty t.pins ≡ k.0 →
      held_by v n k t c held ≡ some (shown n t c) → PinNoted n t k c held v u
  now_released : release_of k c ≡ true → v ≡ Pass → held_by v n k t c held ≡ none → PinNoted n t k c held v u
  pin-stays :
      held_by v n k t c held ≡ held → (v ≡ Pass → release_of k c ≡ false) → pin_at u k.0 ≡ pin_at t k.0 →
      LineUnder t k u.counters → PinNoted n t k c held v u

module _ (n : ℕ) (t : Table) (k : PinNo) where
  -- an oldest xmin is at most a taken pin
  under : (now : Counters) → LineMoves t now → LineUnder t k now
  under now (line_stays e) h = omega arith
  under now (line_raised sample a b e) h = omega (arith, oldest-pin t sample k.0 h)

  pin-noted-accepted :
      (c : Call) (held : Option Snapshot) → LineMoves t (change_accepted t c).counters → Does n t c →
      PinNoted n t k c held Pass (after_accepted t c)
  pin-noted-accepted c held l (stands d e) = rw e (pin-stays (rw d) (λ q. rw d) refl (under _ l))
  pin-noted-accepted c held l (enters number p e r m f) = rw e (pin-stays (rw p) (λ q. rw p) refl (under _ l))
  pin-noted-accepted c held l (leaves slot id d e o) = rw e (pin-stays (rw d) (λ q. rw d) refl (under _ l))
  pin-noted-accepted c held l (retakes slot id clock sample p e h o) = rw e (pin-stays (rw p) (λ q. rw p) refl (under _ l))
  pin-noted-accepted c held l (takes-pin clock sample p e m o f) = go (eqb entered k.0) refl
    where
      entered : ℕ
      entered = lowest_empty t.pins

      go : (b : Bool) → eqb entered k.0 ≡ b → PinNoted n t k c held Pass (after_accepted t c)
      go true q = now-pinned clock sample p refl refl (eqb-true entered k.0 q) (rw (p, q))
      go false q =
          rw e
          (pin-stays (rw (p, q)) (λ z. rw p)
          (get_or-set_other t.pins entered k.0 _ 0 (λ z. eqb-false entered k.0 q (sym z))) (under _ l))
  pin-noted-accepted c held l (frees_the_pin j p e h) = go (eqb j.0 k.0) refl
    where
      go : (b : Bool) → eqb j.0 k.0 ≡ b → PinNoted n t k c held Pass (after_accepted t c)
      go true q = now_released (rw p q) refl (rw (p, q))
      go false q =
          rw e
          (pin-stays (rw (p, q)) (λ z. rw p q)
          (get_or-set_other t.pins j.0 k.0 0 0 (λ z. eqb-false j.0 k.0 q (sym z))) (under _ l))

  pub pin_noted : (c : Call) (held : Option Snapshot) → PinNoted n t k c held (refusal n t c) (after n t c)
  unfolding consumed spent after
  pin_noted c held =
      by_verdict n t c (λ v d. PinNoted n t k c held v (applied t d))
      (λ e. let p = accepted_acceptable n t c e in pin-noted-accepted c held (counts_on n t c p).line (does n t c p))
      (λ r f. pin-stays refl (λ p. absurd (refuse_not_pass r p)) refl (refused r f))
    where
      refused : (r : Refusal) → Declined n t c r → LineUnder t k (change_refused t r).counters
      refused r (stays p) = rw p (under t.counters (line_stays refl))
      refused r (spends number p q h f) = rw q (under (past_number number.0 t.counters) (line_stays refl))
