-- What holds the vacuum back: as a walk downwards finds it, and as the model says it.
use Rattle.std.specs.Prelude.{ℕ, ◌+◌, Bool, true, false, cond, List, [], ◌∷◌, eqb, leb}
use Rattle.model.specs.Tally.{active, minimum, oldest_of, holder_of, pin_holder_of}
use Rattle.ledger_scans.specs.declared.held.Held.{Held}

-- an empty place leaves what was found above it; a taken one takes its place, unless its xmin is above
abbrev pub lowered : Bool → ℕ → ℕ → Held → Held
lowered true x place h = h
lowered false x place h = cond (leb x h.xmin) (record { xmin = x; holder = place }) h

unfoldable pub held_from : ℕ → List ℕ → List ℕ → Held → Held
held_from place [] xmins h = h
held_from place (t ∷ ts) [] h = h
held_from place (t ∷ ts) (x ∷ xs) h = lowered (eqb t 0) x place (held_from (place + 1) ts xs h)

-- oldest's xmin and holder, as the model has them
abbrev pub oldest_among : List ℕ → List ℕ → List ℕ → ℕ → ℕ
oldest_among txids xmins pins sample = minimum (oldest_of txids xmins sample) (active pins)

unfoldable pub held_of : List ℕ → List ℕ → List ℕ → ℕ → Held
held_of txids xmins pins sample =
    record {
      xmin = oldest_among txids xmins pins sample;
      holder =
          holder_of txids xmins (oldest_among txids xmins pins sample)
          (pin_holder_of pins (oldest_among txids xmins pins sample));
    }
