-- Calls of others during an owner's wait: any of ours, but on the owner's slot.
use Rattle.std.specs.Prelude.{ℕ, ◌≡◌, true, List, [], ◌∷◌}
use Rattle.model.specs.declared.Table.{Table}
use Rattle.model.specs.Calls.{Call, begin, end, snap, own, oldest, vacuum, stamp, finish, pin, unpin, after}
use Rattle.model.specs.History.{Accepts}
use Rattle.wait_rules.specs.Owner.{Owner}
use Rattle.wait_rules.specs.Steps.{not_owned}

-- not of the owner's slot; a begin enters an empty one, which no owner holds
abbrev pub Elsewhere : Owner → Call → Type 0
Elsewhere owner (begin number) = Unit
Elsewhere owner (end slot id) = not_owned owner slot.0 ≡ true
Elsewhere owner (snap clock sample) = Unit
Elsewhere owner (own slot id clock sample) = not_owned owner slot.0 ≡ true
Elsewhere owner (oldest clock sample) = Unit
Elsewhere owner (vacuum clock sample) = Unit
Elsewhere owner (stamp number) = Unit
Elsewhere owner (finish slot id number) = not_owned owner slot.0 ≡ true
Elsewhere owner (pin clock sample) = Unit
Elsewhere owner (unpin k) = Unit

-- the calls, made on t one after the other, are elsewhere where they are accepted
pub data Meanwhile (n : ℕ) (owner : Owner) : Table → List Call → Type 0 where
  nothing : {t : Table} → Meanwhile n owner t []
  then : {t : Table} {c : Call} {cs : List Call}
      → (Accepts n t c → Elsewhere owner c) → Meanwhile n owner (after n t c) cs → Meanwhile n owner t (c ∷ cs)
