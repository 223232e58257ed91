-- The numbers that a history reserved: one at each accepted begin, stamp and finish, and one at each refusal 1.
use Rattle.std.specs.Prelude.{ℕ, List, [], ◌∷◌, ◌++◌}
use Rattle.kinds.specs.Verdicts.{Verdict, Pass, Refuse}
use Rattle.kinds.specs.Refusals.{consumed}
use Rattle.model.specs.declared.Table.{Table}
use Rattle.model.specs.Tables.{fresh_table}
use Rattle.model.specs.Calls.{Call, begin, end, snap, own, oldest, vacuum, stamp, finish, pin, unpin, refusal, after}

-- by an accepted begin, stamp or finish ..
abbrev pub reserves_accepted : Call → List ℕ
reserves_accepted (begin number) = number.0 ∷ []
reserves_accepted (end slot id) = []
reserves_accepted (snap clock sample) = []
reserves_accepted (own slot id clock sample) = []
reserves_accepted (oldest clock sample) = []
reserves_accepted (vacuum clock sample) = []
reserves_accepted (stamp number) = number.0 ∷ []
reserves_accepted (finish slot id number) = number.0 ∷ []
reserves_accepted (pin clock sample) = []
reserves_accepted (unpin k) = []

-- .. and by a refusal that consumes a number
abbrev pub reserves_by : Verdict → Call → List ℕ
reserves_by Pass c = reserves_accepted c
reserves_by (Refuse r) c = consumed r

unfoldable pub reservations_from : ℕ → Table → List Call → List ℕ
reservations_from n t [] = []
reservations_from n t (c ∷ cs) = reserves_by (refusal n t c) c ++ reservations_from n (after n t c) cs

-- in the order reserved
abbrev pub reservations : ℕ → List Call → List ℕ
reservations n cs = reservations_from n (fresh_table n) cs
