-- What a proof by hand is made over, and what it shows.
--     World            what owns the memory, what a routine does that a clause runs, and what the calls and loops in the code at hand do
--     Promise          a contract: a signature, and the clauses
--     promise w T c    a function's, by its generated `ended` and `clauses`
--     Callee w P k     what the code at hand calls k keeps P.        Proved w P f      the code f does
--     known, proves    a callee's theorem, as the code at hand needs it; and a function's own, from its code's
use mathlib.Core.Path.{◌≡◌}
use seplogic.Ra.Ura.{Ura}
use mir.Syntax.{Callee as Name, Fn}
use base.Logic.{SProp}
use prog.Memory.{Memory}
use prog.Model.{Model}
use prog.Routine.{Routine, Env}
use prog.Wp.{Closed, Tables, WpFn}
use types.Logic.{Logic}
use contract.Monad.{Fun}
use contract.Running.{Running, tables as machine, tables_of}
use denote.Triple.Clauses.{Clauses, Ended, closing}
use denote.Triple.Spec.{Meets, triple_of}
use denote.Triple.Statement.{Contract}
use denote.Triple.Table.{entered, cited}

pub record World {M : Type 1} {𝓤 : Ura M} (𝓛 : Logic 𝓤) : Type 2 where
  pub memory : Memory → SProp 𝓤
  pub run : Routine → Fun 𝓤
  pub tables : Tables 𝓤 𝓛.H

abbrev pub Promise : {M : Type 1} → Ura M → Type 2
Promise 𝓤 = (T : Ended) × Clauses 𝓤 T

module _ {M : Type 1} {𝓤 : Ura M} {𝓛 : Logic 𝓤} (w : World 𝓛) where
  open 𝓛 use {H}

  abbrev pub promise : (T : Ended) → ((Memory → SProp 𝓤) → (Routine → Fun 𝓤) → Clauses 𝓤 T) → Promise 𝓤
  promise T c = (T, c w.memory w.run)

  module _ (P : Promise 𝓤) where
    abbrev pub Keeps : Fun 𝓤 → Type 1
    Keeps run = Meets 𝓛 P.0.signature run (closing 𝓛 P.0 P.1)

    abbrev pub Callee : Name → Type 1
    Callee k = Keeps (w.tables.C k)

    abbrev pub Proved : Fn → Type 1
    Proved f = Keeps (WpFn 𝓤 H w.tables.C w.tables.Λ f)

module _ {M : Type 1} {𝓤 : Ura M} (𝓛 : Logic 𝓤) (𝓜 : Model 𝓤 𝓛.H) (𝓡 : Running 𝓤 𝓛.H 𝓜) (γ : Env) where
  -- where the calls in the code at hand mean γ
  open 𝓛 use {H}

  abbrev pub world : World 𝓛
  world = record { memory = 𝓜.mem; run = 𝓡.returns; tables = tables_of 𝓤 H 𝓜 (machine 𝓤 H 𝓜 𝓡 γ) }

  module _ (P : Promise 𝓤) (k : Name) where
    abbrev triple : Contract 𝓤
    triple = triple_of 𝓛 P.0.signature (closing 𝓛 P.0 P.1)

    pub known : {r : Routine} → γ k ≡ r → Keeps world P (𝓡.run r) → Callee world P k
    unfolding tables_of
    known {r} e = cited 𝓤 H triple 𝓜 𝓡 γ k r e

    pub proves : (f : Fn) → Closed 𝓤 H (machine 𝓤 H 𝓜 𝓡 γ).C (machine 𝓤 H 𝓜 𝓡 γ).Λ k f → Proved world P f → Keeps world P (𝓡.run (γ k))
    unfolding tables_of
    proves f closed = entered 𝓤 H triple (machine 𝓤 H 𝓜 𝓡 γ).C (machine 𝓤 H 𝓜 𝓡 γ).Λ k f closed
