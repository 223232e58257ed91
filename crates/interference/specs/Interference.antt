-- Upstream's waits (I:438-494), and how an event of ours is one of its events. The flag `lifecycle_held` is left out, as of its state.
use Rattle.std.specs.Prelude.{ℕ, ◌+◌, ◌<◌, ◌≤◌, ◌≡◌, List, [], ◌∷◌, length, get_or, set}
use Rattle.kinds.specs.Kinds.{top}
use Rattle.upstream.specs.States.{State, slot, at, push}
use Rattle.upstream.specs.Relations.{Observation, Reservation}
use Rattle.grammar.specs.Texts.{Read, Whole, Broken}
use Rattle.events.specs.Wait.{Header, events_of}
use Rattle.events.specs.declared.Kind.{Kind}
use Rattle.events.specs.declared.Kind.TheVariants as kind
use Rattle.events.specs.declared.Event.{Event}
use Rattle.wait_rules.specs.Owner.{Owner, Nobody, HeldBy}

-- `live_owner`: the registration of slot i holds it
pub record LiveOwner (s : State) (i id : ℕ) : Type 0 where
  pub positive : 0 < id
  pub inside : i < length s.slots
  pub holds : (at s.slots i).txid ≡ id

-- `extends`: the later history begins with the earlier one
pub record Extends (earlier later : List ℕ) : Type 0 where
  pub longer : length earlier ≤ length later
  pub same : (i : ℕ) → i < length earlier → get_or later i 0 ≡ get_or earlier i 0

pub data WaitEvent : Type 0 where
  Register : ℕ → ℕ → WaitEvent
  End : ℕ → WaitEvent
  Horizon : ℕ → ℕ → WaitEvent
  Reserve : ℕ → WaitEvent
  Observe : WaitEvent

-- `wait_step`, event by event
pub record RegisterStep (a b : State) (i id : ℕ) : Type 0 where
  pub inside : i < length a.slots
  pub empty : (at a.slots i).txid ≡ 0
  pub from_clock : a.clock ≤ id
  pub below_top : id < top
  pub slots : b.slots ≡ set a.slots i (slot id id)
  pub clock : b.clock ≡ id + 1
  pub sample : b.sampled_clock ≡ a.sampled_clock
  pub reservations : b.reservations ≡ push a.reservations id

pub record EndStep (a b : State) (i : ℕ) : Type 0 where
  pub inside : i < length a.slots
  pub taken : 0 < (at a.slots i).txid
  pub slots : b.slots ≡ set a.slots i (slot 0 0)
  pub clock : b.clock ≡ a.clock
  pub sample : b.sampled_clock ≡ a.sampled_clock
  pub reservations : b.reservations ≡ a.reservations

-- clock and sample may move too; of our events they don't
pub record HorizonStep (a b : State) (i xmin : ℕ) : Type 0 where
  pub inside : i < length a.slots
  pub positive : 0 < xmin
  pub within : xmin ≤ (at a.slots i).txid
  pub onward : a.clock ≤ b.clock
  pub sample_positive : 0 < b.sampled_clock
  pub sample_within : b.sampled_clock ≤ b.clock
  pub slots : b.slots ≡ set a.slots i (slot (at a.slots i).txid xmin)
  pub reservations : b.reservations ≡ a.reservations

abbrev pub WaitStep : State → State → WaitEvent → Type 0
WaitStep a b (Register i id) = RegisterStep a b i id
WaitStep a b (End i) = EndStep a b i
WaitStep a b (Horizon i xmin) = HorizonStep a b i xmin
WaitStep a b (Reserve id) = Reservation a b id
WaitStep a b Observe = Observation a b

-- `allowed`: of an owner's slot none of the first three
abbrev pub Names : ℕ → WaitEvent → Type 0
Names i (Register j id) = j ≡ i
Names i (End j) = j ≡ i
Names i (Horizon j xmin) = j ≡ i
Names i (Reserve id) = ⊥
Names i Observe = ⊥

abbrev pub Allowed : Owner → WaitEvent → Type 0
Allowed Nobody e = Unit
Allowed (HeldBy own) e = Names own.slot.0 e → ⊥

-- `trace_valid`: states from the entry to the end, one step an event
pub data Valid (owner : Owner) : State → State → List WaitEvent → Type 0 where
  none : {a : State} → Valid owner a a []
  also : {a b c : State} {e : WaitEvent} {es : List WaitEvent}
      → WaitStep a b e → Allowed owner e → Valid owner b c es → Valid owner a c (e ∷ es)

-- our events as upstream's, and the history after them
abbrev pub event_by : Kind → Event → WaitEvent
event_by kind.Register e = Register e.slot e.id
event_by kind.End e = End e.slot
event_by kind.Horizon e = Horizon e.slot e.xmin
event_by kind.Reserve e = Reserve e.id
event_by kind.Observe e = Observe

abbrev pub history_by : Kind → List ℕ → Event → List ℕ
history_by kind.Register h e = push h e.id
history_by kind.End h e = h
history_by kind.Horizon h e = h
history_by kind.Reserve h e = push h e.id
history_by kind.Observe h e = h

unfoldable pub events_told_by : List Event → List WaitEvent
events_told_by [] = []
events_told_by (e ∷ es) = event_by e.kind e ∷ events_told_by es

unfoldable pub history_after : List ℕ → List Event → List ℕ
history_after h [] = h
history_after h (e ∷ es) = history_after (history_by e.kind h e) es

-- the history at the end of a wait that is told by the text s
abbrev pub events_read : Read Header Event → List Event
events_read (Whole header es) = es
events_read (Broken line) = []

abbrev pub history_told : List ℕ → List ℕ → List ℕ
history_told h s = history_after h (events_read (events_of s))
