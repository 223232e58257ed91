-- What the answers of this crate's code mean in the grammar's words.
use Prim.Native.Nat.{ℕ}
use mathlib.Core.Path.{◌≡◌, refl}
use mathlib.Core.List.{List}
use Rattle.grammar.specs.Items.{ItemAt}
use Rattle.grammar.specs.Items as item
use Rattle.grammar.specs.Texts.{Count, Many, Refused, count_text}
use Rattle.grammar.proofs.Said.{item_said, count_said}
use Rattle.events.specs.Event.{event_form, event_at}
use Rattle.events.specs.Wait.{Header, Wait1, wait_format, reading}
use Rattle.events.specs.declared.Event.{Event}
use Rattle.events.specs.EventAt.{EventAt, Is, Broken}
use Rattle.events.specs.Reading.{Reading}
use Rattle.events.specs.Reading as reading

abbrev pub event_meant : EventAt → ItemAt Event
event_meant (Is v e) = item.Is v e
event_meant (Broken k) = item.Broken k

-- there is one header
abbrev pub reading_meant : Reading → Count Header
reading_meant (reading.Whole n) = Many Wait1 n
reading_meant (reading.Broken k) = Refused k

whole_means : (h : Header) (n : ℕ) → reading_meant (reading.Whole n) ≡ Many h n
whole_means Wait1 n = refl

module _ (s : List ℕ) where
  pub reading_is : {a : Reading} → reading s ≡ a → count_text wait_format s ≡ reading_meant a
  unfolding reading
  reading_is h = count_said (λ h n. reading.Whole n) reading.Broken reading_meant whole_means (λ k. refl) (count_text wait_format s) h

  module _ (at : ℕ) where
    pub event_is : {a : EventAt} → event_at s at ≡ a → event_form.at s at ≡ event_meant a
    unfolding event_at
    event_is h = item_said Is Broken event_meant (λ v e. refl) (λ k. refl) (event_form.at s at) h
