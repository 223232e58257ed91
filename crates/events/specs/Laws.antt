-- What the grammar asks of waits, proved by computing: kinds and the header are found where they stand, and each of their lines is
-- one line. It stands here because the code that reads a wait hands it on with the grammar.
use Rattle.std.specs.Prelude.{ℕ, ◌+◌, ◌≡◌, true, refl, cond, List, [], ◌∷◌, ◌++◌, length, drop}
use mathlib.Core.Path.{ap}
use Rattle.text.specs.Bytes.{starts}
use Rattle.text.specs.Line.{one_line}
use Rattle.grammar.specs.Names.{name_line, NameAt, Named, Unknown, first_named}
use Rattle.grammar.proofs.Named.{ShapeLaws}
use Rattle.grammar.proofs.Laws.{GrammarLaws}
use Rattle.events.specs.Kind.{kind_name, kinds, kind_names}
use Rattle.events.specs.Event.{event_shape}
use Rattle.events.specs.Wait.{Header, Wait1, header_name, headers, first_event, wait_grammar}
use Rattle.events.specs.declared.Kind.{Kind}
use Rattle.events.specs.declared.Kind.TheVariants.{Register, End, Horizon, Reserve, Observe}

-- the first of some kinds whose name stands in front of these bytes
front : List Kind → List ℕ → ℕ → NameAt Kind
front [] bs at = Unknown
front (k ∷ ks) bs at = cond (starts (kind_name k) bs) (Named k (at + length (kind_name k))) (front ks bs at)

kind_found : (k : Kind) (s : List ℕ) (at : ℕ) (rest : List ℕ) → drop at s ≡ kind_name k ++ rest
    → first_named kind_name kinds s at ≡ Named k (at + length (kind_name k))
unfolding starts first_named front
kind_found Register s at rest e = ap (λ (bs : List ℕ). front kinds bs at) e
kind_found End s at rest e = ap (λ (bs : List ℕ). front kinds bs at) e
kind_found Horizon s at rest e = ap (λ (bs : List ℕ). front kinds bs at) e
kind_found Reserve s at rest e = ap (λ (bs : List ℕ). front kinds bs at) e
kind_found Observe s at rest e = ap (λ (bs : List ℕ). front kinds bs at) e

kind_one : (k : Kind) → one_line (name_line kind_names k) ≡ true
unfolding one_line name_line
kind_one Register = refl
kind_one End = refl
kind_one Horizon = refl
kind_one Reserve = refl
kind_one Observe = refl

event_laws : ShapeLaws event_shape
unfolding one_line
event_laws = record {
  names = record { found = kind_found; one = kind_one };
  again = λ e. refl;
  kind_is = λ k v. refl;
  values_are = λ k v. refl;
  plain = λ t. refl;
}

header_found : (h : Header) (s : List ℕ) (at : ℕ) (rest : List ℕ) → drop at s ≡ header_name h ++ rest
    → first_named header_name headers.kinds s at ≡ Named h (at + length (header_name h))
unfolding starts first_named
header_found Wait1 s at rest e =
    ap (λ (bs : List ℕ). cond (starts (header_name Wait1) bs) (Named Wait1 (at + length (header_name Wait1))) Unknown) e

header-one : (h : Header) → one_line (name_line headers h) ≡ true
unfolding one_line name_line
header-one Wait1 = refl

header-length : (h : Header) → length (name_line headers h) ≡ first_event
unfolding name_line
header-length Wait1 = refl

pub wait_grammar_lem : GrammarLaws wait_grammar
wait_grammar_lem = record {
  heads = record { found = header_found; one = header-one };
  long = header-length;
  shape = event_laws;
  head = Wait1;
  kind = Register;
  allowed = λ h. refl;
}
