-- What a text has to prove of its grammar, and what the code that reads it then knows: the facts of its items, its first line, and
-- where a loop over its items starts.
use Prim.Native.Nat.{ℕ, ◌+◌, ◌≤◌}
use native.Mathlib.Omega.{arith}
use native.Mathlib.Nat.{zero-add}
use mathlib.Core.Path.{◌≡◌, refl, sym, ap, ◌∙◌}
use mathlib.Core.List.{List}
use mathlib.Core.Bool.{true, false, false≢true}
use lib.ListN.{length, drop, length-append, length-drop}
use Rattle.text.specs.Bytes.{starts}
use Rattle.text.proofs.Bytes.{starts_of}
use Rattle.text.proofs.Places.{key_there}
use Rattle.grammar.specs.Names.{name_line, NameAt, Named, Unknown, name_at}
use Rattle.grammar.specs.Items.{items_from, Boundary}
use Rattle.grammar.specs.Texts.{Format, first_line, Read, Whole, Broken, read_text, Many, Refused, counted, count_text}
use Rattle.grammar.specs.Grammar.{Grammar, format_of, every_kind, any_form}
use Rattle.grammar.proofs.Names.{NameLaws, line_of, line_there}
use Rattle.grammar.proofs.Facts.{Facts, Laws}
use Rattle.grammar.proofs.Named.{ShapeLaws, form_facts, form_wider}
use Rattle.grammar.proofs.Walk.{wider, boundary}
use Rattle.grammar.proofs.Grammar.{accepted, text_length}

pub record GrammarLaws {H K I : Type 0} (g : Grammar H K I) : Type 0 where
  pub heads : NameLaws g.heads
  pub long : (h : H) → length (name_line g.heads h) ≡ g.first
  pub shape : ShapeLaws g.shape
  -- a first line, and a kind that all of them allow, where there is no text to find one in
  pub head : H
  pub kind : K
  pub allowed : (h : H) → g.allowed h kind ≡ true

-- a count that is refused is a text that breaks a rule at that line
pub count_breaks : {H I : Type 0} (t : Format H I) (s : List ℕ) {k : ℕ} → count_text t s ≡ Refused k → read_text t s ≡ Broken k
unfolding count_text
count_breaks {H} {I} t s {k} = go (read_text t s)
  where
    go : (x : Read H I) → counted x ≡ Refused k → x ≡ Broken k
    go (Whole h xs) e = absurd (let z : ◌≡◌ {A = ℕ} 0 1 = cc in omega arith)
    go (Broken j) e = let same : j ≡ k = cc in ap Broken same

module _ {H K I : Type 0} (g : Grammar H K I) (laws : GrammarLaws g) where
  pub under_facts : (h : H) → Facts ((format_of g).form h)
  under_facts h = form_facts g.shape laws.shape (g.allowed h) laws.kind (laws.allowed h)

  pub any_facts : Facts (any_form g)
  any_facts = form_facts g.shape laws.shape every_kind laws.kind refl

  pub format_laws : Laws (format_of g)
  format_laws = record { any = laws.head; heads = laws.heads; facts = under_facts }

  -- a first line that stands in front is known, and ends where the first item stands
  pub head_is : (s : List ℕ) (h : H) → starts (name_line g.heads h) (drop 0 s) ≡ true → name_at g.heads s 0 ≡ Named h g.first
  head_is s h b =
      let line = name_line g.heads h in
      let there = key_there s 0 line b in
      line_of g.heads laws.heads s 0 h (drop (0 + length line) s) there.text ∙ ap (Named h) (omega (arith, laws.long h))

  -- and where none does, none is known
  pub no_head : (s : List ℕ) → ((h : H) → starts (name_line g.heads h) (drop 0 s) ≡ false) → name_at g.heads s 0 ≡ Unknown
  no_head s none = go (name_at g.heads s 0) refl
    where
      go : (x : NameAt H) → name_at g.heads s 0 ≡ x → x ≡ Unknown
      go Unknown q = refl
      go (Named h e) q =
          let there = line_there g.heads laws.heads s 0 h e q in
          let stands : starts (name_line g.heads h) (drop 0 s) ≡ true = rw there.text (starts_of (name_line g.heads h) (drop e s)) in
          absurd (false≢true (sym (none h) ∙ stands))

  -- a first line that is known stands inside the text
  pub head_inside : (s : List ℕ) (h : H) (e : ℕ) → name_at g.heads s 0 ≡ Named h e → e ≤ length s
  head_inside s h e q =
      let there = line_there g.heads laws.heads s 0 h e q in
      omega (arith, there.past, simp (length-append, length-drop) at (ap length there.text))

  -- what is known before the first item of a text that was counted
  pub record Opened (s : List ℕ) (h : H) (n : ℕ) : Type 0 where
    pub items : read_text (format_of g) s ≡ Whole h (items_from (any_form g) s g.first)
    pub many : length (items_from (any_form g) s g.first) ≡ n
    pub boundary : Boundary (any_form g) s g.first
    pub inside : g.first ≤ length s

  pub opened : (s : List ℕ) (h : H) (n : ℕ) → count_text (format_of g) s ≡ Many h n → Opened s h n
  unfolding count_text
  opened s h n = go (read_text (format_of g) s) refl
    where
      whole : (xs : List I) → read_text (format_of g) s ≡ Whole h xs → length xs ≡ n → Opened s h n
      whole xs q many =
          let a = accepted (format_of g) format_laws s h xs q in
          let every = form_wider g.shape laws.shape (g.allowed h) every_kind (λ k x. refl) in
          let line = length (first_line (format_of g) h) in
          let found = wider ((format_of g).form h) (under_facts h) (any_form g) any_facts every s line 1 xs a.found in
          let first : length (first_line (format_of g) h) ≡ g.first = unfold first_line in laws.long h in
          let b = boundary (any_form g) any_facts s g.first 1 xs (rw first at found) in
          record {
            items = q ∙ ap (Whole h) (sym b.1);
            many = ap length b.1 ∙ many;
            boundary = b.0;
            inside = omega (arith, ap length a.text, text_length (format_of g) format_laws h xs, first);
          }

      go : (x : Read H I) → read_text (format_of g) s ≡ x → counted x ≡ Many h n → Opened s h n
      go (Broken k) q e = absurd (let z : ◌≡◌ {A = ℕ} 0 1 = cc in omega arith)
      go (Whole f xs) q e =
          let same : f ≡ h = cc in
          let many : length xs ≡ n = cc in
          whole xs (q ∙ ap (λ (u : H). Whole u xs) same) many
