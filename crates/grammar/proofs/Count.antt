-- A loop that counts the items of a text under the first line h: past n items it stands at a place from which the count goes on.
-- The invariant is `Counting`; its laws start it, go past one item, and end it at the text's end or at a broken line.
use Prim.Native.Nat.{ℕ, ◌+◌, ◌*◌, ◌^◌, ◌≤◌, ◌<◌}
use native.Mathlib.Omega.{arith}
use mathlib.Core.Path.{◌≡◌, refl, ap, ◌∙◌}
use mathlib.Core.List.{List}
use lib.ListN.{length}
use borrow.Author.Tests.{le-ltb}
use Rattle.grammar.specs.Names.{Named, name_at}
use Rattle.grammar.specs.Items.{Is, Broken, Found, Items, Breaks, with_first, found_from}
use Rattle.grammar.specs.Texts.{Format, longest, under, read_text, Count, Many, Refused, counted, count_text}
use Rattle.grammar.specs.Grammar.{Grammar, format_of}
use Rattle.grammar.proofs.Facts.{Laws}
use Rattle.grammar.proofs.Walk.{found_end, found_broken, found_next}
use Rattle.grammar.proofs.Laws.{GrammarLaws, under_facts, format_laws, head_inside}

-- the count of what is found past n items
abbrev pub count_from : {H I : Type 0} → H → ℕ → Found I → Count H
count_from h n (Items xs) = Many h (n + length xs)
count_from h n (Breaks k) = Refused k

module _ {H I : Type 0} (t : Format H I) (laws : Laws t) (s : List ℕ) (h : H) where
  abbrev pub Counting : ℕ → ℕ → Type 0
  Counting at n = count_text t s ≡ count_from h n (found_from (t.form h) s at (1 + 6 * n))

  none_before : (x : Found I) → counted (under h x) ≡ count_from h 0 x
  none_before (Items xs) = ap (Many h) (omega arith)
  none_before (Breaks k) = refl

  pub counting_start : (e : ℕ) → length s ≤ longest → name_at t.heads s 0 ≡ Named h e → Counting e 0
  unfolding count_text read_text
  counting_start e l q = rw (le-ltb longest (length s) l, q) (none_before (found_from (t.form h) s e 1))

  one-before : (n : ℕ) (x : I) (y : Found I) → count_from h n (with_first x y) ≡ count_from h (n + 1) y
  one-before n x (Items xs) = ap (Many h) (omega arith)
  one-before n x (Breaks k) = refl

  pub counting_next : (at n : ℕ) (x : I) (e : ℕ) → Counting at n → (t.form h).at s at ≡ Is x e → Counting e (n + 1)
  counting_next at n x e c q =
      let f = t.form h in
      let b : 1 + 6 * n + 6 ≡ 1 + 6 * (n + 1) = omega arith in
      c
      ∙ ap (count_from h n) (found_next f (laws.facts h) s at (1 + 6 * n) x e q)
      ∙ one-before n x (found_from f s e (1 + 6 * n + 6))
      ∙ ap (λ (k : ℕ). count_from h (n + 1) (found_from f s e k)) b

  pub counting_broken : (at n k : ℕ) → Counting at n → (at ≡ length s → ⊥) → (t.form h).at s at ≡ Broken k
      → count_text t s ≡ Refused (1 + 6 * n + k)
  counting_broken at n k c z q = c ∙ ap (count_from h n) (found_broken (t.form h) (laws.facts h) s at (1 + 6 * n) k z q)

  pub counting_end : (at n : ℕ) → Counting at n → at ≡ length s → count_text t s ≡ Many h n
  counting_end at n c z =
      c ∙ ap (count_from h n) (found_end (t.form h) (laws.facts h) s at (1 + 6 * n) z) ∙ ap (Many h) (omega arith)

-- where a loop over the items stands that counts them as it goes: with it go the bounds that keep its numbers machine numbers
module _ {H K I : Type 0} (g : Grammar H K I) (laws : GrammarLaws g) (s : List ℕ) (h : H) where
  abbrev pub Stands : ℕ → ℕ → Type 0
  Stands at n = (length s ≤ longest) × (at ≤ length s) × (n ≤ at) × Counting (format_of g) (format_laws g laws) s h at n

  pub stands_start : (e : ℕ) → length s ≤ longest → name_at g.heads s 0 ≡ Named h e → Stands e 0
  stands_start e l q =
      (l, head_inside g laws s h e q, omega arith, counting_start (format_of g) (format_laws g laws) s h e l q)

  pub stands_next : (at n : ℕ) (x : I) (e : ℕ) → Stands at n → ((format_of g).form h).at s at ≡ Is x e → Stands e (n + 1)
  stands_next at n x e c q =
      let m = (under_facts g laws h).moves s at x e q in
      (c.0, m.1, omega (arith, m.0, c.2), counting_next (format_of g) (format_laws g laws) s h at n x e c.3 q)

  -- a broken line has a number that a machine number holds
  pub stands_small : (at n k : ℕ) → Stands at n → ((format_of g).form h).at s at ≡ Broken k → 1 + 6 * n + k < 2 ^ 64
  stands_small at n k c q =
      let b = (under_facts g laws h).item_open s at k q in
      omega (arith, b.which, b.short, c.0, c.1, c.2)

  pub stands_broken : (at n k : ℕ) → Stands at n → (at ≡ length s → ⊥) → ((format_of g).form h).at s at ≡ Broken k
      → count_text (format_of g) s ≡ Refused (1 + 6 * n + k)
  stands_broken at n k c z q = counting_broken (format_of g) (format_laws g laws) s h at n k c.3 z q

  pub stands_end : (at n : ℕ) → Stands at n → at ≡ length s → count_text (format_of g) s ≡ Many h n
  stands_end at n c z = counting_end (format_of g) (format_laws g laws) s h at n c.3 z
