-- The grammar both ways: what is accepted is the text of its first line and its items, and such a text is accepted as them.
use Prim.Native.Nat.{ℕ, ◌+◌, ◌≤◌}
use native.Mathlib.Omega.{arith}
use native.Mathlib.Nat.{zero-add}
use mathlib.Core.Path.{◌≡◌, refl, sym, ap, ◌∙◌}
use mathlib.Core.List.{List, [], ◌∷◌, ◌++◌}
use mathlib.Core.Bool.{Bool, true, false, cond}
use lib.Dec.{ltb}
use lib.ListN.{length, drop, length-append}
use lib.Seq.{drop-length}
use borrow.Author.Tests.{le-ltb, ltb-false}
use Rattle.text.specs.Line.{joined}
use Rattle.text.proofs.Places.{rest_of, There}
use Rattle.text.proofs.Lines.{joined-append}
use Rattle.grammar.specs.Items.{Is, Form, item_text, lines_of, AllGood, none, also, Found, Items, Breaks, with_first, found_from}
use Rattle.grammar.specs.Texts.{Format, first_line, longest, text_lines, whole_text, Read, Whole, Broken, under, on_head, read_text}
use Rattle.grammar.specs.Names.{NameAt, Named, Unknown, name_at}
use Rattle.grammar.proofs.Names.{line_of, line_there}
use Rattle.grammar.proofs.Facts.{AllLines, SixLines, Facts, Laws}
use Rattle.grammar.proofs.Facts.{none as no_line, also as one_more}
use Rattle.grammar.proofs.Walk.{no_items, found_end, found_next, Past, along, At, ended, broke, went, look}

module _ {I : Type 0} (f : Form I) (facts : Facts f) where
  -- the text of some items, one item at a time
  pub lines_first : (x : I) (xs : List I) → joined (lines_of f (x ∷ xs)) ≡ item_text f x ++ joined (lines_of f xs)
  unfolding lines_of item_text
  lines_first x xs = joined-append (f.lines x) (lines_of f xs)

  -- what is found from a place on is the text that stands there
  pub record Rest (s : List ℕ) (at : ℕ) (xs : List I) : Type 0 where
    pub text : drop at s ≡ joined (lines_of f xs)
    pub good : AllGood f xs

  Reads : List ℕ → ℕ → Type 0
  Reads s at = (b : ℕ) (xs : List I) → found_from f s at b ≡ Items xs → Rest s at xs

  pub rest_text : (s : List ℕ) (at b : ℕ) (xs : List I) → found_from f s at b ≡ Items xs → Rest s at xs
  unfolding Reads lines_of joined
  rest_text s = along f facts s (Reads s) (λ at ih b xs h. go at ih b xs h (look f facts s at b))
    where
      first : (at : ℕ) (x : I) (e : ℕ) (xs : List I) → f.at s at ≡ Is x e → Reads s e
          → (b : ℕ) (y : Found I) → found_from f s e b ≡ y → with_first x y ≡ Items xs → Rest s at xs
      first at x e xs q ih b (Breaks k) p h = absurd (no_items k xs h)
      first at x e xs q ih b (Items ys) p h =
          let w = facts.item_text_lem s at x e q in
          let t = ih b ys p in
          let same : x ∷ ys ≡ xs = cc in
          rw (← same) (record {
            text = w.text.text ∙ ap (λ (z : List ℕ). item_text f x ++ z) t.text ∙ sym (lines_first x ys);
            good = also w.good t.good;
          })

      go : (at : ℕ) → Past f facts s (Reads s) at → (b : ℕ) (xs : List I) → found_from f s at b ≡ Items xs → At f facts s at b → Rest s at xs
      go at ih b xs h (ended p q) =
          let same : ◌≡◌ {A = List I} [] xs = cc in
          rw (← same) (record { text = ap (λ (k : ℕ). drop k s) p ∙ drop-length s; good = none })
      go at ih b xs h (broke k p q) = absurd (no_items (b + k) xs (sym q ∙ h))
      go at ih b xs h (went x e p q) = first at x e xs p (ih x e p) (b + 6) (found_from f s e (b + 6)) refl (sym q ∙ h)

  -- and the text of good items, to the last byte, is found as them
  pub rest_found : (xs : List I) (s : List ℕ) (at b : ℕ) → AllGood f xs
      → drop at s ≡ joined (lines_of f xs) → at + length (joined (lines_of f xs)) ≡ length s → found_from f s at b ≡ Items xs
  unfolding lines_of joined
  rest_found [] s at b g e l = found_end f facts s at b (omega arith)
  rest_found (x ∷ xs) s at b (also g gs) e l =
      let t = joined (lines_of f xs) in
      let e' : drop at s ≡ item_text f x ++ t = e ∙ lines_first x xs in
      let size = ap length (lines_first x xs) ∙ length-append (item_text f x) t in
      let p = at + length (item_text f x) in
      let others = rest_found xs s p (b + 6) gs (rest_of s (item_text f x) t at e') (omega arith) in
      found_next f facts s at b x p (facts.item_of x s at t g e') ∙ ap (with_first x) others

  -- each line is one line of text
  append-lines : (ls ms : List (List ℕ)) → AllLines ls → AllLines ms → AllLines (ls ++ ms)
  append-lines [] ms no_line q = q
  append-lines (l ∷ ls) ms (one_more o p) q = one_more o (append-lines ls ms p q)

  pub lines_one : (xs : List I) → AllLines (lines_of f xs)
  unfolding lines_of
  lines_one [] = no_line
  lines_one (x ∷ xs) = append-lines (f.lines x) (lines_of f xs) (facts.six x).each (lines_one xs)

module _ {H I : Type 0} (t : Format H I) (laws : Laws t) where
  pub no_whole : (k : ℕ) (h : H) (xs : List I) → Broken k ≡ Whole h xs → ⊥
  no_whole k h xs e = let z : ◌≡◌ {A = ℕ} 0 1 = cc in omega arith

  text-is : (h : H) (xs : List I) → whole_text t h xs ≡ first_line t h ++ joined (lines_of (t.form h) xs)
  unfolding whole_text text_lines joined
  text-is h xs = refl

  pub text_length : (h : H) (xs : List I)
      → length (first_line t h) + length (joined (lines_of (t.form h) xs)) ≡ length (whole_text t h xs)
  text_length h xs = sym (ap length (text-is h xs) ∙ length-append (first_line t h) (joined (lines_of (t.form h) xs)))

  -- a first line is known where it stands, and what is known as one stands there
  pub head_of : (s : List ℕ) (h : H) (rest : List ℕ) → s ≡ first_line t h ++ rest → name_at t.heads s 0 ≡ Named h (length (first_line t h))
  unfolding first_line
  head_of s h rest e = line_of t.heads laws.heads s 0 h rest e ∙ ap (Named h) (zero-add (length (first_line t h)))

  pub head_there : (s : List ℕ) (h : H) (e : ℕ) → name_at t.heads s 0 ≡ Named h e → There s 0 (first_line t h) e
  unfolding first_line
  head_there s h e = line_there t.heads laws.heads s 0 h e

  -- what is accepted is the text of its first line and its items
  pub record Accepted (s : List ℕ) (h : H) (xs : List I) : Type 0 where
    pub text : s ≡ whole_text t h xs
    pub good : AllGood (t.form h) xs
    pub short : length s ≤ longest
    pub found : found_from (t.form h) s (length (first_line t h)) 1 ≡ Items xs

  pub accepted : (s : List ℕ) (h : H) (xs : List I) → read_text t s ≡ Whole h xs → Accepted s h xs
  unfolding read_text
  accepted s h xs = go (ltb longest (length s)) refl (name_at t.heads s 0) refl
    where
      rest : (g : H) (e : ℕ) (x : Found I) → ltb longest (length s) ≡ false → There s 0 (first_line t g) e
          → found_from (t.form g) s e 1 ≡ x → under g x ≡ Whole h xs → Accepted s h xs
      rest g e (Breaks k) p q r c = absurd (no_whole k h xs c)
      rest g e (Items ys) p q r c =
          let same : g ≡ h = cc in
          let all : ys ≡ xs = cc in
          let w = rest_text (t.form g) (laws.facts g) s e 1 ys r in
          rw (← same, ← all) (record {
            text = q.text ∙ ap (λ (z : List ℕ). first_line t g ++ z) w.text ∙ sym (text-is g ys);
            good = w.good;
            short = ltb-false longest (length s) p;
            found = rw (q.past ∙ zero-add (length (first_line t g))) at r;
          })

      go : (b : Bool) → ltb longest (length s) ≡ b → (n : NameAt H) → name_at t.heads s 0 ≡ n
          → cond b (Broken 0) (on_head n (λ g e. under g (found_from (t.form g) s e 1))) ≡ Whole h xs → Accepted s h xs
      go true p n q c = absurd (no_whole 0 h xs c)
      go false p Unknown q c = absurd (no_whole 1 h xs c)
      go false p (Named g e) q c = rest g e (found_from (t.form g) s e 1) p (head_there s g e q) refl c

  -- the text of a first line and good items, if it is not too long, is accepted as them
  pub accepts : (h : H) (xs : List I) → AllGood (t.form h) xs → length (whole_text t h xs) ≤ longest
      → read_text t (whole_text t h xs) ≡ Whole h xs
  unfolding read_text
  accepts h xs g l =
      let s = whole_text t h xs in
      let u = joined (lines_of (t.form h) xs) in
      let past = rw zero-add at (rest_of s (first_line t h) u 0 (text-is h xs)) in
      let found = rest_found (t.form h) (laws.facts h) xs s (length (first_line t h)) 1 g past (text_length h xs) in
      rw (le-ltb longest (length s) l, head_of s h u (text-is h xs), found)

  -- so no two first lines and lists of items have one text
  pub one_text : (h g : H) (xs ys : List I) → AllGood (t.form h) xs → AllGood (t.form g) ys → length (whole_text t h xs) ≤ longest
      → whole_text t h xs ≡ whole_text t g ys → Whole h xs ≡ Whole g ys
  one_text h g xs ys x y l e = sym (accepts h xs x l) ∙ ap (read_text t) e ∙ accepts g ys y (rw (← e) l)

  -- each line of a text is one line
  pub text_one : (h : H) (xs : List I) → AllLines (text_lines t h xs)
  unfolding text_lines first_line
  text_one h xs = one_more (laws.heads.one h) (lines_one (t.form h) (laws.facts h) xs)
