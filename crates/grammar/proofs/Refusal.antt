-- The line that a refusal names is the first that breaks a rule.
use Prim.Native.Nat.{ℕ, zero, suc, ◌+◌, ◌-◌, ◌≤◌, ◌<◌}
use native.Mathlib.Omega.{arith}
use native.Mathlib.Decide.{dec_lt}
use native.Mathlib.Nat.{zero-add, suc-add}
use native.Mathlib.Numerals.{add-one}
use mathlib.Core.Path.{◌≡◌, refl, sym, ap, ◌∙◌}
use mathlib.Core.List.{List, [], ◌∷◌, ◌++◌, append_assoc}
use mathlib.Core.Bool.{Bool, true, false, cond}
use lib.Dec.{ltb}
use lib.ListN.{length, take, drop, length-append, take-append-drop}
use lib.Seq.{take-append-add, take-append-le, take-take}
use borrow.Author.Tests.{lt-ltb, le-ltb}
use Rattle.text.specs.Line.{joined}
use Rattle.text.proofs.Places.{rest_of, There}
use Rattle.text.proofs.Lines.{joined-append}
use Rattle.grammar.specs.Names.{NameAt, Named, Unknown, name_at}
use Rattle.grammar.specs.Items.{Is, Form, item_text, lines_of, AllGood, none, also, Found, Items, Breaks, with_first, found_from}
use Rattle.grammar.specs.Texts.{Format, first_line, longest, text_lines, whole_text, Read, Whole, Broken, under, on_head, read_text}
use Rattle.grammar.specs.Texts.{Opens, FirstBroken}
use Rattle.grammar.proofs.Names.{no_name}
use Rattle.grammar.proofs.Facts.{Facts, Laws}
use Rattle.grammar.proofs.Walk.{no_items, found_next, Past, along, At, ended, broke, went, look}
use Rattle.grammar.proofs.Grammar.{head_of, head_there, accepted}

module _ {I : Type 0} (f : Form I) (facts : Facts f) where
  -- the first lines of an item and of those after it
  take_past : (x : I) (xs : List I) (j : ℕ)
      → joined (take (6 + j) (lines_of f (x ∷ xs))) ≡ item_text f x ++ joined (take j (lines_of f xs))
  unfolding lines_of item_text
  take_past x xs j =
      ap (λ (k : ℕ). joined (take (k + j) (f.lines x ++ lines_of f xs))) (sym (facts.six x).many)
      ∙ ap joined (take-append-add (f.lines x) (lines_of f xs) j)
      ∙ joined-append (f.lines x) (take j (lines_of f xs))

  take_within : (x : I) (xs : List I) (j : ℕ) → j ≤ 6 → take j (lines_of f (x ∷ xs)) ≡ take j (f.lines x)
  unfolding lines_of
  take_within x xs j h = take-append-le j (f.lines x) (lines_of f xs) (omega (arith, (facts.six x).many))

  length-first : (x : I) (xs : List I) → length (lines_of f (x ∷ xs)) ≡ 6 + length (lines_of f xs)
  unfolding lines_of
  length-first x xs = length-append (f.lines x) (lines_of f xs) ∙ ap (λ (k : ℕ). k + length (lines_of f xs)) (facts.six x).many

  -- a broken line, and the lines before it as the first of some good items
  pub record Broke (s : List ℕ) (at b m : ℕ) : Type 0 where
    pub items : List I
    pub good : AllGood f items
    pub before : ℕ
    pub which : m ≡ b + before + 1
    pub enough : before < length (lines_of f items)
    pub rest : List ℕ
    pub text : drop at s ≡ joined (take before (lines_of f items)) ++ rest

  Breaking : List ℕ → ℕ → Type 0
  Breaking s at = (b m : ℕ) → found_from f s at b ≡ Breaks m → Broke s at b m

  pub broke_from : (s : List ℕ) (at b m : ℕ) → found_from f s at b ≡ Breaks m → Broke s at b m
  unfolding Breaking
  broke_from s = along f facts s (Breaking s) (λ at ih b m h. go at ih b m h (look f facts s at b))
    where
      later : (at : ℕ) (x : I) (e b m : ℕ) → f.at s at ≡ Is x e → Breaking s e
          → (y : Found I) → found_from f s e (b + 6) ≡ y → with_first x y ≡ Breaks m → Broke s at b m
      later at x e b m q ih (Items xs) p h = absurd (no_items m (x ∷ xs) (sym h))
      later at x e b m q ih (Breaks k) p h =
          let w = facts.item_text_lem s at x e q in
          let t = ih (b + 6) m (p ∙ h) in
          let u = joined (take t.before (lines_of f t.items)) in
          let apart : drop at s ≡ item_text f x ++ u ++ t.rest =
          w.text.text ∙ ap (λ (z : List ℕ). item_text f x ++ z) t.text ∙ sym (append_assoc (item_text f x) u t.rest) in
          record {
            items = x ∷ t.items;
            good = also w.good t.good;
            before = 6 + t.before;
            which = omega (arith, t.which);
            enough = omega (arith, t.enough, length-first x t.items);
            rest = t.rest;
            text = apart ∙ ap (λ (z : List ℕ). z ++ t.rest) (sym (take_past x t.items t.before));
          }

      go : (at : ℕ) → Past f facts s (Breaking s) at → (b m : ℕ) → found_from f s at b ≡ Breaks m → At f facts s at b → Broke s at b m
      go at ih b m h (ended p q) = absurd (no_items m [] (sym h ∙ q))
      go at ih b m h (went x e p q) = later at x e b m p (ih x e p) (found_from f s e (b + 6)) refl (sym q ∙ h)
      go at ih b m h (broke k p q) =
          let same : b + k ≡ m = cc in
          let o = facts.item_open s at k p in
          let within = take_within o.maybe [] o.before (omega (arith, o.short)) in
          record {
            items = o.maybe ∷ [];
            good = also o.good none;
            before = o.before;
            which = omega (arith, o.which);
            enough = omega (arith, o.short, length-first o.maybe []);
            rest = o.rest;
            text = o.text ∙ ap (λ (ls : List (List ℕ)). joined ls ++ o.rest) (sym within);
          }

  later-breaks : (x : I) (y : Found I) (m : ℕ) → with_first x y ≡ Breaks m → y ≡ Breaks m
  later-breaks x (Items xs) m h = absurd (no_items m (x ∷ xs) (sym h))
  later-breaks x (Breaks k) m h = h

  -- where the first j lines of good items stand, a line that breaks a rule comes later
  pub late_from : (xs : List I) (s : List ℕ) (at b m j : ℕ) (rest : List ℕ) → AllGood f xs
      → j ≤ length (lines_of f xs) → drop at s ≡ joined (take j (lines_of f xs)) ++ rest
      → found_from f s at b ≡ Breaks m → b + j < m
  late_from [] s at b m j rest g l e h = omega (arith, (broke_from s at b m h).which, none-there)
    where
      none-there : length (lines_of f []) ≡ 0
      none-there = unfold lines_of in refl
  late_from (x ∷ xs) s at b m j rest (also g gs) l e h =
      go (dec_lt 6 j) (look f facts s at b) (λ p. late_from xs s p (b + 6) m (j - 6) rest gs (omega (arith, length-first x xs)))
    where
      u : List ℕ
      u = joined (take (j - 6) (lines_of f xs))

      -- the law for the items after the first
      Later : Type 0
      Later = (p : ℕ) → drop p s ≡ u ++ rest → found_from f s p (b + 6) ≡ Breaks m → b + 6 + (j - 6) < m

      inside : j ≤ 6 → At f facts s at b → b + j < m
      inside c (ended p q) = absurd (no_items m [] (sym h ∙ q))
      inside c (broke k p q) =
          let same : b + k ≡ m = cc in
          let first = e ∙ ap (λ (ls : List (List ℕ)). joined ls ++ rest) (take_within x xs j c) in
          omega (arith, facts.item_late x j s at k rest g first p)
      inside c (went y p r q) = omega (arith, (broke_from s p (b + 6) m (later-breaks y (found_from f s p (b + 6)) m (sym q ∙ h))).which)

      past : 6 < j → Later → b + j < m
      past c ih =
          let k : j ≡ 6 + (j - 6) = omega arith in
          let apart = ap (λ (i : ℕ). joined (take i (lines_of f (x ∷ xs)))) k ∙ take_past x xs (j - 6) in
          let e' : drop at s ≡ item_text f x ++ (u ++ rest) =
          e ∙ ap (λ (z : List ℕ). z ++ rest) apart ∙ append_assoc (item_text f x) u rest in
          let p = at + length (item_text f x) in
          let q = found_next f facts s at b x p (facts.item_of x s at (u ++ rest) g e') in
          omega (arith, ih p (rest_of s (item_text f x) (u ++ rest) at e') (later-breaks x (found_from f s p (b + 6)) m (sym q ∙ h)))

      go : Dec (6 < j) → At f facts s at b → Later → b + j < m
      go (no c) w ih = inside (omega arith) w
      go (yes c) w ih = past c ih

module _ {H I : Type 0} (t : Format H I) (laws : Laws t) where
  opens-none : (s : List ℕ) → Opens t 0 s
  unfolding joined
  opens-none s = record { head = laws.any; items = []; good = none; enough = omega arith; rest = s; text = refl }

  opens-text : (k : ℕ) (s : List ℕ) (o : Opens t (suc k) s)
      → s ≡ first_line t o.head ++ (joined (take k (lines_of (t.form o.head) o.items)) ++ o.rest)
  unfolding text_lines joined
  opens-text k s o = o.text ∙ append_assoc (first_line t o.head) (joined (take k (lines_of (t.form o.head) o.items))) o.rest

  opens-head : (k : ℕ) (s : List ℕ) (o : Opens t (suc k) s) → name_at t.heads s 0 ≡ Named o.head (length (first_line t o.head))
  opens-head k s o = head_of t laws s o.head (joined (take k (lines_of (t.form o.head) o.items)) ++ o.rest) (opens-text k s o)

  late : (k : ℕ) (s : List ℕ) (o : Opens t (suc k) s)
      → found_from (t.form o.head) s (length (first_line t o.head)) 1 ≡ Breaks (suc k) → ⊥
  unfolding text_lines
  late k s o h =
      let f = t.form o.head in
      let first = first_line t o.head in
      let u = joined (take k (lines_of f o.items)) in
      let past = rw zero-add at (rest_of s first (u ++ o.rest) 0 (opens-text k s o)) in
      let more = o.enough in
      omega (arith, late_from f (laws.facts o.head) o.items s (length first) 1 (suc k) k o.rest o.good (omega arith) past h)

  from-head : (h : H) (e k : ℕ) (s : List ℕ) → There s 0 (first_line t h) e → found_from (t.form h) s e 1 ≡ Breaks (suc k) → Opens t k s
  unfolding text_lines joined
  from-head h e k s q c =
      let first = first_line t h in
      let w = broke_from (t.form h) (laws.facts h) s e 1 (suc k) c in
      let u = joined (take w.before (lines_of (t.form h) w.items)) in
      let same : k ≡ suc w.before = omega (arith, w.which) in
      rw same (record {
        head = h;
        items = w.items;
        good = w.good;
        enough = omega (arith, w.enough);
        rest = w.rest;
        text = q.text ∙ ap (λ (z : List ℕ). first ++ z) w.text ∙ sym (append_assoc first u w.rest);
      })

  -- the first lines of a text begin with fewer of them, so only one line can be the first
  opens-less : (k : ℕ) (s : List ℕ) → Opens t (suc k) s → Opens t k s
  opens-less k s o =
      let ls = text_lines t o.head o.items in
      let u = drop k (take (suc k) ls) in
      let fewer = take-take k (suc k) ls (omega arith) in
      let cut : take (suc k) ls ≡ take k ls ++ u =
      sym (take-append-drop k (take (suc k) ls)) ∙ ap (λ (z : List (List ℕ)). z ++ u) fewer in
      let apart = ap joined cut ∙ joined-append (take k ls) u in
      record {
        head = o.head;
        items = o.items;
        good = o.good;
        enough = omega (arith, o.enough);
        rest = joined u ++ o.rest;
        text = o.text ∙ ap (λ (z : List ℕ). z ++ o.rest) apart ∙ append_assoc (joined (take k ls)) (joined u) o.rest;
      }

  opens-down : (d k : ℕ) (s : List ℕ) → Opens t (d + k) s → Opens t k s
  opens-down zero k s o = rw zero-add at o
  opens-down (suc d) k s o = opens-down d k s (opens-less (d + k) s (rw suc-add at o))

  opens-upto : (k j : ℕ) (s : List ℕ) → k ≤ j → Opens t j s → Opens t k s
  opens-upto k j s h o = opens-down (j - k) k s (let e : j ≡ j - k + k = omega arith in rw e at o)

  pub one-first : (j k : ℕ) (s : List ℕ) → FirstBroken t j s → FirstBroken t k s → j ≡ k
  one-first j k s p q = go (dec_lt j k) (dec_lt k j)
    where
      go : Dec (j < k) → Dec (k < j) → j ≡ k
      go (yes l) d = absurd (p.broken (opens-upto (j + 1) k s (omega arith) q.before))
      go (no l) (yes g) = absurd (q.broken (opens-upto (k + 1) j s (omega arith) p.before))
      go (no l) (no g) = omega arith

  -- the line that a refusal names is the first that breaks a rule
  pub first_broken : (s : List ℕ) (k : ℕ) → read_text t s ≡ Broken (suc k) → FirstBroken t k s
  unfolding read_text
  first_broken s k = go (ltb longest (length s)) (name_at t.heads s 0) refl
    where
      no_head : Opens t 1 s → name_at t.heads s 0 ≡ Unknown → ⊥
      no_head o q = no_name o.head (length (first_line t o.head)) (sym q ∙ opens-head 0 s o)

      other : (h : H) (e : ℕ) → name_at t.heads s 0 ≡ Named h e → found_from (t.form h) s e 1 ≡ Breaks (suc k) → Opens t (suc k) s → ⊥
      other h e q r o =
          let one : Named h e ≡ Named o.head (length (first_line t o.head)) = sym q ∙ opens-head k s o in
          let same : h ≡ o.head = cc in
          let past : e ≡ length (first_line t o.head) = cc in
          late k s o (rw (same, past) at r)

      found : (h : H) (e : ℕ) (x : Found I) → name_at t.heads s 0 ≡ Named h e
          → found_from (t.form h) s e 1 ≡ x → under h x ≡ Broken (suc k) → FirstBroken t k s
      found h e (Items xs) q r c = absurd (let z : ◌≡◌ {A = ℕ} 0 1 = cc in omega arith)
      found h e (Breaks j) q r c =
          let same : j ≡ suc k = cc in
          let breaks = r ∙ ap Breaks same in
          record { before = from-head h e k s (head_there t laws s h e q) breaks; broken = λ o. other h e q breaks (rw add-one at o) }

      go : (b : Bool) (n : NameAt H) → name_at t.heads s 0 ≡ n
          → cond b (Broken 0) (on_head n (λ h e. under h (found_from (t.form h) s e 1))) ≡ Broken (suc k) → FirstBroken t k s
      go true n q c = absurd (let z : 0 ≡ suc k = cc in omega arith)
      go false Unknown q c =
          let z : 1 ≡ suc k = cc in
          let none : k ≡ 0 = omega arith in
          rw none (record { before = opens-none s; broken = λ o. no_head o q })
      go false (Named h e) q c = found h e (found_from (t.form h) s e 1) q refl c

  too_long_lem : (s : List ℕ) → read_text t s ≡ Broken 0 → length s ≤ longest → ⊥
  unfolding read_text
  too_long_lem s h l = go (name_at t.heads s 0) (rw (le-ltb longest (length s) l) at h)
    where
      found : (h : H) (e : ℕ) (x : Found I) → found_from (t.form h) s e 1 ≡ x → under h x ≡ Broken 0 → ⊥
      found h e (Items xs) r c = let z : ◌≡◌ {A = ℕ} 0 1 = cc in omega arith
      found h e (Breaks j) r c =
          let same : j ≡ 0 = cc in
          omega (arith, (broke_from (t.form h) (laws.facts h) s e 1 j r).which)

      go : (n : NameAt H) → on_head n (λ h e. under h (found_from (t.form h) s e 1)) ≡ Broken 0 → ⊥
      go Unknown c = let z : ◌≡◌ {A = ℕ} 1 0 = cc in omega arith
      go (Named h e) c = found h e (found_from (t.form h) s e 1) refl c

  -- a text that is not too long and is none of this format is refused at exactly its first broken line
  pub refused : (s : List ℕ) (k : ℕ) → length s ≤ longest
      → ((h : H) (xs : List I) → AllGood (t.form h) xs → s ≡ whole_text t h xs → ⊥) → FirstBroken t k s → read_text t s ≡ Broken (suc k)
  refused s k l n p = go (read_text t s) refl
    where
      go : (x : Read H I) → read_text t s ≡ x → read_text t s ≡ Broken (suc k)
      go (Whole h xs) q = let a = accepted t laws s h xs q in absurd (n h xs a.good a.text)
      go (Broken zero) q = absurd (too_long_lem s q l)
      go (Broken (suc j)) q = q ∙ ap (λ (i : ℕ). Broken (suc i)) (one-first j k s (first_broken s j q) p)

  -- and one that is too long at line 0, and nothing else is
  pub long_refused : (s : List ℕ) → longest < length s → read_text t s ≡ Broken 0
  unfolding read_text
  long_refused s h = rw (lt-ltb longest (length s) h)

  pub refused_long : (s : List ℕ) → read_text t s ≡ Broken 0 → longest < length s
  refused_long s h = go (dec_lt longest (length s))
    where
      go : Dec (longest < length s) → longest < length s
      go (yes l) = l
      go (no l) = absurd (too_long_lem s h (omega arith))
