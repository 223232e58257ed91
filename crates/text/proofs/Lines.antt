-- Lines are read as their numbers, what is read is the lines' text, and the line that breaks its rule is the first that does.
use Prim.Native.Nat.{ℕ, zero, suc, ◌+◌, ◌%◌, ◌^◌, ◌≤◌, ◌<◌}
use native.Mathlib.Omega.{arith}
use mathlib.Core.Path.{◌≡◌, refl, sym, ap, ◌∙◌}
use mathlib.Core.List.{List, [], ◌∷◌, ◌++◌, append_assoc}
use mathlib.Core.Bool.{Bool, true, false, cond}
use Rattle.std.proofs.lemmas.Option.{some_pair_parts}
use lib.Dec.{leb}
use lib.ListN.{length, take, drop, length-append}
use borrow.Author.Tests.{ne_eqb, le-leb, leb-true}
use Rattle.text.specs.Number.{Number, Is, Bad}
use Rattle.text.specs.Decimal.{decimal, number_text, number_at}
use Rattle.text.specs.Bytes.{starts}
use Rattle.text.specs.Line.{line_text, at_most, field_at, Rule, line_texts, one_line, joined, Within, none, also}
use Rattle.text.specs.Line.{Lines, Read, Breaks, on_field, with_first, lines_at}
use Rattle.text.proofs.Decimal.{decimal_small, decimal_more, by_tens}
use Rattle.text.proofs.Numbers.{number_of, text_of, no_number}
use Rattle.text.proofs.Bytes.{starts_of}
use Rattle.text.proofs.Places.{rest_of, There, there, then, key_there}

-- one line
pub field_of : (s : List ℕ) (at : ℕ) (key : List ℕ) (n most : ℕ) (rest : List ℕ)
    → drop at s ≡ line_text key n ++ rest → n ≤ most → n < 2 ^ 64
    → field_at s at key most ≡ Is n (at + length (line_text key n))
unfolding field_at number_at line_text
field_of s at key n most rest e small fits =
    let e' : drop at s ≡ key ++ (number_text n ++ rest) = e ∙ append_assoc key (number_text n) rest in
    let found : starts key (drop at s) ≡ true = rw e' (starts_of key (number_text n ++ rest)) in
    rw (found, rest_of s key (number_text n ++ rest) at e', number_of n fits rest (at + length key), le-leb n most small)
    (ap (Is n) (simp length-append (omega arith)))

pub record Line (s : List ℕ) (at : ℕ) (key : List ℕ) (n e most : ℕ) : Type 0 where
  pub text : There s at (line_text key n) e
  pub small : n ≤ most
  pub fits : n < 2 ^ 64

pub field_text : (s : List ℕ) (at : ℕ) (key : List ℕ) (n most e : ℕ) → field_at s at key most ≡ Is n e → Line s at key n e most
unfolding field_at line_text number_at
field_text s at key n most e = go (starts key (drop at s)) refl
  where
    past : ℕ
    past = at + length key

    limit : (x y : ℕ) (b : Bool) → leb x most ≡ b → number_at s past ≡ Is x y → There s at key past
        → cond b (Is x y) Bad ≡ Is n e → Line s at key n e most
    limit x y false l q k h = absurd (no_number n e h)
    limit x y true l q k h =
        let t = text_of (drop past s) past n e (q ∙ h) in
        let same = (some_pair_parts x n y e h).0 in
        record {
          text = then s at key past (number_text n) e k (there s (number_text n) t.rest past e t.text t.past);
          small = omega (arith, leb-true x most l);
          fits = t.fits;
        }

    number : (m : Number) → number_at s past ≡ m → There s at key past → at_most most m ≡ Is n e → Line s at key n e most
    number Bad q k h = absurd (no_number n e h)
    number (Is x y) q k h = limit x y (leb x most) refl q k h

    go : (b : Bool) → starts key (drop at s) ≡ b → cond b (at_most most (number_at s past)) Bad ≡ Is n e → Line s at key n e most
    go false q h = absurd (no_number n e h)
    go true q h = number (number_at s past) refl (key_there s at key q) h

-- a line is one line, where its key has no newline
digits-plain : (n : ℕ) (t : List ℕ) → one_line (decimal n ++ t) ≡ one_line t
unfolding one_line
digits-plain = by_tens (λ (n : ℕ). (t : List ℕ) → one_line (decimal n ++ t) ≡ one_line t)
    (λ n h t. rw (decimal_small n h, ne_eqb (48 + n) 10 (λ e. omega arith)))
    (λ n h ih t. rw (decimal_more n h, append_assoc, ih, ne_eqb (48 + n % 10) 10 (λ e. omega arith)))

pub line-one : (key : List ℕ) (n : ℕ) → ((t : List ℕ) → one_line (key ++ t) ≡ one_line t) → one_line (line_text key n) ≡ true
unfolding line_text number_text one_line
line-one key n plain = plain (decimal n ++ (10 ∷ [])) ∙ digits-plain n (10 ∷ [])

-- lines joined
pub joined-append : (xs ys : List (List ℕ)) → joined (xs ++ ys) ≡ joined xs ++ joined ys
unfolding joined
joined-append [] ys = refl
joined-append (x ∷ xs) ys = ap (λ (t : List ℕ). x ++ t) (joined-append xs ys) ∙ sym (append_assoc x (joined xs) (joined ys))

-- all the lines of a list of rules
pub lines_of : (rs : List Rule) (ns : List ℕ) (s : List ℕ) (at line : ℕ) (rest : List ℕ)
    → Within rs ns → drop at s ≡ joined (line_texts rs ns) ++ rest
    → lines_at s at line rs ≡ Read ns (at + length (joined (line_texts rs ns)))
unfolding lines_at line_texts joined
lines_of [] _ s at line rest none e = ap (Read []) (omega arith)
lines_of (r ∷ rs) _ s at line rest (also {n = n} {ns = ns} small fits w) e =
    let l = line_text r.key n in
    let later = joined (line_texts rs ns) ++ rest in
    let e' : drop at s ≡ l ++ later = e ∙ append_assoc l (joined (line_texts rs ns)) rest in
    let first = field_of s at r.key n r.most later e' small fits in
    let others = lines_of rs ns s (at + length l) (line + 1) rest w (rest_of s l later at e') in
    rw (first, others) (ap (Read (n ∷ ns)) (simp length-append (omega arith)))

pub record Spelled (s : List ℕ) (at : ℕ) (rs : List Rule) (ns : List ℕ) (e : ℕ) : Type 0 where
  pub text : There s at (joined (line_texts rs ns)) e
  pub within : Within rs ns

pub no_lines : (k : ℕ) (ns : List ℕ) (e : ℕ) → Breaks k ≡ Read ns e → ⊥
no_lines k ns e h = let z : ◌≡◌ {A = ℕ} 0 1 = cc in omega arith

-- the law for the lines after the first
abbrev Texts : List ℕ → ℕ → List Rule → Type 0
Texts s line rs = (a : ℕ) (ns : List ℕ) (e : ℕ) → lines_at s a (line + 1) rs ≡ Read ns e → Spelled s a rs ns e

pub lines_text : (rs : List Rule) (s : List ℕ) (at line : ℕ) (ns : List ℕ) (e : ℕ) → lines_at s at line rs ≡ Read ns e → Spelled s at rs ns e
unfolding lines_at line_texts joined
lines_text [] s at line ns e h =
    let p : ◌≡◌ {A = List ℕ} [] ns = cc in
    let q : at ≡ e = cc in
    rw (← p, ← q) (record { text = record { text = refl; past = omega arith }; within = none })
lines_text (r ∷ rs) s at line ns e h = go (field_at s at r.key r.most) refl (λ a. lines_text rs s a (line + 1)) h
  where
    rest : (n a : ℕ) → Line s at r.key n a r.most → (x : Lines) → lines_at s a (line + 1) rs ≡ x → Texts s line rs
        → with_first n x ≡ Read ns e → Spelled s at (r ∷ rs) ns e
    rest n a l (Breaks k) q later h = absurd (no_lines k ns e h)
    rest n a l (Read ms b) q later h =
        let t = later a ms b q in
        let p : n ∷ ms ≡ ns = cc in
        let g : b ≡ e = cc in
        rw (← p, ← g) (record {
          text = then s at (line_text r.key n) a (joined (line_texts rs ms)) b l.text t.text;
          within = also l.small l.fits t.within;
        })

    go : (x : Number) → field_at s at r.key r.most ≡ x → Texts s line rs
        → on_field x line (λ n a. with_first n (lines_at s a (line + 1) rs)) ≡ Read ns e → Spelled s at (r ∷ rs) ns e
    go Bad q later h = absurd (no_lines line ns e h)
    go (Is n a) q later h = rest n a (field_text s at r.key n r.most a q) (lines_at s a (line + 1) rs) refl later h

-- the line that breaks its rule: the lines before it are the first of some numbers that keep the rules
pub record Opening (s : List ℕ) (at line : ℕ) (rs : List Rule) (k : ℕ) : Type 0 where
  pub numbers : List ℕ
  pub within : Within rs numbers
  pub before : ℕ
  pub which : k ≡ line + before
  pub short : before < length rs
  pub rest : List ℕ
  pub text : drop at s ≡ joined (take before (line_texts rs numbers)) ++ rest

abbrev Openings : List ℕ → ℕ → List Rule → ℕ → Type 0
Openings s line rs k = (a : ℕ) → lines_at s a (line + 1) rs ≡ Breaks k → Opening s a (line + 1) rs k

-- zeros keep every rule
unfoldable pub zeros : List Rule → List ℕ
zeros [] = []
zeros (r ∷ rs) = 0 ∷ zeros rs

pub zeros_within : (rs : List Rule) → Within rs (zeros rs)
unfolding zeros
zeros_within [] = none
zeros_within (r ∷ rs) = also {r = r} {n = 0} (omega arith) (omega arith) (zeros_within rs)

pub lines_open : (rs : List Rule) (s : List ℕ) (at line k : ℕ) → lines_at s at line rs ≡ Breaks k → Opening s at line rs k
unfolding lines_at line_texts joined
lines_open [] s at line k h = absurd (no_lines k [] at (sym h))
lines_open (r ∷ rs) s at line k h = go (field_at s at r.key r.most) refl (λ a. lines_open rs s a (line + 1) k) h
  where
    rest : (n a : ℕ) → Line s at r.key n a r.most → (x : Lines) → lines_at s a (line + 1) rs ≡ x → Openings s line rs k
        → with_first n x ≡ Breaks k → Opening s at line (r ∷ rs) k
    rest n a l (Read ms b) q later h = absurd (no_lines k (n ∷ ms) b (sym h))
    rest n a l (Breaks j) q later h =
        let o = later a (q ∙ h) in
        let t = line_text r.key n in
        let u = joined (take o.before (line_texts rs o.numbers)) in
        record {
          numbers = n ∷ o.numbers;
          within = also l.small l.fits o.within;
          before = suc o.before;
          which = omega (arith, o.which);
          short = omega (arith, o.short);
          rest = o.rest;
          text = l.text.text ∙ ap (λ (z : List ℕ). t ++ z) o.text ∙ sym (append_assoc t u o.rest);
        }

    go : (x : Number) → field_at s at r.key r.most ≡ x → Openings s line rs k
        → on_field x line (λ n a. with_first n (lines_at s a (line + 1) rs)) ≡ Breaks k → Opening s at line (r ∷ rs) k
    go Bad q later h =
        let p : line ≡ k = cc in
        record {
          numbers = zeros (r ∷ rs);
          within = zeros_within (r ∷ rs);
          before = zero;
          which = omega arith;
          short = omega arith;
          rest = drop at s;
          text = refl;
        }
    go (Is n a) q later h = rest n a (field_text s at r.key n r.most a q) (lines_at s a (line + 1) rs) refl later h

-- and it is not one of them: where the first i lines of such numbers stand, a line that breaks its rule comes later
pub lines_late : (rs : List Rule) (ns : List ℕ) (i : ℕ) (s : List ℕ) (at line k : ℕ) (rest : List ℕ)
    → Within rs ns → drop at s ≡ joined (take i (line_texts rs ns)) ++ rest
    → lines_at s at line rs ≡ Breaks k → line + i ≤ k
unfolding lines_at line_texts joined
lines_late [] ns i s at line k rest w e h = absurd (no_lines k [] at (sym h))
lines_late (r ∷ rs) _ zero s at line k rest w e h = omega (arith, (lines_open (r ∷ rs) s at line k h).which)
lines_late (r ∷ rs) _ (suc i) s at line k rest (also {n = n} {ns = ns} small fits w) e h =
    let l = line_text r.key n in
    let later = joined (take i (line_texts rs ns)) ++ rest in
    let e' : drop at s ≡ l ++ later = e ∙ append_assoc l (joined (take i (line_texts rs ns))) rest in
    let a = at + length l in
    let h' : with_first n (lines_at s a (line + 1) rs) ≡ Breaks k = rw (field_of s at r.key n r.most later e' small fits) at h in
    go (lines_at s a (line + 1) rs) refl (lines_late rs ns i s a (line + 1) k rest w (rest_of s l later at e')) h'
  where
    others : Lines
    others = lines_at s (at + length (line_text r.key n)) (line + 1) rs

    go : (x : Lines) → others ≡ x → (others ≡ Breaks k → line + 1 + i ≤ k)
        → with_first n x ≡ Breaks k → line + suc i ≤ k
    go (Read ms b) q ih h = absurd (no_lines k (n ∷ ms) b (sym h))
    go (Breaks j) q ih h = omega (arith, ih (q ∙ h))
