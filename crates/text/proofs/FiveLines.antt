-- Five lines are read as their numbers, what is read is their text, and a broken line is the first that breaks a rule.
use Prim.Native.Nat.{ℕ, ◌+◌, ◌^◌, ◌≤◌, ◌<◌}
use native.Mathlib.Omega.{arith}
use mathlib.Core.Path.{◌≡◌, refl, sym, ap, subst, ◌∙◌}
use mathlib.Core.List.{List, [], ◌++◌}
use mathlib.Core.Bool.{Bool, true, false}
use lib.ListN.{length, take, drop}
use Rattle.text.specs.Line.{joined, Within, none, also, Lines, Read, Breaks, line_texts, field_at, lines_at}
use Rattle.text.specs.FiveLines.{most_slot, limit, field_rules, numbers_of, values_of, Fits, five_lines, as_fields, fields_at}
use Rattle.text.specs.Number.{Number}
use Rattle.text.specs.Number as number
use Rattle.text.specs.declared.Reads.{Reads}
use Rattle.text.specs.declared.Values.{Values}
use Rattle.text.specs.Fields.{Are, Broken}
use Rattle.text.proofs.Places.{There}
use Rattle.text.proofs.Lines.{field_text, zeros, zeros_within, lines_of, lines_text, lines_open, lines_late}

limit-at-most : (b : Bool) (m : ℕ) → limit b m ≤ m
unfolding limit
limit-at-most true m = omega arith
limit-at-most false m = omega arith

-- a slot number that was read is one of 16 bits
pub slot-fits : (s : List ℕ) (at : ℕ) (key : List ℕ) (b : Bool) (n e : ℕ) → field_at s at key (limit b most_slot) ≡ number.Is n e → n < 2 ^ 16
slot-fits s at key b n e q =
    let small = (field_text s at key n (limit b most_slot) e q).small in
    let most-is = limit-at-most b most_slot in
    omega arith

module _ (fourth : List ℕ) (reads : Reads) where
  -- five numbers within the rules are some values' numbers
  made : (ns : List ℕ) → Within (field_rules fourth reads) ns → ns ≡ numbers_of (values_of ns)
  unfolding field_rules
  made _ (also _ _ (also _ _ (also _ _ (also _ _ (also _ _ none))))) = refl

  fits-made : (ns : List ℕ) → Within (field_rules fourth reads) ns → Fits fourth reads (values_of ns)
  fits-made ns w = subst (Within (field_rules fourth reads)) (made ns w) w

  pub zeros_fit : Fits fourth reads (values_of [])
  unfolding field_rules zeros
  zeros_fit = zeros_within (field_rules fourth reads)

  pub five : (v : Values) → length (five_lines fourth reads v) ≡ 5
  unfolding five_lines line_texts field_rules
  five v = refl

  pub fields_of : (v : Values) (s : List ℕ) (at : ℕ) (rest : List ℕ) → Fits fourth reads v
      → drop at s ≡ joined (five_lines fourth reads v) ++ rest
      → fields_at s at fourth reads ≡ Are v (at + length (joined (five_lines fourth reads v)))
  unfolding fields_at five_lines
  fields_of v s at rest w e = ap as_fields (lines_of (field_rules fourth reads) (numbers_of v) s at 2 rest w e)

  -- the text of some values that keep the rules
  pub record Spelled (s : List ℕ) (at : ℕ) (v : Values) (e : ℕ) : Type 0 where
    pub text : There s at (joined (five_lines fourth reads v)) e
    pub fits : Fits fourth reads v

  no_fields : (k : ℕ) (v : Values) (e : ℕ) → Broken k ≡ Are v e → ⊥
  no_fields k v e h = let z : ◌≡◌ {A = ℕ} 0 1 = cc in omega arith

  pub fields_text : (s : List ℕ) (at : ℕ) (v : Values) (e : ℕ) → fields_at s at fourth reads ≡ Are v e → Spelled s at v e
  unfolding fields_at five_lines
  fields_text s at v e = go (lines_at s at 2 (field_rules fourth reads)) refl
    where
      go : (x : Lines) → lines_at s at 2 (field_rules fourth reads) ≡ x → as_fields x ≡ Are v e → Spelled s at v e
      go (Breaks k) q h = absurd (no_fields k v e h)
      go (Read ns b) q h =
          let t = lines_text (field_rules fourth reads) s at 2 ns b q in
          let both : ◌≡◌ {A = Values × ℕ} (values_of ns, b) (v, e) = cc in
          let same : values_of ns ≡ v = ap (λ (x : Values × ℕ). x.0) both in
          let past : b ≡ e = ap (λ (x : Values × ℕ). x.1) both in
          let lines = joined (line_texts (field_rules fourth reads) (numbers_of (values_of ns))) in
          let here : There s at lines b = rw (← made ns t.within) t.text in
          rw (← same, ← past) (record { text = here; fits = fits-made ns t.within })

  -- the line that breaks its rule: the lines before it are the first of some values that keep the rules
  pub record Opened (s : List ℕ) (at k : ℕ) : Type 0 where
    pub values : Values
    pub fits : Fits fourth reads values
    pub before : ℕ
    pub which : k ≡ 2 + before
    pub short : before < 5
    pub rest : List ℕ
    pub text : drop at s ≡ joined (take before (five_lines fourth reads values)) ++ rest

  pub fields_open : (s : List ℕ) (at k : ℕ) → fields_at s at fourth reads ≡ Broken k → Opened s at k
  unfolding fields_at five_lines
  fields_open s at k = go (lines_at s at 2 (field_rules fourth reads)) refl
    where
      short : (i : ℕ) → i < length (field_rules fourth reads) → i < 5
      short i h = unfold field_rules in h

      go : (x : Lines) → lines_at s at 2 (field_rules fourth reads) ≡ x → as_fields x ≡ Broken k → Opened s at k
      go (Read ns b) q h = absurd (no_fields k (values_of ns) b (sym h))
      go (Breaks j) q h =
          let same : j ≡ k = cc in
          let o = lines_open (field_rules fourth reads) s at 2 j q in
          let first : List ℕ → List ℕ = λ ns. joined (take o.before (line_texts (field_rules fourth reads) ns)) ++ o.rest in
          record {
            values = values_of o.numbers;
            fits = fits-made o.numbers o.within;
            before = o.before;
            which = omega (arith, o.which);
            short = short o.before o.short;
            rest = o.rest;
            text = o.text ∙ ap first (made o.numbers o.within);
          }

  -- and where the first i lines of such values stand, a line that breaks its rule comes later
  pub fields_late : (v : Values) (i : ℕ) (s : List ℕ) (at k : ℕ) (rest : List ℕ) → Fits fourth reads v
      → drop at s ≡ joined (take i (five_lines fourth reads v)) ++ rest → fields_at s at fourth reads ≡ Broken k → 2 + i ≤ k
  unfolding fields_at five_lines
  fields_late v i s at k rest w e = go (lines_at s at 2 (field_rules fourth reads)) refl
    where
      go : (x : Lines) → lines_at s at 2 (field_rules fourth reads) ≡ x → as_fields x ≡ Broken k → 2 + i ≤ k
      go (Read ns b) q h = absurd (no_fields k (values_of ns) b (sym h))
      go (Breaks j) q h =
          let same : j ≡ k = cc in
          lines_late (field_rules fourth reads) (numbers_of v) i s at 2 k rest w e (q ∙ ap Breaks same)
