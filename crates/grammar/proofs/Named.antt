-- The six facts of items that a line names and five numbers make.
use Prim.Native.Nat.{ℕ, zero, suc, ◌+◌, ◌≤◌, ◌<◌}
use native.Mathlib.Omega.{arith}
use mathlib.Core.Path.{◌≡◌, refl, sym, ap, subst, ◌∙◌}
use mathlib.Core.List.{List, [], ◌∷◌, ◌++◌, append_assoc}
use mathlib.Core.Bool.{Bool, true, false, cond}
use lib.ListN.{length, take, drop, length-append, length-drop}
use Rattle.text.specs.Keys.{slot_key, id_key, clock_key, sample_key}
use Rattle.text.specs.Line.{joined, one_line, line_texts}
use Rattle.text.specs.FiveLines.{values_of, field_rules, Fits, five_lines, fields_at}
use Rattle.text.specs.declared.Values.{Values}
use Rattle.text.specs.Fields.{Fields}
use Rattle.text.specs.Fields as fields
use Rattle.text.proofs.Places.{rest_of, There, then}
use Rattle.text.proofs.Lines.{line-one}
use Rattle.text.proofs.FiveLines.{zeros_fit, fields_of, fields_text, fields_open, fields_late}
use Rattle.grammar.specs.Items.{ItemAt, Is, Broken, Form, item_text}
use Rattle.grammar.specs.Names.{Names, name_line, NameAt, Named, Unknown, name_at}
use Rattle.grammar.specs.Named.{Shape, on_name, on_fields, item_at, six_lines, Expressed, form_of}
use Rattle.grammar.proofs.Names.{NameLaws, line_of, line_there, line-length}
use Rattle.grammar.proofs.Facts.{AllLines, none, also, Written, BrokenOff, SixLines, Facts}

-- what has to be proved of a shape: an item is its kind and its numbers, and the fourth key has no newline
pub record ShapeLaws {K I : Type 0} (w : Shape K I) : Type 0 where
  pub names : NameLaws w.names
  pub again : (x : I) → w.item (w.kind x) (w.values x) ≡ x
  pub kind_is : (k : K) (v : Values) → w.kind (w.item k v) ≡ k
  pub values_are : (k : K) (v : Values) → w.values (w.item k v) ≡ v
  pub plain : (t : List ℕ) → one_line (w.fourth ++ t) ≡ one_line t

module _ {K I : Type 0} (w : Shape K I) (laws : ShapeLaws w) (allowed : K → Bool) where
  abbrev Good : I → Type 0
  Good = Expressed w allowed

  -- the lines and the text of an item that was read as its kind and its numbers
  made-lines : (k : K) (v : Values) → six_lines w (w.item k v) ≡ name_line w.names k ∷ five_lines w.fourth (w.reads k) v
  unfolding six_lines
  made-lines k v = rw (laws.kind_is k v, laws.values_are k v)

  made-good : (k : K) (v : Values) → allowed k ≡ true → Fits w.fourth (w.reads k) v → Good (w.item k v)
  made-good k v a f = record { permitted = rw (laws.kind_is k v) a; fits = rw (laws.kind_is k v, laws.values_are k v) f }

  made-text : (k : K) (v : Values)
      → item_text (form_of w allowed) (w.item k v) ≡ name_line w.names k ++ joined (five_lines w.fourth (w.reads k) v)
  unfolding item_text joined
  made-text k v = ap joined (made-lines k v)

  text-is : (x : I) → item_text (form_of w allowed) x
      ≡ name_line w.names (w.kind x) ++ joined (five_lines w.fourth (w.reads (w.kind x)) (w.values x))
  unfolding item_text six_lines joined
  text-is x = refl

  item_of : (x : I) (s : List ℕ) (at : ℕ) (rest : List ℕ) → Good x → drop at s ≡ item_text (form_of w allowed) x ++ rest
      → item_at w allowed s at ≡ Is x (at + length (item_text (form_of w allowed) x))
  unfolding item_at
  item_of x s at rest g e =
      let k = w.kind x in
      let o = name_line w.names k in
      let t = joined (five_lines w.fourth (w.reads k) (w.values x)) in
      let e' : drop at s ≡ o ++ (t ++ rest) = e ∙ ap (λ (z : List ℕ). z ++ rest) (text-is x) ∙ append_assoc o t rest in
      let l : length (item_text (form_of w allowed) x) ≡ length o + length t = ap length (text-is x) ∙ length-append o t in
      let named = line_of w.names laws.names s at k (t ++ rest) e' in
      let numbers = fields_of w.fourth (w.reads k) (w.values x) s (at + length o) rest g.fits (rest_of s o (t ++ rest) at e') in
      rw (named, g.permitted, numbers, laws.again x) (ap (Is x) (omega arith))

  no_item : (k : ℕ) (x : I) (e : ℕ) → Broken k ≡ Is x e → ⊥
  no_item k x e h = let z : ◌≡◌ {A = ℕ} 0 1 = cc in omega arith

  -- what follows a name that was read
  after : List ℕ → K → ℕ → ItemAt I
  after s k a = cond (allowed k) (on_fields (w.item k) (fields_at s a w.fourth (w.reads k))) (Broken 1)

  item_text_lem : (s : List ℕ) (at : ℕ) (x : I) (e : ℕ) → item_at w allowed s at ≡ Is x e → Written (form_of w allowed) s at x e
  unfolding item_at after
  item_text_lem s at x e = go (name_at w.names s at) refl
    where
      numbers : (k : K) (a : ℕ) → There s at (name_line w.names k) a → allowed k ≡ true
          → (y : Fields) → fields_at s a w.fourth (w.reads k) ≡ y → on_fields (w.item k) y ≡ Is x e → Written (form_of w allowed) s at x e
      numbers k a p l (fields.Broken j) q h = absurd (no_item j x e h)
      numbers k a p l (fields.Are v b) q h =
          let same : w.item k v ≡ x = cc in
          let past : b ≡ e = cc in
          let f = fields_text w.fourth (w.reads k) s a v b q in
          let t = then s at (name_line w.names k) a (joined (five_lines w.fourth (w.reads k) v)) b p f.text in
          rw (← same, ← past) (record { text = rw (made-text k v) t; good = made-good k v l f.fits })

      permitted : (k : K) (a : ℕ) → There s at (name_line w.names k) a → (b : Bool) → allowed k ≡ b
          → cond b (on_fields (w.item k) (fields_at s a w.fourth (w.reads k))) (Broken 1) ≡ Is x e → Written (form_of w allowed) s at x e
      permitted k a p false l h = absurd (no_item 1 x e h)
      permitted k a p true l h = numbers k a p l (fields_at s a w.fourth (w.reads k)) refl h

      go : (y : NameAt K) → name_at w.names s at ≡ y → on_name y (after s) ≡ Is x e → Written (form_of w allowed) s at x e
      go Unknown q h = absurd (no_item 1 x e h)
      go (Named k a) q h = permitted k a (line_there w.names laws.names s at k a q) (allowed k) refl h

  moves : (s : List ℕ) (at : ℕ) (x : I) (e : ℕ) → item_at w allowed s at ≡ Is x e → (at < e) × (e ≤ length s)
  moves s at x e h =
      let t = (item_text_lem s at x e h).text in
      let o = name_line w.names (w.kind x) in
      let u = joined (five_lines w.fourth (w.reads (w.kind x)) (w.values x)) in
      let l = ap length (text-is x) ∙ length-append o u in
      let some = line-length w.names laws.names (w.kind x) in
      let m = simp (length-append, length-drop) at (ap length t.text) in
      (omega (arith, t.past, l, some), omega (arith, t.past, l, some))

  -- the broken line is the first: some item of a kind that is allowed stands in where no name is read
  item_open : (some : K) → allowed some ≡ true → (s : List ℕ) (at k : ℕ) → item_at w allowed s at ≡ Broken k
      → BrokenOff (form_of w allowed) s at k
  unfolding item_at after joined
  item_open some is s at k = go (name_at w.names s at) refl
    where
      at_name : 1 ≡ k → BrokenOff (form_of w allowed) s at k
      at_name same = record {
        maybe = w.item some (values_of []);
        good = made-good some (values_of []) is (zeros_fit w.fourth (w.reads some));
        before = 0;
        which = omega arith;
        short = omega arith;
        rest = drop at s;
        text = refl;
      }

      numbers : (o : K) (a : ℕ) → There s at (name_line w.names o) a → allowed o ≡ true
          → (y : Fields) → fields_at s a w.fourth (w.reads o) ≡ y → on_fields (w.item o) y ≡ Broken k
          → BrokenOff (form_of w allowed) s at k
      numbers o a p l (fields.Are v b) q h = absurd (no_item k (w.item o v) b (sym h))
      numbers o a p l (fields.Broken j) q h =
          let same : j ≡ k = cc in
          let f = fields_open w.fourth (w.reads o) s a j q in
          let line = name_line w.names o in
          let t = joined (take f.before (five_lines w.fourth (w.reads o) f.values)) in
          let first = ap (λ (ls : List (List ℕ)). joined (take (suc f.before) ls)) (made-lines o f.values) in
          let apart : drop at s ≡ line ++ t ++ f.rest =
          p.text ∙ ap (λ (z : List ℕ). line ++ z) f.text ∙ sym (append_assoc line t f.rest) in
          record {
            maybe = w.item o f.values;
            good = made-good o f.values l f.fits;
            before = suc f.before;
            which = omega (arith, f.which);
            short = omega (arith, f.short);
            rest = f.rest;
            text = apart ∙ ap (λ (z : List ℕ). z ++ f.rest) (sym first);
          }

      permitted : (o : K) (a : ℕ) → There s at (name_line w.names o) a → (b : Bool) → allowed o ≡ b
          → cond b (on_fields (w.item o) (fields_at s a w.fourth (w.reads o))) (Broken 1) ≡ Broken k
          → BrokenOff (form_of w allowed) s at k
      permitted o a p false l h = at_name (cc)
      permitted o a p true l h = numbers o a p l (fields_at s a w.fourth (w.reads o)) refl h

      go : (y : NameAt K) → name_at w.names s at ≡ y → on_name y (after s) ≡ Broken k → BrokenOff (form_of w allowed) s at k
      go Unknown q h = at_name (cc)
      go (Named o a) q h = permitted o a (line_there w.names laws.names s at o a q) (allowed o) refl h

  item_late : (some : K) → allowed some ≡ true → (x : I) (j : ℕ) (s : List ℕ) (at k : ℕ) (rest : List ℕ) → Good x
      → drop at s ≡ joined (take j (six_lines w x)) ++ rest → item_at w allowed s at ≡ Broken k → j < k
  unfolding item_at six_lines joined
  item_late some is x zero s at k rest g e h = omega (arith, (item_open some is s at k h).which)
  item_late some is x (suc i) s at k rest g e h =
      let o = name_line w.names (w.kind x) in
      let t = joined (take i (five_lines w.fourth (w.reads (w.kind x)) (w.values x))) in
      let e' : drop at s ≡ o ++ (t ++ rest) = e ∙ append_assoc o t rest in
      let named = line_of w.names laws.names s at (w.kind x) (t ++ rest) e' in
      let h' : on_fields (w.item (w.kind x)) read ≡ Broken k = rw (named, g.permitted) at h in
      let late = fields_late w.fourth (w.reads (w.kind x)) (w.values x) i s (at + length o) k rest g.fits in
      go read refl (late (rest_of s o (t ++ rest) at e')) h'
    where
      read : Fields
      read = fields_at s (at + length (name_line w.names (w.kind x))) w.fourth (w.reads (w.kind x))

      go : (y : Fields) → read ≡ y → (read ≡ fields.Broken k → 2 + i ≤ k) → on_fields (w.item (w.kind x)) y ≡ Broken k → suc i < k
      go (fields.Are v b) q late h = absurd (no_item k (w.item (w.kind x) v) b (sym h))
      go (fields.Broken j) q late h =
          let same : j ≡ k = cc in
          omega (arith, late (q ∙ ap fields.Broken same))

  six : (x : I) → SixLines (six_lines w x)
  unfolding six_lines five_lines line_texts field_rules one_line
  six x =
      let v = w.values x in
      record {
        many = refl;
        each =
            also (laws.names.one (w.kind x))
            (also (line-one slot_key v.slot (λ t. refl))
            (also (line-one id_key v.id (λ t. refl))
            (also (line-one w.fourth v.fourth laws.plain)
            (also (line-one clock_key v.clock (λ t. refl))
            (also (line-one sample_key v.sample (λ t. refl)) none)))));
      }

  pub form_facts : (some : K) → allowed some ≡ true → Facts (form_of w allowed)
  form_facts some is = record {
    item_of = item_of;
    item_text_lem = item_text_lem;
    moves = moves;
    item_open = item_open some is;
    item_late = item_late some is;
    six = six;
  }

-- what is read where fewer kinds are allowed is read where more are
module _ {K I : Type 0} (w : Shape K I) (laws : ShapeLaws w) (allowed more : K → Bool) where
  pub form_wider : ((k : K) → allowed k ≡ true → more k ≡ true)
      → (s : List ℕ) (at : ℕ) (x : I) (e : ℕ) → item_at w allowed s at ≡ Is x e → item_at w more s at ≡ Is x e
  unfolding item_text
  form_wider wide s at x e h =
      let t = item_text_lem w laws allowed s at x e h in
      let good : Expressed w more x = record { permitted = wide (w.kind x) t.good.permitted; fits = t.good.fits } in
      item_of w laws more x s at (drop e s) good t.text.text ∙ ap (Is x) (sym t.text.past)

-- an item by the line that names it
module _ {K I : Type 0} (w : Shape K I) (allowed : K → Bool) (s : List ℕ) (at : ℕ) where
  pub item_unknown : name_at w.names s at ≡ Unknown → item_at w allowed s at ≡ Broken 1
  unfolding item_at
  item_unknown h = rw h

  pub item_refused : {k : K} {a : ℕ} → name_at w.names s at ≡ Named k a → allowed k ≡ false → item_at w allowed s at ≡ Broken 1
  unfolding item_at
  item_refused h l = rw (h, l)

  pub item_named : {k : K} {a : ℕ} → name_at w.names s at ≡ Named k a → allowed k ≡ true
      → item_at w allowed s at ≡ on_fields (w.item k) (fields_at s a w.fourth (w.reads k))
  unfolding item_at
  item_named h l = rw (h, l)
