-- A decision that is what the model says, stored and told, is what a call in place promises of the host's runs.
use Prim.Native.Nat.{ℕ, ◌≤◌}
use mathlib.Core.Path.{◌≡◌, refl, ap, ◌∙◌}
use mathlib.Core.Bool.{Bool, true, false, cond}
use mathlib.Core.List.{List}
use native.Mathlib.Nat.{suc-ne-zero}
use lib.Dec.{eqb, ltb}
use lib.ListN.{length, take}
use lib.Seq.{sets}
use borrow.Author.Tests.{eqb-true, eqb-false, ltb-false, eq-eqb, ne_eqb, le-ltb}
use Rattle.kinds.specs.Verdicts.{Verdict, Pass, Refuse}
use Rattle.kinds.specs.Refusals.{told}
use Rattle.settled.specs.Snapshots.{no_snapshot}
use Rattle.model.specs.declared.Counters.{Counters}
use Rattle.model.specs.declared.Table.{Table}
use Rattle.model.specs.declared.answer.Decision.{Decision}
use Rattle.model.specs.declared.answer.Numbers.{Numbers}
use Rattle.model.specs.Tables.{lent_txids}
use Rattle.model.specs.Calls.{Call, refusal, after, shown_accepted, shown_by, shown, decision}
use Rattle.model.proofs.Lent.{reads_more, lent_decides}
use Rattle.place.specs.Words.{size_of, table_of, words_of, stored_words}
use Rattle.answer_numbers.specs.Plain.{plain_numbers}
use Rattle.place.specs.Shapes.{head, shape_of, list_shape, answer_words, told_in}
use Rattle.place.specs.Calls.{said, number_by, table_by, out_by, ids_by}

pub record Shaped (n table out : ℕ) : Type 0 where
  pub size : table ≡ size_of n
  pub room : head ≤ out

pub shaped : (n table out : ℕ) → shape_of n table out ≡ 0 → Shaped n table out
unfolding shape_of told
shaped n table out e = go (eqb table (size_of n)) (ltb out head) refl refl e
  where
    go :
        (a b : Bool) → eqb table (size_of n) ≡ a → ltb out head ≡ b → ◌≡◌ {A = ℕ} (cond a (cond b 12 0) 18) 0 →
        Shaped n table out
    go true true p q e = absurd (suc-ne-zero _ e)
    go true false p q e = record { size = eqb-true _ _ p; room = ltb-false _ _ q }
    go false b p q e = absurd (suc-ne-zero _ e)

pub record Listing (n table out ids : ℕ) : Type 0 where
  pub runs : Shaped n table out
  pub places : n ≤ ids

pub listing_shaped : (n table out ids : ℕ) → list_shape n table out ids ≡ 0 → Listing n table out ids
unfolding list_shape told
listing_shaped n table out ids e = go (eqb (shape_of n table out) 0) (ltb ids n) refl refl e
  where
    go :
        (a b : Bool) → eqb (shape_of n table out) 0 ≡ a → ltb ids n ≡ b →
        cond a (cond b 12 0) (shape_of n table out) ≡ 0 → Listing n table out ids
    go true true p q e = absurd (suc-ne-zero _ e)
    go true false p q e = record { runs = shaped n table out (eqb-true _ _ p); places = ltb-false _ _ q }
    go false b p q e = absurd (eqb-false _ _ p e)

-- what is decided on the columns that words lend is decided on the table that they say
pub lent_words :
    (n : ℕ) (ws : List ℕ) (c : Call) {was : Counters} → was ≡ (table_of n ws).counters → reads_more c ≡ false →
    decision n (lent_txids (take n ws) was) c ≡ decision n (table_of n ws) c
unfolding table_of
lent_words n ws c e b = rw e (lent_decides n (table_of n ws) c b)

-- .. and so is what is decided on any columns that are that table
pub decided_on : (n : ℕ) (c : Call) {t u : Table} {d : Decision} → t ≡ u → d ≡ decision n t c → d ≡ decision n u c
decided_on n c e d = d ∙ ap (λ (t : Table). decision n t c) e

-- what is told of a call that shows nothing
pub plain-said :
    (n : ℕ) (t : Table) (c : Call) {d : Decision} → d ≡ decision n t c → shown_accepted n t c ≡ no_snapshot n →
    plain_numbers d ≡ said n t c
unfolding shown decision after no_snapshot said
plain-said n t c e none = rw (e, go (refusal n t c))
  where
    go : (v : Verdict) → shown_by v n t c ≡ no_snapshot n
    go Pass = none
    go (Refuse r) = refl

-- runs that fit are written to
pub stored_after :
    (n : ℕ) (ws : List ℕ) (c : Call) {out : ℕ} → Shaped n (length ws) out → {d : Decision} → d ≡ decision n (table_of n ws) c →
    stored_words n ws d.change ≡ words_of (after n (table_of n ws) c)
unfolding after decision stored_words
stored_after n ws c s e = rw (eq-eqb _ _ s.size, e)

pub told-fits :
    {n table : ℕ} (out : List ℕ) (a : Numbers) → Shaped n table (length out) → told_in out a ≡ sets out 0 (answer_words a)
unfolding told_in
told-fits out a s = rw (le-ltb _ _ s.room)

module _ (shape n : ℕ) (ws : List ℕ) (c : Call) where
  abbrev pub Kept : ℕ → List ℕ → List ℕ → List ℕ → Type 0
  Kept k ws' out out' =
      record {
        result_value : k ≡ number_by shape n ws c;
        table_after : ws' ≡ table_by shape n ws c;
        out_after : out' ≡ out_by shape n ws c out;
      }

  -- a shape that does not fit
  pub unfit : {s : ℕ} → s ≡ shape → (s ≡ 0 → ⊥) → (out : List ℕ) → Kept s ws out out
  unfolding number_by table_by out_by
  unfit e h out =
      let b = ne_eqb shape 0 (λ z. h (e ∙ z)) in
      record { result_value = rw b e; table_after = rw b; out_after = rw b }

  pub unfit_ids : {s : ℕ} → s ≡ shape → (s ≡ 0 → ⊥) → (ids : List ℕ) → ids ≡ ids_by shape n ws c ids
  unfolding ids_by
  unfit_ids e h ids = rw (ne_eqb shape 0 (λ z. h (e ∙ z)))

  -- a shape that does, of a call that shows nothing
  pub called :
      (out : List ℕ) → shape ≡ 0 → Shaped n (length ws) (length out) → {d : Decision} → d ≡ decision n (table_of n ws) c →
      shown_accepted n (table_of n ws) c ≡ no_snapshot n → {k : ℕ} {ws' out' : List ℕ} → k ≡ (plain_numbers d).told.number →
      ws' ≡ stored_words n ws d.change → out' ≡ told_in out (plain_numbers d) → Kept k ws' out out'
  unfolding number_by table_by out_by
  called out fit s e none k w o =
      let b = eq-eqb shape 0 fit in
      let p = plain-said n (table_of n ws) c e none in
      record {
        result_value = rw b (k ∙ ap (λ (a : Numbers). a.told.number) p);
        table_after = rw b (w ∙ stored_after n ws c s e);
        out_after = rw b (o ∙ told-fits out _ s ∙ ap (λ (a : Numbers). sets out 0 (answer_words a)) p);
      }
