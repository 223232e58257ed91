-- What a call that lists ids promises of the host's runs: of a refused one, which touches no id, and of an accepted one, whose ids
-- were scanned into the host's run.
use Prim.Native.Nat.{ℕ, ◌≤◌}
use mathlib.Core.Path.{◌≡◌, refl, sym, ap, ◌∙◌}
use mathlib.Core.Bool.{false}
use mathlib.Core.List.{List}
use native.Mathlib.Omega.{arith}
use lib.ListN.{length, take, replicate, length-take}
use lib.Seq.{sets, take_all, take-append_seam}
use borrow.Author.Tests.{eq-eqb}
use Rattle.kinds.specs.declared.refusal.Refusal.{Refusal}
use Rattle.kinds.specs.Verdicts.{Pass, Refuse}
use Rattle.settled.specs.Snapshots.{no_snapshot}
use Rattle.model.specs.declared.Counters.{Counters}
use Rattle.model.specs.declared.Table.{Table}
use Rattle.model.specs.declared.answer.Decision.{Decision}
use Rattle.model.specs.declared.answer.Numbers.{Numbers}
use Rattle.model.specs.Tally.{active, snapshot_of}
use Rattle.model.specs.Answers.{listing}
use Rattle.model.specs.Calls.{Call, refusal, after, shown, decision}
use Rattle.model.specs.Deeds.{opens}
use Rattle.model.proofs.Decides.{refused_decides}
use Rattle.taken_scans.specs.declared.snapshot.Taken.{Taken}
use Rattle.taken_scans.specs.Taken.{taken_of}
use Rattle.place.specs.Words.{table_of, stored_words}
use Rattle.answer_numbers.specs.Plain.{plain_numbers}
use Rattle.place.specs.Shapes.{answer_words, list_shape, told_in}
use Rattle.place.specs.Calls.{said, number_by, table_by, out_by, ids_by}
use Rattle.place.proofs.Called.{Listing, listing_shaped, stored_after, told-fits}
use Rattle.place_answers.specs.Taken.{refused_with, taken_numbers}
use Rattle.place_answers.specs.Shows.{decided_by, Passes}
use Rattle.place_answers.specs.declared.shows.Passed.{Passed}

-- a run that has a place for each slot takes them all
pub taken_all :
    (n : ℕ) (ws ids : List ℕ) → n ≤ length ids → take (length ids) (take n ws) ≡ take n ws
taken_all n ws ids h = take_all (length ids) (take n ws) (omega (arith, length-take n ws, h))

-- a snapshot lists what was active
listing-active : (n : ℕ) (txids : List ℕ) (used : ℕ) → listing (snapshot_of n txids used) ≡ active txids
unfolding snapshot_of
listing-active n txids used = take-append_seam (active txids) _

module _ (n : ℕ) (t : Table) (c : Call) {d : Decision} (e : d ≡ decision n t c) where
  none_said : shown n t c ≡ no_snapshot n → plain_numbers d ≡ said n t c
  unfolding decision after no_snapshot said
  none_said none = rw (e, none)

  taken-said :
      (txids : List ℕ) (used : ℕ) → shown n t c ≡ snapshot_of n txids used → {k : Taken} → k ≡ taken_of txids used →
      taken_numbers d k ≡ said n t c
  unfolding decision after said snapshot_of taken_of
  taken-said txids used s k = rw (e, s, k)

module _ (shape n : ℕ) (ws : List ℕ) (c : Call) (out ids : List ℕ) where
  abbrev pub ListKept : ℕ → List ℕ → List ℕ → List ℕ → Type 0
  ListKept k ws' out' ids' =
      record {
        result_value : k ≡ number_by shape n ws c;
        table_after : ws' ≡ table_by shape n ws c;
        out_after : out' ≡ out_by shape n ws c out;
        ids_after : ids' ≡ ids_by shape n ws c ids;
      }

  module _ (fit : shape ≡ 0) (l : Listing n (length ws) (length out) (length ids)) where
    -- what was decided, stored and told, with these ids
    kept :
        {d : Decision} → d ≡ decision n (table_of n ws) c → {a : Numbers} → a ≡ said n (table_of n ws) c →
        {k : ℕ} {ws' out' ids' : List ℕ} → k ≡ a.told.number → ws' ≡ stored_words n ws d.change → out' ≡ told_in out a →
        ids' ≡ sets ids 0 (listing (shown n (table_of n ws) c)) → ListKept k ws' out' ids'
    unfolding number_by table_by out_by ids_by
    kept e s k w o i =
        let b = eq-eqb shape 0 fit in
        record {
          result_value = rw b (k ∙ ap (λ (a : Numbers). a.told.number) s);
          table_after = rw b (w ∙ stored_after n ws c l.runs e);
          out_after = rw b (o ∙ told-fits out _ l.runs ∙ ap (λ (a : Numbers). sets out 0 (answer_words a)) s);
          ids_after = rw b i;
        }

    pub refused :
        {r : Refusal} → opens c ≡ false → refusal n (table_of n ws) c ≡ Refuse r → {was : Counters} →
        was ≡ (table_of n ws).counters → {k : ℕ} {ws' out' : List ℕ} → k ≡ (plain_numbers (refused_with was r)).told.number →
        ws' ≡ stored_words n ws (refused_with was r).change → out' ≡ told_in out (plain_numbers (refused_with was r)) →
        ListKept k ws' out' ids
    unfolding shown no_snapshot
    refused {r} b v {was} same k w o =
        let t : Table = table_of n ws in
        let e : refused_with was r ≡ decision n t c = rw same (refused_decides n t c b v) in
        let none : shown n t c ≡ no_snapshot n = rw v in
        kept e (none_said n t c e none) k w o (rw none)

    pub accepted :
        {d : Decision} → d ≡ decision n (table_of n ws) c → (used : ℕ) →
        shown n (table_of n ws) c ≡ snapshot_of n (take n ws) used → {a : Taken} →
        a ≡ taken_of (take (length ids) (take n ws)) used → {k : ℕ} {ws' out' ids' : List ℕ} →
        k ≡ (taken_numbers d a).told.number → ws' ≡ stored_words n ws d.change → out' ≡ told_in out (taken_numbers d a) →
        ids' ≡ sets ids 0 (active (take (length ids) (take n ws))) → ListKept k ws' out' ids'
    accepted e used s a k w o i =
        let all = taken_all n ws ids l.places in
        let listed = ap listing s ∙ listing-active n (take n ws) used in
        kept e (taken-said n (table_of n ws) c e (take n ws) used s (rw all at a)) k w o (i ∙ rw (all, listed))

    -- .. where it passed its tests on the table
    pub passed :
        {t : Table} → t ≡ table_of n ws → {p : Passed} → Passes n t c p → {a : Taken} →
        a ≡ taken_of (take (length ids) t.txids) p.sample → {d : Decision} → d ≡ decided_by p a.xmin →
        {k : ℕ} {ws' out' ids' : List ℕ} → k ≡ (taken_numbers d a).told.number → ws' ≡ stored_words n ws d.change →
        out' ≡ told_in out (taken_numbers d a) → ids' ≡ sets ids 0 (active (take (length ids) t.txids)) →
        ListKept k ws' out' ids'
    unfolding table_of taken_of
    passed same {p} h {a} taken d k w o i =
        let g = rw same at h in
        let scanned : a ≡ taken_of (take (length ids) (take n ws)) p.sample = rw same at taken in
        let whole : a ≡ taken_of (take n ws) p.sample = rw (taken_all n ws ids l.places) at scanned in
        accepted (d ∙ rw whole g.decides) p.sample g.shows scanned k w o (rw same at i)
