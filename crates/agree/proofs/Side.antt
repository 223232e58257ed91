-- Where the loop over a trace stands, `Side`: the table is the one that the calls of the list reach; and of a trace, what is left
-- starts at a record, and the list has room for all of it (at most 1,489 records: crate trace_writer, proofs/Laws).
use Prim.Native.Nat.{ℕ, ◌+◌, ◌≤◌, ◌<◌}
use mathlib.Core.Path.{◌≡◌, refl, sym, ap, ◌∙◌}
use mathlib.Core.Bool.{Bool, true, false}
use mathlib.Core.List.{List, [], ◌∷◌, ◌++◌}
use native.Mathlib.Numerals.{add-one}
use native.Mathlib.Omega.{arith}
use lib.Dec.{ltb}
use lib.ListN.{length, set, take}
use lib.Seq.{take-suc-set}
use borrow.Author.Tests.{ltb-true, ltb-false}
use Rattle.kinds.specs.declared.refusal.Refusal.{Refusal}
use Rattle.kinds.specs.declared.refusal.Refusal.TheVariants.{TooManyCalls}
use Rattle.model.specs.declared.Table.{Table}
use Rattle.model.specs.Tables.{fresh_table}
use Rattle.model.specs.Calls.{Call, after}
use Rattle.model.specs.History.{run, reached}
use Rattle.model.proofs.History.{run_snoc}
use Rattle.model.specs.Facts.{Good}
use Rattle.model.proofs.Facts.{good-reached}
use Rattle.model.proofs.Moves.{good-fresh}
use Rattle.trace.specs.declared.Record.{Record}
use Rattle.trace.specs.declared.Version.{Version}
use Rattle.trace.specs.Reading.{Whole}
use Rattle.trace.specs.RecordAt.{Is, Broken}
use Rattle.trace.specs.Trace.{trace_grammar, reading, records_from, first_record, Boundary}
use Rattle.trace.specs.Record.{any_form, record_at}
use Rattle.trace.proofs.Shape.{trace_grammar_lem, any_facts}
use Rattle.trace.proofs.Answers.{reading_is, record_is}
use Rattle.grammar.proofs.Laws.{opened}
use Rattle.grammar.proofs.Walk.{next_item, none_broken}
use Rattle.record_rows.specs.Rows.{row_of}
use Rattle.trace_writer.proofs.Laws.{most-records}
use Rattle.step.specs.Named.{call_of}
use Rattle.ledger.specs.Kept.{Kept, Used, Refused}
use Rattle.ledger.specs.List.{row_call, calls_of, kept_answer, kept_run}
use Rattle.agree.proofs.Named.{row_names}

-- a row that was kept had room, and is the last of those in use
module _ (most : ℕ) (calls : List (List ℕ)) (used : ℕ) (row : List ℕ) {k : Kept} (e : k ≡ kept_answer most used) where
  pub record Last (u : ℕ) (cs : List (List ℕ)) : Type 0 where
    pub room : used < most
    pub next : u ≡ used + 1
    pub list : cs ≡ set calls used row

  pub kept_last : {u : ℕ} {cs : List (List ℕ)} → cs ≡ kept_run most calls used row → k ≡ Used u → Last u cs
  unfolding kept_answer kept_run
  kept_last {u} {cs} l p = go (ltb used most) refl
    where
      go : (b : Bool) → ltb used most ≡ b → Last u cs
      go true q =
          let h : Used u ≡ Used (used + 1) = sym p ∙ e ∙ rw q in
          record { room = ltb-true used most q; next = cc; list = l ∙ rw q }
      go false q =
          let h : Used u ≡ Refused TooManyCalls = sym p ∙ e ∙ rw q in
          let z : ◌≡◌ {A = ℕ} 0 1 = cc in
          absurd (omega arith)

-- .. and one that was not, had none
pub kept_full : (most used : ℕ) {k : Kept} {x : Refusal} → k ≡ kept_answer most used → k ≡ Refused x → most ≤ used
unfolding kept_answer
kept_full most used {k} {x} e p = go (ltb used most) refl
  where
    go : (b : Bool) → ltb used most ≡ b → most ≤ used
    go false q = ltb-false used most q
    go true q =
        let h : Refused x ≡ Used (used + 1) = sym p ∙ e ∙ rw q in
        let z : ◌≡◌ {A = ℕ} 0 1 = cc in
        absurd (omega arith)

-- of a trace: what is left, where so many rows are in use
pub record Ahead (s : List ℕ) (used at : ℕ) : Type 0 where
  pub boundary : Boundary s at
  pub few : used + length (records_from s at) ≤ 1489

pub record Side (n : ℕ) (s : List ℕ) (v : Version) (t : Table) (calls : List (List ℕ)) (used at : ℕ) : Type 0 where
  pub table : t ≡ reached n (calls_of (take used calls))
  pub ahead : (count : ℕ) → reading s ≡ Whole v count → Ahead s used at

calls_snoc : (rows : List (List ℕ)) (row : List ℕ) → calls_of (rows ++ row ∷ []) ≡ calls_of rows ++ row_call row ∷ []
calls_snoc [] row = refl
calls_snoc (r ∷ rows) row = ap (λ (cs : List Call). row_call r ∷ cs) (calls_snoc rows row)

module _ (n : ℕ) (s : List ℕ) (v : Version) where
  pub side_start : (calls : List (List ℕ)) → Side n s v (fresh_table n) calls 0 first_record
  unfolding run
  side_start calls =
      record {
        table = refl;
        ahead = λ count h.
            let b = opened trace_grammar trace_grammar_lem s v count (reading_is s h) in
            record { boundary = b.boundary; few = omega (arith, most-records s v (records_from s first_record) b.items) };
      }

  module _ {t : Table} {calls : List (List ℕ)} {used at : ℕ} (w : Side n s v t calls used at) where
    -- one record more
    pub side_more :
        (r : Record) (e : ℕ) {u : Table} {cs : List (List ℕ)} → used < length calls → record_at s at ≡ Is r e →
        cs ≡ set calls used (row_of r) → u ≡ after n t (call_of r) → Side n s v u cs (used + 1) e
    side_more r e {u} {cs} room q l made =
        let rows = take used calls in
        let list : take (used + 1) cs ≡ rows ++ row_of r ∷ [] = rw (l, add-one) (take-suc-set calls used (row_of r) room) in
        let again = run_snoc n (fresh_table n) (calls_of rows) (row_call (row_of r)) in
        let reach : reached n (calls_of (rows ++ row_of r ∷ [])) ≡ after n (reached n (calls_of rows)) (row_call (row_of r)) =
        rw (calls_snoc rows (row_of r)) again in
        record {
          table = made ∙ rw (w.table, ← row_names r) (sym (rw list reach));
          ahead = λ count h.
              let a = w.ahead count h in
              let m = next_item any_form any_facts s at r e a.boundary (record_is s at q) in
              record { boundary = m.again; few = omega (arith, a.few, ap length m.first) };
        }

    -- the table has its facts: the lengths of its columns are among them
    pub side_good : Good n t
    side_good = rw w.table (good-reached n (calls_of (take used calls)))

    -- before its end a trace has a record, and the list has room for it
    pub side_broken : {k : ℕ} (count : ℕ) → reading s ≡ Whole v count → (at ≡ length s → ⊥) → record_at s at ≡ Broken k → ⊥
    side_broken {k} count h more q = none_broken any_form any_facts s at k (w.ahead count h).boundary more (record_is s at q)

    pub side_few : (count : ℕ) → reading s ≡ Whole v count → used ≤ 1489
    side_few count h = omega (arith, (w.ahead count h).few)

-- n is the number of slots of the table that the loop begins with
pub side_from :
    {n : ℕ} {t₀ : Table} {s : List ℕ} {v : Version} {t : Table} {calls : List (List ℕ)} {used at : ℕ} → t₀ ≡ fresh_table n →
    Side (length t₀.txids) s v t calls used at → Side n s v t calls used at
side_from {n} e w = let size = ap (λ (t : Table). length t.txids) e ∙ (good-fresh n).txid_column in rw size at w

pub side_to :
    {n : ℕ} {t₀ : Table} {s : List ℕ} {v : Version} {t : Table} {calls : List (List ℕ)} {used at : ℕ} → t₀ ≡ fresh_table n →
    Side n s v t calls used at → Side (length t₀.txids) s v t calls used at
side_to {n} e w = let size = ap (λ (t : Table). length t.txids) e ∙ (good-fresh n).txid_column in rw size w
