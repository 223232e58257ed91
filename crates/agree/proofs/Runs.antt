-- A record that the table runs beside the second engine: the table's text stands at the buffer's front whole, and is the second
-- engine's; and the change is the table's next step. What is put is `run_record`'s promise (crate step).
use Prim.Native.Nat.{ℕ, ◌+◌, ◌*◌}
use mathlib.Core.Path.{◌≡◌, refl, sym, ap, ◌∙◌}
use mathlib.Core.Bool.{Bool, true}
use mathlib.Core.List.{List}
use native.Mathlib.Omega.{arith}
use lib.ListN.{length, take}
use borrow.Author.Tests.{le-leb}
use Rattle.model.specs.declared.Table.{Table}
use Rattle.model.specs.Changes.{applied}
use Rattle.model.specs.declared.change.Change.{Change}
use Rattle.model.specs.Calls.{Call, after, shown}
use Rattle.model.specs.Answers.{numbers_of}
use Rattle.model.specs.History.{reached}
use Rattle.model.proofs.Facts.{good-reached}
use Rattle.text.specs.Put.{Past, NoRoom}
use Rattle.trace.specs.declared.Record.{Record}
use Rattle.trace.specs.declared.Version.{Version}
use Rattle.record_rows.specs.Rows.{row_of}
use Rattle.output.specs.Output.{printed, put_text, left_text}
use Rattle.step.specs.declared.Ran.{Ran}
use Rattle.step.specs.Named.{call_of}
use Rattle.step.specs.Step.{ran_of, left_of, ran, ran_left}
use Rattle.ledger.specs.declared.answer.Said.{Said}
use Rattle.ledger.specs.List.{calls_of}
use Rattle.ledger.specs.Said.{said_on, worked_out}
use Rattle.same_bytes.specs.Same.{equal_bytes}
use Rattle.second_text.specs.Second.{said_text, second_text}
use Rattle.same_bytes.proofs.Equal.{equal_itself}
use Rattle.second_text.proofs.Printed.{never_full, Stands, stands, prints_same}
use Rattle.agree.proofs.Named.{row_names}

-- the table t is the one that the rows reach
module _ (v : Version) (n : ℕ) (rows : List (List ℕ)) (r : Record) (t : Table) (same : t ≡ reached n (calls_of rows)) where
  said : Said
  said = worked_out n rows (row_of r)

  counted : said.numbers.count ≡ (shown n t (call_of r)).count
  unfolding said worked_out said_on numbers_of
  counted = rw (same, ← row_names r)

  texted : said_text v said ≡ printed v n t (call_of r)
  unfolding said
  texted = prints_same v n rows (row_of r) ∙ rw (same, row_names r)

  all_slots : length t.txids ≡ n
  all_slots = rw same (good-reached n (calls_of rows)).txid_column

  module _
      (zeros : List ℕ) (size : length zeros ≡ 252 + 24 * n) {o : Ran} {buf : List ℕ} (e : o ≡ ran v n t (call_of r) zeros 0)
      (l : buf ≡ ran_left v n t (call_of r) zeros 0)
    where
      ran-is : o ≡ ran_of v n t (call_of r) zeros 0
      unfolding ran
      ran-is = let few = all_slots in e ∙ rw (le-leb (length t.txids) n (omega arith))

      left_is : buf ≡ left_text v n zeros 0 said.numbers.count (said_text v said)
      unfolding ran_left
      left_is =
          let few = all_slots in
          let there : buf ≡ left_of v n t (call_of r) zeros 0 = l ∙ rw (le-leb (length t.txids) n (omega arith)) in
          there
          ∙ ap (λ (k : ℕ). left_text v n zeros 0 k (printed v n t (call_of r))) (sym counted)
          ∙ ap (λ (x : List ℕ). left_text v n zeros 0 said.numbers.count x) (sym texted)

      put_is : o.put ≡ put_text v n zeros 0 said.numbers.count (said_text v said)
      put_is =
          ap (λ (x : Ran). x.put) ran-is
          ∙ ap (λ (k : ℕ). put_text v n zeros 0 k (printed v n t (call_of r))) (sym counted)
          ∙ ap (λ (x : List ℕ). put_text v n zeros 0 said.numbers.count x) (sym texted)

      pub both_room : o.put ≡ NoRoom → ⊥
      unfolding said
      both_room p = never_full v n rows (row_of r) refl zeros size put_is p

      module _ {end : ℕ} (p : o.put ≡ Past end) where
        -- the table's text, whole, is the second engine's
        pub both_stands : Stands v n rows (row_of r) refl zeros size buf end
        unfolding said
        both_stands = stands v n rows (row_of r) refl zeros size put_is left_is p

        pub texts_same :
            {row : List ℕ} {held : Bool} → row ≡ row_of r → held ≡ equal_bytes (take end buf) (second_text v n rows row) →
            held ≡ true
        texts_same e q = q ∙ rw (e, both_stands.front) (equal_itself (second_text v n rows (row_of r)))

      pub both-change : applied t o.change ≡ after n t (call_of r)
      unfolding after
      both-change = rw ran-is

-- on the table that lent its columns
pub fits_of :
    (n : ℕ) (c : Call) (k : Change) {u t : Table} → u ≡ t → applied u k ≡ after n u c → applied t k ≡ after n t c
fits_of n c k e fits = ap (λ (x : Table). applied x k) (sym e) ∙ fits ∙ ap (λ (x : Table). after n x c) e
