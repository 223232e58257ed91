-- The second engine's text has room in the buffer; and it is what the call prints on the table that the list reaches.
use Prim.Native.Nat.{ℕ, ◌+◌, ◌-◌, ◌*◌, ◌≤◌}
use mathlib.Core.Path.{◌≡◌, refl, sym, ap, ◌∙◌}
use mathlib.Core.Bool.{true}
use mathlib.Core.List.{List, ◌++◌}
use native.Mathlib.Omega.{arith}
use lib.ListN.{length, take, drop, length-take}
use lib.Seq.{take-append_seam}
use borrow.Author.Tests.{le-leb}
use Rattle.kinds.specs.Verdicts.{Verdict, Pass, Refuse}
use Rattle.settled.specs.Snapshots.{no_snapshot}
use Rattle.model.specs.declared.Table.{Table}
use Rattle.model.specs.Tally.{snapshot_of}
use Rattle.model.specs.Calls.{Call, begin, end, snap, own, oldest, vacuum, stamp, finish, pin, unpin}
use Rattle.model.specs.Calls.{refusal, shown_accepted, shown_by, shown}
use Rattle.model.specs.Answers.{numbers_of}
use Rattle.model.specs.History.{reached}
use Rattle.model.proofs.Tally.{active-length}
use Rattle.model.proofs.Facts.{good-reached}
use Rattle.text.specs.Put.{Put, Past, NoRoom}
use Rattle.text.specs.Write.{spliced}
use Rattle.trace.specs.declared.Version.{Version}
use Rattle.trace.specs.declared.Version.TheVariants.{Proc1, Proc2, Proc3}
use Rattle.output.specs.Output.{printed, holder_room, need, fits, put_text, left_text}
use Rattle.ledger.specs.declared.answer.Said.{Said}
use Rattle.ledger.specs.List.{row_call, calls_of}
use Rattle.ledger.specs.Said.{said_on, worked_out}
use Rattle.same_bytes.specs.Same.{equal_bytes}
use Rattle.second_text.specs.Second.{said_text, second_text}
use Rattle.same_bytes.proofs.Equal.{equal_itself}

-- a call lists no more ids than there are slots
few_accepted : (n : ℕ) (t : Table) → length t.txids ≡ n → (c : Call) → (shown_accepted n t c).count ≤ n
unfolding shown_accepted no_snapshot snapshot_of
few_accepted n t h (begin number) = omega arith
few_accepted n t h (end slot id) = omega arith
few_accepted n t h (snap clock sample) = omega (arith, active-length t.txids)
few_accepted n t h (own slot id clock sample) = omega (arith, active-length t.txids)
few_accepted n t h (oldest clock sample) = omega arith
few_accepted n t h (vacuum clock sample) = omega arith
few_accepted n t h (stamp number) = omega arith
few_accepted n t h (finish slot id number) = omega arith
few_accepted n t h (pin clock sample) = omega (arith, active-length t.txids)
few_accepted n t h (unpin k) = omega arith

few_by : (v : Verdict) (n : ℕ) (t : Table) → length t.txids ≡ n → (c : Call) → (shown_by v n t c).count ≤ n
unfolding no_snapshot
few_by Pass n t h c = few_accepted n t h c
few_by (Refuse r) n t h c = omega arith

few : (n : ℕ) (rows : List (List ℕ)) (row : List ℕ) → (worked_out n rows row).numbers.count ≤ n
unfolding worked_out said_on numbers_of shown
few n rows row =
    let t = reached n (calls_of rows) in
    few_by (refusal n t (row_call row)) n t (good-reached n (calls_of rows)).txid_column (row_call row)

room : (v : Version) → holder_room v ≤ 28
room Proc1 = omega arith
room Proc2 = omega arith
room Proc3 = omega arith

module _ (v : Version) (n : ℕ) (rows : List (List ℕ)) (row : List ℕ) {s : Said} (e : s ≡ worked_out n rows row) where
  -- a buffer of 252 bytes and 24 for each slot
  module _ (zeros : List ℕ) (size : length zeros ≡ 252 + 24 * n) where
    few-said : s.numbers.count ≤ n
    few-said = rw e (few n rows row)

    has_room_lem : fits v n (length zeros) 0 s.numbers.count ≡ true
    has_room_lem =
        let r = room v in
        let c = few-said in
        let fit : need v s.numbers.count ≤ length zeros - 0 = omega arith in
        rw (le-leb s.numbers.count n c, le-leb (need v s.numbers.count) (length zeros - 0) fit)

    pub never_full : {p : Put} → p ≡ put_text v n zeros 0 s.numbers.count (said_text v s) → p ≡ NoRoom → ⊥
    unfolding put_text
    never_full q z =
        let full : NoRoom ≡ Past (0 + length (said_text v s)) = sym z ∙ q ∙ rw has_room_lem in
        let b : ◌≡◌ {A = ℕ} 0 1 = cc in
        omega arith

    end_is :
        {p : Put} {end : ℕ} → p ≡ put_text v n zeros 0 s.numbers.count (said_text v s) → p ≡ Past end →
        end ≡ length (said_text v s)
    unfolding put_text
    end_is {p} {end} q z =
        let past : Past end ≡ Past (0 + length (said_text v s)) = sym z ∙ q ∙ rw has_room_lem in
        let b : end ≡ 0 + length (said_text v s) = cc in
        omega arith

    -- what stands in front is the second engine's text
    front_is :
        {buf : List ℕ} {end : ℕ} → buf ≡ left_text v n zeros 0 s.numbers.count (said_text v s) →
        end ≡ length (said_text v s) → take end buf ≡ second_text v n rows row
    unfolding left_text spliced
    front_is {buf} q z =
        let left : buf ≡ said_text v s ++ drop (0 + length (said_text v s)) zeros = q ∙ rw has_room_lem in
        rw (z, left) (take-append_seam (said_text v s) (drop (0 + length (said_text v s)) zeros) ∙ ap (said_text v) e)

    -- .. and all of it stands inside
    front_count :
        {buf : List ℕ} {end : ℕ} → buf ≡ left_text v n zeros 0 s.numbers.count (said_text v s) →
        end ≡ length (said_text v s) → end ≡ length (take end buf)
    front_count {buf} {end} q z = z ∙ ap (λ (u : Said). length (said_text v u)) e ∙ sym (ap length (front_is q z))

    front_inside :
        {buf : List ℕ} {end : ℕ} → buf ≡ left_text v n zeros 0 s.numbers.count (said_text v s) →
        end ≡ length (said_text v s) → end ≤ length buf
    front_inside {buf} {end} q z = let m = length-take end buf in let k = front_count q z in omega arith

    -- so the front of what was put is that text whole
    pub record Stands (buf : List ℕ) (end : ℕ) : Type 0 where
      pub front : take end buf ≡ second_text v n rows row
      pub count : end ≡ length (take end buf)
      pub inside : end ≤ length buf

    pub stands :
        {p : Put} {buf : List ℕ} {end : ℕ} → p ≡ put_text v n zeros 0 s.numbers.count (said_text v s) →
        buf ≡ left_text v n zeros 0 s.numbers.count (said_text v s) → p ≡ Past end → Stands buf end
    stands q l z =
        let past = end_is q z in
        record { front = front_is l past; count = front_count l past; inside = front_inside l past }

-- it is what the call prints on the table that the list reaches, so what was printed there agrees
pub prints_same :
    (v : Version) (n : ℕ) (rows : List (List ℕ)) (row : List ℕ) →
    second_text v n rows row ≡ printed v n (reached n (calls_of rows)) (row_call row)
unfolding worked_out said_on numbers_of printed
prints_same v n rows row = refl

pub printed_agrees :
    (v : Version) (n : ℕ) (rows : List (List ℕ)) (row text : List ℕ) →
    text ≡ printed v n (reached n (calls_of rows)) (row_call row) → equal_bytes text (second_text v n rows row) ≡ true
printed_agrees v n rows row text e = rw (e ∙ sym (prints_same v n rows row)) (equal_itself (second_text v n rows row))
