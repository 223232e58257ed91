-- What is written is read back, what was read is written again byte for byte, no two runs have one text, and each refusal comes exactly
-- when. The laws of texts are the trace's (trace/proofs/Grammar.antt), those of rows are record_rows' (record_rows/proofs/Laws.antt).
use Prim.Native.Nat.{ℕ, ◌*◌, ◌≤◌, ◌<◌}
use native.Mathlib.Omega.{arith}
use native.Mathlib.Nat.{zero-add}
use mathlib.Core.Path.{◌≡◌, refl, sym, ap, ◌∙◌}
use mathlib.Core.Bool.{Bool, true, false, cond, ◌&&◌}
use mathlib.Core.List.{List, [], ◌∷◌, ◌++◌}
use lib.Dec.{leb}
use lib.ListN.{length, drop, length-append}
use borrow.Author.Tests.{le-leb, lt-leb, leb-true, leb-false}
use Rattle.kinds.specs.declared.refusal.Refusal.TheVariants as refusal
use Rattle.text.specs.Write.{spliced}
use Rattle.text.proofs.Decimal.{length_some}
use Rattle.grammar.specs.Items.{none, also}
use Rattle.grammar.specs.Texts.{Whole}
use Rattle.trace.specs.Op.{op_name}
use Rattle.trace.specs.Version.{allowed}
use Rattle.trace.specs.Record.{record_text}
use Rattle.trace.specs.Trace.{trace_format, longest, trace_text, AllExpressible, trace_of}
use Rattle.trace.specs.declared.Op.{Op}
use Rattle.trace.specs.declared.Op.TheVariants.{Begin, End, Snap, Own, Oldest, Vacuum, Stamp, Finish, Pin, Unpin}
use Rattle.trace.specs.declared.Version.{Version}
use Rattle.trace.specs.declared.Record.{Record}
use Rattle.grammar.proofs.Grammar.{accepted, accepts, one_text}
use Rattle.trace.proofs.Shape.{trace_laws}
use Rattle.record_rows.specs.Rows.{record_row}
use Rattle.record_rows.specs.RowIs.{RowIs}
use Rattle.record_rows.specs.RowIs as row
use Rattle.record_rows.proofs.Laws.{Machine, record_of_row, row_of_record}
use Rattle.rows_reader.specs.Reading.{rows_of, in_front, read_of, rows_left}
use Rattle.rows_reader.specs.RowsRead as read
use Rattle.rows_reader.proofs.Filling.{rows_many}
use Rattle.rows_measure.specs.Measuring.{Records, Are, BadRow, on_judged, judged, row_under, records_of}
use Rattle.rows_measure.specs.Measuring.{records_text}
use Rattle.rows_measure.specs.Judged.{Judged, Good, Bad}
use Rattle.rows_measure.proofs.Lengths.{record-length, records-first}
use Rattle.rows_measure.proofs.Walking.{bad_run}
use Rattle.trace_writer.specs.Writing.{has_room, wrote_by, wrote_of, left_of}
use Rattle.trace_writer.specs.Wrote.{Wrote, Length, Refused}
use Rattle.trace_writer.proofs.Texts.{trace_length}

-- rows as code has them: six machine numbers each
pub data Machines : List (List ℕ) → Type 0 where
  no_row : Machines []
  row_more : {x : List ℕ} {xs : List (List ℕ)} → Machine x → Machines xs → Machines (x ∷ xs)

-- a good row is a record that the header allows
record IsGood (v : Version) (x : List ℕ) (r : Record) : Type 0 where
  is : record_row x ≡ row.Record r
  permitted : allowed v r.op ≡ true

bad_good : (r : Record) → Bad ≡ Good r → ⊥
bad_good r h = let z : ◌≡◌ {A = ℕ} 0 1 = cc in omega arith

good-row : (v : Version) (x : List ℕ) (r : Record) → row_under v x ≡ Good r → IsGood v x r
unfolding row_under
good-row v x r = go (record_row x) refl
  where
    may : (t : Record) (b : Bool) → allowed v t.op ≡ b → record_row x ≡ row.Record t → cond b (Good t) Bad ≡ Good r → IsGood v x r
    may t false p q h = absurd (bad_good r h)
    may t true p q h =
        let same : t ≡ r = cc in
        rw (← same) (record { is = q; permitted = p })

    go : (y : RowIs) → record_row x ≡ y → judged v y ≡ Good r → IsGood v x r
    go (row.Record t) q h = may t (allowed v t.op) refl q h
    go row.UnknownOp q h = absurd (bad_good r h)
    go row.SlotTooLarge q h = absurd (bad_good r h)
    go row.UnreadNumber q h = absurd (bad_good r h)

-- the records of a run: their rows are the run, and the text can express them
pub record RowsAre (v : Version) (rows : List (List ℕ)) (rs : List Record) : Type 0 where
  pub rows_are : rows_of rs ≡ rows
  pub expressible : AllExpressible v rs

pub rows_are : (v : Version) (rows : List (List ℕ)) (rs : List Record) → Machines rows → records_of v rows ≡ Are rs → RowsAre v rows rs
unfolding records_of rows_of
rows_are v [] rs no_row h =
    let same : [] ≡ rs = cc in
    rw (← same) (record { rows_are = refl; expressible = none })
rows_are v (x ∷ xs) rs (row_more m ms) h = go (row_under v x) refl (records_of v xs) refl (λ ts. rows_are v xs ts ms) h
  where
    go : (j : Judged) → row_under v x ≡ j → (y : Records) → records_of v xs ≡ y
        → ((ts : List Record) → records_of v xs ≡ Are ts → RowsAre v xs ts)
        → on_judged j y ≡ Are rs → RowsAre v (x ∷ xs) rs
    go Bad p y q ih e = absurd (bad_run rs e)
    go (Good r) p BadRow q ih e = absurd (bad_run rs e)
    go (Good r) p (Are ts) q ih e =
        let same : r ∷ ts ≡ rs = cc in
        let g = good-row v x r p in
        let w = row_of_record x r m g.is in
        let rest = ih ts q in
        rw (← same) (record {
          rows_are = rw (w.row, rest.rows_are);
          expressible = also (record { permitted = g.permitted; fits = w.expressible }) rest.expressible;
        })

-- and the rows of records that the text can express are those records
pub records_are : (v : Version) (rs : List Record) → AllExpressible v rs → records_of v (rows_of rs) ≡ Are rs
unfolding records_of rows_of row_under
records_are v [] none = refl
records_are v (r ∷ rs) (also g gs) = rw (record_of_row r g.fits, g.permitted, records_are v rs gs)

front : (xs t : List ℕ) → spliced xs 0 t ≡ t ++ drop (length t) xs
unfolding spliced
front xs t = rw (zero-add (length t))

and_true : (a b : Bool) → (a && b) ≡ true → (a ≡ true) × (b ≡ true)
and_true true b h = (refl, h)
and_true false b h = absurd (let z : ◌≡◌ {A = ℕ} 0 1 = cc in omega arith)

-- what a writer that answered n did
pub record Written (v : Version) (rows : List (List ℕ)) (xs : List ℕ) (n : ℕ) : Type 0 where
  pub records : List Record
  pub are : records_of v rows ≡ Are records
  pub many : n ≡ length (trace_text v records)
  pub short : length (trace_text v records) ≤ longest
  pub left : left_of v rows xs ≡ trace_text v records ++ drop n xs

pub written : (v : Version) (rows : List (List ℕ)) (xs : List ℕ) (n : ℕ) → wrote_of v rows (length xs) ≡ Length n → Written v rows xs n
unfolding wrote_of left_of
written v rows xs n h = go (records_of v rows) refl h
  where
    no_length : (r : Wrote) → r ≡ Refused refusal.NoRoom → r ≡ Length n → ⊥
    no_length r p q = let z : ◌≡◌ {A = ℕ} 0 1 = cc in omega arith

    fits : (rs : List Record) → records_of v rows ≡ Are rs → (b : Bool) → has_room (length (trace_text v rs)) (length xs) ≡ b
        → cond b (Length (length (trace_text v rs))) (Refused refusal.NoRoom) ≡ Length n → Written v rows xs n
    fits rs q false p e = absurd (no_length _ refl e)
    fits rs q true p e =
        let t = trace_text v rs in
        let same : length t ≡ n = cc in
        record {
          records = rs;
          are = q;
          many = sym same;
          short = leb-true (length t) longest (and_true _ _ p).0;
          left = rw (q, p) (front xs t ∙ ap (λ (k : ℕ). t ++ drop k xs) same);
        }

    go : (x : Records) → records_of v rows ≡ x → wrote_by v (length xs) x ≡ Length n → Written v rows xs n
    go BadRow q e = absurd (let z : ◌≡◌ {A = ℕ} 0 1 = cc in omega arith)
    go (Are rs) q e = fits rs q (has_room (length (trace_text v rs)) (length xs)) refl e

-- reading gives back what was written: the header, and row for row
pub reads_back : (v : Version) (rows : List (List ℕ)) (xs : List ℕ) (n : ℕ) → Machines rows → (w : Written v rows xs n)
    → (run : List (List ℕ)) → length rows ≤ length run
    → (read_of (trace_text v w.records) (length run) ≡ read.Rows v (length rows))
    × (rows_left (trace_text v w.records) run ≡ in_front rows run)
unfolding read_of rows_left
reads_back v rows xs n m w run h =
    let rs = w.records in
    let a = rows_are v rows rs m w.are in
    let many : length rs ≡ length rows = sym (rows_many rs) ∙ ap length a.rows_are in
    let found = accepts trace_format trace_laws v rs a.expressible w.short in
    let fits = le-leb (length rs) (length run) (omega arith) in
    (rw (found, fits) (ap (read.Rows v) many), rw (found, fits) (ap (λ (x : List (List ℕ)). in_front x run) a.rows_are))

-- an accepted text is written again byte for byte
pub rewritten : (s : List ℕ) (v : Version) (rs : List Record) (xs : List ℕ) → trace_of s ≡ Whole v rs → length s ≤ length xs
    → (wrote_of v (rows_of rs) (length xs) ≡ Length (length s)) × (left_of v (rows_of rs) xs ≡ s ++ drop (length s) xs)
unfolding wrote_of left_of
rewritten s v rs xs h l =
    let a = accepted trace_format trace_laws s v rs h in
    let are = records_are v rs a.good in
    let inside = le-leb (length s) longest a.short in
    let fits = le-leb (length s) (length xs) l in
    (rw (are, ← a.text, inside, fits), rw (are, ← a.text, inside, fits) (front xs s))

-- two runs that have one text are one run, under one header
pub one-run : (v w : Version) (rows others : List (List ℕ)) (rs ts : List Record) → Machines rows → Machines others
    → records_of v rows ≡ Are rs → records_of w others ≡ Are ts → length (trace_text v rs) ≤ longest
    → trace_text v rs ≡ trace_text w ts → (v ≡ w) × (rows ≡ others)
one-run v w rows others rs ts m k p q l e =
    let a = rows_are v rows rs m p in
    let b = rows_are w others ts k q in
    let both = one_text trace_format trace_laws v w rs ts a.expressible b.expressible l e in
    let same : rs ≡ ts = cc in
    let heads : v ≡ w = cc in
    (heads, sym a.rows_are ∙ ap rows_of same ∙ b.rows_are)

-- some row is bad
pub data SomeBad (v : Version) : List (List ℕ) → Type 0 where
  here : {x : List ℕ} {xs : List (List ℕ)} → row_under v x ≡ Bad → SomeBad v (x ∷ xs)
  later : {x : List ℕ} {xs : List (List ℕ)} → SomeBad v xs → SomeBad v (x ∷ xs)

some_bad : (v : Version) (rows : List (List ℕ)) → SomeBad v rows → records_of v rows ≡ BadRow
unfolding records_of
some_bad v [] x' = elim x' [ ]
some_bad v (x ∷ xs) (here h) = rw h
some_bad v (x ∷ xs) (later h) = go (row_under v x) (some_bad v xs h)
  where
    go : (j : Judged) → records_of v xs ≡ BadRow → on_judged j (records_of v xs) ≡ BadRow
    go Bad e = refl
    go (Good r) e = rw e

bad_some : (v : Version) (rows : List (List ℕ)) → records_of v rows ≡ BadRow → SomeBad v rows
unfolding records_of
bad_some v [] h = absurd (bad_run [] (sym h))
bad_some v (x ∷ xs) h = go (row_under v x) refl (records_of v xs) refl (bad_some v xs) h
  where
    go : (j : Judged) → row_under v x ≡ j → (y : Records) → records_of v xs ≡ y → (records_of v xs ≡ BadRow → SomeBad v xs)
        → on_judged j y ≡ BadRow → SomeBad v (x ∷ xs)
    go Bad p y q ih e = here p
    go (Good r) p BadRow q ih e = later (ih q)
    go (Good r) p (Are rs) q ih e = absurd (bad_run (r ∷ rs) (sym e))

-- refusal 20 exactly if some row is bad
pub refused_20 : (v : Version) (rows : List (List ℕ)) (size : ℕ) → SomeBad v rows → wrote_of v rows size ≡ Refused refusal.BadRecord
unfolding wrote_of
refused_20 v rows size h = rw (some_bad v rows h)

pub only_20 : (v : Version) (rows : List (List ℕ)) (size : ℕ) → wrote_of v rows size ≡ Refused refusal.BadRecord → SomeBad v rows
unfolding wrote_of
only_20 v rows size h = go (records_of v rows) refl h
  where
    other : (b : Bool) (n : ℕ) → cond b (Length n) (Refused refusal.NoRoom) ≡ Refused refusal.BadRecord → ⊥
    other true n e = let z : ◌≡◌ {A = ℕ} 0 1 = cc in omega arith
    other false n e = let z : ◌≡◌ {A = ℕ} 0 1 = cc in omega arith

    go : (x : Records) → records_of v rows ≡ x → wrote_by v size x ≡ Refused refusal.BadRecord → SomeBad v rows
    go BadRow q e = bad_some v rows q
    go (Are rs) q e = absurd (other (has_room (length (trace_text v rs)) size) (length (trace_text v rs)) e)

-- refusal 12 exactly if every row is a record and the text is over 65,536 bytes or longer than the buffer
pub data TooLong (n size : ℕ) : Type 0 where
  over : longest < n → TooLong n size
  longer : size < n → TooLong n size

pub refused_12 : (v : Version) (rows : List (List ℕ)) (rs : List Record) (size : ℕ) → records_of v rows ≡ Are rs
    → TooLong (length (trace_text v rs)) size → wrote_of v rows size ≡ Refused refusal.NoRoom
unfolding wrote_of
refused_12 v rows rs size q (over h) = rw (q, lt-leb (length (trace_text v rs)) longest h)
refused_12 v rows rs size q (longer h) = rw (q) (go (leb (length (trace_text v rs)) longest))
  where
    go : (b : Bool)
        → cond (b && leb (length (trace_text v rs)) size) (Length (length (trace_text v rs))) (Refused refusal.NoRoom)
        ≡ Refused refusal.NoRoom
    go false = refl
    go true = rw (lt-leb (length (trace_text v rs)) size h)

pub record Long (v : Version) (rows : List (List ℕ)) (size : ℕ) : Type 0 where
  pub records : List Record
  pub are : records_of v rows ≡ Are records
  pub long : TooLong (length (trace_text v records)) size

pub only_12 : (v : Version) (rows : List (List ℕ)) (size : ℕ) → wrote_of v rows size ≡ Refused refusal.NoRoom → Long v rows size
unfolding wrote_of
only_12 v rows size h = go (records_of v rows) refl h
  where
    which : (rs : List Record) → records_of v rows ≡ Are rs → (a b : Bool) → leb (length (trace_text v rs)) longest ≡ a
        → leb (length (trace_text v rs)) size ≡ b
        → cond (a && b) (Length (length (trace_text v rs))) (Refused refusal.NoRoom) ≡ Refused refusal.NoRoom → Long v rows size
    which rs q false b p r e = record { records = rs; are = q; long = over (leb-false (length (trace_text v rs)) longest p) }
    which rs q true false p r e = record { records = rs; are = q; long = longer (leb-false (length (trace_text v rs)) size r) }
    which rs q true true p r e = absurd (let z : ◌≡◌ {A = ℕ} 0 1 = cc in omega arith)

    go : (x : Records) → records_of v rows ≡ x → wrote_by v size x ≡ Refused refusal.NoRoom → Long v rows size
    go BadRow q e = absurd (let z : ◌≡◌ {A = ℕ} 0 1 = cc in omega arith)
    go (Are rs) q e = which rs q (leb (length (trace_text v rs)) longest) (leb (length (trace_text v rs)) size) refl refl e

-- an accepted text, whatever the room for it
pub again_wrote : (s : List ℕ) (v : Version) (rs : List Record) (size : ℕ) → trace_of s ≡ Whole v rs
    → wrote_of v (rows_of rs) size ≡ cond (leb (length s) size) (Length (length s)) (Refused refusal.NoRoom)
unfolding wrote_of
again_wrote s v rs size h =
    let a = accepted trace_format trace_laws s v rs h in
    rw (records_are v rs a.good, ← a.text, le-leb (length s) longest a.short)

pub again_left_lem : (s : List ℕ) (v : Version) (rs : List Record) (xs : List ℕ) → trace_of s ≡ Whole v rs
    → left_of v (rows_of rs) xs ≡ cond (leb (length s) (length xs)) (spliced xs 0 s) xs
unfolding left_of
again_left_lem s v rs xs h =
    let a = accepted trace_format trace_laws s v rs h in
    rw (records_are v rs a.good, ← a.text, le-leb (length s) longest a.short)

-- a record has 44 bytes at least, so a trace has 1,489 records at most
name_least : (o : Op) → 4 ≤ length (op_name o)
name_least Begin = omega arith
name_least End = omega arith
name_least Snap = omega arith
name_least Own = omega arith
name_least Oldest = omega arith
name_least Vacuum = omega arith
name_least Stamp = omega arith
name_least Finish = omega arith
name_least Pin = omega arith
name_least Unpin = omega arith

record_least : (r : Record) → 44 ≤ length (record_text r)
record_least r =
    let name = name_least r.op in
    let slot = length_some r.slot in
    let id = length_some r.id in
    let stamp = length_some r.stamp in
    let clock = length_some r.clock in
    let sample = length_some r.sample in
    omega (arith, record-length r)

records_least : (rs : List Record) → 44 * length rs ≤ length (records_text rs)
records_least [] = omega arith
records_least (r ∷ rs) =
    let size = ap length (records-first r rs) ∙ length-append (record_text r) (records_text rs) in
    omega (arith, size, record_least r, records_least rs)

pub most-records : (s : List ℕ) (v : Version) (rs : List Record) → trace_of s ≡ Whole v rs → length rs ≤ 1489
most-records s v rs h =
    let a = accepted trace_format trace_laws s v rs h in
    omega (arith, a.short, ap length a.text, trace_length v rs, records_least rs)
