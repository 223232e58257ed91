-- A trace that was read into 1,489 rows is written again from them: the laws are the writer's (trace_writer/proofs/Laws.antt).
use Prim.Native.Nat.{ℕ, ◌≤◌}
use native.Mathlib.Omega.{arith}
use mathlib.Core.Path.{◌≡◌, refl, sym, ap, ◌∙◌}
use mathlib.Core.Bool.{Bool, true, false, cond}
use mathlib.Core.List.{List}
use lib.Dec.{leb}
use lib.ListN.{length, take, drop, length-append, length-drop}
use lib.Seq.{take_at}
use borrow.Author.Tests.{le-leb, leb-true}
use Rattle.kinds.specs.declared.refusal.Refusal.{Refusal}
use Rattle.kinds.specs.declared.refusal.Refusal.TheVariants.{BadTrace, NoRoom}
use Rattle.grammar.specs.Texts.{Read, Whole, Broken}
use Rattle.trace.specs.Trace.{trace_of}
use Rattle.trace.specs.declared.Version.{Version}
use Rattle.trace.specs.declared.Record.{Record}
use Rattle.trace_writer.specs.Writing.{wrote_of, left_of}
use Rattle.rows_reader.specs.Reading.{rows_of, in_front, read_of, rows_left}
use Rattle.trace_writer.specs.Wrote.{Wrote}
use Rattle.trace_writer.specs.Wrote as wrote
use Rattle.rows_reader.specs.RowsRead.{Rows, Refused}
use Rattle.rows_reader.proofs.Filling.{rows_many}
use Rattle.trace_writer.proofs.Laws.{again_wrote, again_left_lem, most-records}
use Rattle.rewrite.specs.Again.{again_by, again_of, again_left}

front_many : (rows run : List (List ℕ)) → length rows ≤ length run → length (in_front rows run) ≡ length run
unfolding in_front
front_many rows run h = simp (length-append, length-drop) (omega arith)

front_taken : (rows run : List (List ℕ)) → take (length rows) (in_front rows run) ≡ rows
unfolding in_front
front_taken rows run = take_at rows (drop (length rows) run) (length rows) refl

-- what was read: the first n rows of the run are the text's
pub record Got (s : List ℕ) (v : Version) (n : ℕ) (left : List (List ℕ)) : Type 0 where
  pub records : List Record
  pub whole : trace_of s ≡ Whole v records
  pub inside : n ≤ length left
  pub rows : take n left ≡ rows_of records

module _ (s : List ℕ) (size : ℕ) (enough : 1489 ≤ size) where
  by_whole : (v : Version) (rs : List Record) → trace_of s ≡ Whole v rs → read_of s size ≡ Rows v (length rs)
  unfolding read_of
  by_whole v rs q = rw (q, le-leb (length rs) size (omega (arith, most-records s v rs q)))

  by-broken : (k : ℕ) → trace_of s ≡ Broken k → read_of s size ≡ Refused (BadTrace k)
  unfolding read_of
  by-broken k q = rw q

  pub read-refused : (r : Refusal) → read_of s size ≡ Refused r → (xs : List ℕ)
      → (wrote.Refused r ≡ again_of s (length xs)) × (xs ≡ again_left s xs)
  unfolding again_of again_left
  read-refused r h xs = go (trace_of s) refl
    where
      go : (x : Read Version Record) → trace_of s ≡ x → (wrote.Refused r ≡ again_of s (length xs)) × (xs ≡ again_left s xs)
      go (Broken k) q =
          let a = sym (by-broken k q) ∙ h in
          let same : BadTrace k ≡ r = cc in
          (rw (q, ← same), rw q)
      go (Whole w rs) q = absurd (let a = sym (by_whole w rs q) ∙ h in let z : ◌≡◌ {A = ℕ} 0 1 = cc in omega arith)

module _ (s : List ℕ) (run : List (List ℕ)) (enough : 1489 ≤ length run) where
  left-whole : (v : Version) (rs : List Record) → trace_of s ≡ Whole v rs → rows_left s run ≡ in_front (rows_of rs) run
  unfolding rows_left
  left-whole v rs q = rw (q, le-leb (length rs) (length run) (omega (arith, most-records s v rs q)))

  pub got : {left : List (List ℕ)} (v : Version) (n : ℕ) → read_of s (length run) ≡ Rows v n → left ≡ rows_left s run → Got s v n left
  got {left} v n h e = go (trace_of s) refl
    where
      go : (x : Read Version Record) → trace_of s ≡ x → Got s v n left
      go (Broken k) q = absurd (let a = sym (by-broken s (length run) enough k q) ∙ h in let z : ◌≡◌ {A = ℕ} 0 1 = cc in omega arith)
      go (Whole w rs) q =
          let a = sym (by_whole s (length run) enough w rs q) ∙ h in
          let pair : ◌≡◌ {A = Version × ℕ} (w, length rs) (v, n) = cc in
          let same = ap (λ (x : Version × ℕ). x.0) pair in
          let many = ap (λ (x : Version × ℕ). x.1) pair in
          let l = e ∙ left-whole w rs q in
          let k = rows_many rs in
          let most = most-records s w rs q in
          record {
            records = rs;
            whole = q ∙ ap (λ (u : Version). Whole u rs) same;
            inside = rw (l, front_many (rows_of rs) run (omega arith)) (omega arith);
            rows = rw (l, ← many, ← k) (front_taken (rows_of rs) run);
          }

-- and what was written from them
pub again : (s : List ℕ) (v : Version) (n : ℕ) (left : List (List ℕ)) (xs : List ℕ) {ys : List ℕ} {r : Wrote} → Got s v n left
    → r ≡ wrote_of v (take n left) (length xs) → ys ≡ left_of v (take n left) xs
    → (r ≡ again_of s (length xs)) × (ys ≡ again_left s xs)
unfolding again_of again_left
again s v n left xs g p q =
    let rs = g.records in (
      rw g.whole (p ∙ rw g.rows (again_wrote s v rs (length xs) g.whole)),
      rw g.whole (q ∙ rw g.rows (again_left_lem s v rs xs g.whole)),
    )

-- what was written lies inside the buffer
pub inside : (s : List ℕ) (size : ℕ) {n : ℕ} → again_of s size ≡ wrote.Length n → n ≤ size
unfolding again_of
inside s size {n} = go (trace_of s)
  where
    fits : (b : Bool) → leb (length s) size ≡ b → cond b (wrote.Length (length s)) (wrote.Refused NoRoom) ≡ wrote.Length n → n ≤ size
    fits true p e = let same : length s ≡ n = cc in omega (arith, leb-true (length s) size p)
    fits false p e = absurd (let z : ◌≡◌ {A = ℕ} 0 1 = cc in omega arith)

    go : (x : Read Version Record) → again_by s size x ≡ wrote.Length n → n ≤ size
    go (Broken k) e = absurd (let z : ◌≡◌ {A = ℕ} 0 1 = cc in omega arith)
    go (Whole v rs) e = fits (leb (length s) size) refl e
