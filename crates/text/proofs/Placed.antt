-- Texts that are placed one after the other where they have room.
use Prim.Native.Nat.{ℕ, ◌+◌, ◌≤◌, ◌<◌}
use native.Mathlib.Omega.{arith}
use mathlib.Core.Path.{◌≡◌, sym, ap, ◌∙◌}
use mathlib.Core.List.{List, ◌++◌}
use lib.ListN.{length, length-append}
use Rattle.std.specs.Option.{unwrap_or}
use Rattle.text.specs.Put.{Put, Past, NoRoom}
use Rattle.text.specs.Line.{line_text}
use Rattle.text.specs.Write.{spliced, put_at, written}
use Rattle.text.specs.Placed.{Placed}
use Rattle.text.proofs.Splice.{splice_length, splice_append, room, no_room}

-- a line that was put where it has room, and was put
pub line_placed : (xs : List ℕ) (at : ℕ) (key : List ℕ) (n : ℕ) {ys : List ℕ} {put : Put} {past : ℕ}
    → at + length (line_text key n) ≤ length xs → put ≡ put_at xs at (line_text key n) → ys ≡ written xs at (line_text key n)
    → put ≡ Past past → Placed xs at (line_text key n) ys past
line_placed xs at key n {ys} {put} {past} h p w e =
    let r = room xs at (line_text key n) h in
    let same : past ≡ at + length (line_text key n) = cc in
    let left : ys ≡ spliced xs at (line_text key n) = w ∙ sym r.1 in
    record { left = left; size = ap length left ∙ splice_length xs at (line_text key n) h; end = same }

pub line_there : (xs : List ℕ) (at : ℕ) (key : List ℕ) (n : ℕ) {put : Put} → at + length (line_text key n) ≤ length xs
    → put ≡ put_at xs at (line_text key n) → put ≡ NoRoom → ⊥
line_there xs at key n h p e =
    let r = room xs at (line_text key n) h in
    let z : ◌≡◌ {A = ℕ} 0 1 = cc in
    omega arith

-- a line that was put or not, and the place past it or its own
module _ (xs : List ℕ) (at : ℕ) (key : List ℕ) (n : ℕ) {ys : List ℕ} {put : Put} {past : ℕ}
    (p : put ≡ put_at xs at (line_text key n)) (w : ys ≡ written xs at (line_text key n)) (e : past ≡ unwrap_or put at) where
  pub line_with_room : at + length (line_text key n) ≤ length xs → Placed xs at (line_text key n) ys past
  line_with_room h =
      let r = room xs at (line_text key n) h in
      let left : ys ≡ spliced xs at (line_text key n) = w ∙ sym r.1 in
      record {
        left = left;
        size = ap length left ∙ splice_length xs at (line_text key n) h;
        end = e ∙ rw (p, ← r.0);
      }

  pub line_with_none : length xs < at + length (line_text key n) → (ys ≡ xs) × (past ≡ at)
  line_with_none h =
      let r = no_room xs at (line_text key n) h in
      (w ∙ sym r.1, e ∙ rw (p, ← r.0))

-- one text after another, and an equal text
pub placed_then : {xs ys zs t u : List ℕ} {at p q : ℕ} → at ≤ length xs → Placed xs at t ys p → Placed ys p u zs q
    → Placed xs at (t ++ u) zs q
placed_then {xs} {ys} {zs} {t} {u} {at} {p} h f g = record {
  left = g.left ∙ rw (f.left, f.end) (splice_append xs at t u h);
  size = g.size ∙ f.size;
  end = omega (arith, length-append t u, f.end, g.end);
}

pub placed_same : {xs ys t u : List ℕ} {at p : ℕ} → t ≡ u → Placed xs at t ys p → Placed xs at u ys p
placed_same e f = rw (← e) f

-- two texts that have room: so has the first, and past it the second
pub fits-first : (t u : List ℕ) (at : ℕ) {size : ℕ} → at + length (t ++ u) ≤ size → at + length t ≤ size
fits-first t u at h = omega (arith, length-append t u)

pub fits_next : (t u : List ℕ) {xs ys : List ℕ} {at p : ℕ} → at + length (t ++ u) ≤ length xs → Placed xs at t ys p
    → p + length u ≤ length ys
fits_next t u h p = omega (arith, length-append t u, p.size, p.end)

pub both_placed : (t u : List ℕ) {xs ys zs : List ℕ} {at p q : ℕ} → at + length (t ++ u) ≤ length xs → Placed xs at t ys p
    → Placed ys p u zs q → Placed xs at (t ++ u) zs q
both_placed t u h = placed_then (omega (arith, length-append t u))

-- what a writer of t answers and leaves, where it has room
pub placed_put : {xs ys t : List ℕ} {at p : ℕ} → at + length t ≤ length xs → Placed xs at t ys p
    → (Past p ≡ put_at xs at t) × (ys ≡ written xs at t)
placed_put {xs} {ys} {t} {at} {p} h f =
    let r = room xs at t h in
    (ap Past f.end ∙ r.0, f.left ∙ r.1)
