-- Texts written one after the other are one text. What an inner writer leaves is `Wrote` (specs/Wrote.antt); what stays around a text
-- that is put into a buffer is of crate text (proofs/Splice).
use Prim.Native.Nat.{ℕ, ◌+◌, ◌≤◌, ◌<◌, ◌^◌}
use mathlib.Core.Path.{◌≡◌, refl, ap, ◌∙◌}
use mathlib.Core.List.{List, [], ◌∷◌, ◌++◌, append_assoc, append-nil}
use mathlib.Core.Bool.{true, false}
use native.Mathlib.Omega.{arith}
use lib.ListN.{length, length-append}
use Rattle.std.specs.Option.{unwrap_or}
use Rattle.text.specs.Put.{Past, NoRoom}
use Rattle.text.specs.Keys.{in_key}
use Rattle.text.specs.Line.{line_text}
use Rattle.text.specs.Write.{put_at, written}
use Rattle.text.proofs.Placed.{line_with_room}
use Rattle.text.proofs.Decimal.{length-word}
use Rattle.trace.specs.declared.Version.{Version}
use Rattle.trace.specs.declared.Version.TheVariants.{Proc1, Proc2, Proc3}
use Rattle.text.proofs.Splice.{splice_none, splice_append, line-length}
use Rattle.output.specs.Output.{in_lines, holder_room, fits, put_text, left_text}
use Rattle.output.specs.Wrote.{Wrote}

line_short : (key : List ℕ) (n : ℕ) → n < 2 ^ 64 → length (line_text key n) ≤ length key + 21
line_short key n h = omega (arith, line-length key n, length-word n h)

-- a line that is put where the longest number has room
pub line_wrote :
    (xs : List ℕ) (at : ℕ) (key : List ℕ) (n : ℕ) {ys : List ℕ} {past : ℕ} → n < 2 ^ 64 → at + (length key + 21) ≤ length xs →
    past ≡ unwrap_or (put_at xs at (line_text key n)) at → ys ≡ written xs at (line_text key n) →
    Wrote xs at (line_text key n) ys past (length key + 21)
line_wrote xs at key n small h e w =
    let s = line_short key n small in
    let p = line_with_room xs at key n refl w e (omega arith) in
    record { left = p.left; size = p.size; end = p.end; short = omega (arith, p.end) }

-- nothing, and one text after another
pub wrote_none : (xs : List ℕ) (at : ℕ) → Wrote xs at [] xs at 0
wrote_none xs at = record { left = splice_none xs at; size = refl; end = omega arith; short = omega arith }

pub wrote_then :
    {xs ys zs t u : List ℕ} {at p q a b : ℕ} → at ≤ length xs → Wrote xs at t ys p a → Wrote ys p u zs q b →
    Wrote xs at (t ++ u) zs q (a + b)
wrote_then {xs} {ys} {zs} {t} {u} {at} {p} h f g =
    record {
      left = g.left ∙ rw (f.left, f.end) (splice_append xs at t u h);
      size = g.size ∙ f.size;
      end = omega (arith, length-append t u, f.end, g.end);
      short = omega (arith, f.short, g.short);
    }

-- the same place, said with a larger bound or as an equal text
pub wrote_at-most : {xs ys t : List ℕ} {at p a b : ℕ} → a ≤ b → Wrote xs at t ys p a → Wrote xs at t ys p b
wrote_at-most h f = record { left = f.left; size = f.size; end = f.end; short = omega (arith, f.short) }

pub wrote_same : {xs ys t u : List ℕ} {at p a : ℕ} → t ≡ u → Wrote xs at t ys p a → Wrote xs at u ys p a
wrote_same e f = rw (← e) f

-- the lines of ids, one more at the end
in_lines_append : (a b : List ℕ) → in_lines (a ++ b) ≡ in_lines a ++ in_lines b
unfolding in_lines
in_lines_append [] b = refl
in_lines_append (x ∷ a) b = rw (in_lines_append a b, append_assoc)

pub in_lines_push : (ids : List ℕ) (id : ℕ) → in_lines (ids ++ id ∷ []) ≡ in_lines ids ++ line_text in_key id
unfolding in_lines
in_lines_push ids id = in_lines_append ids (id ∷ []) ∙ rw append-nil

-- the ninth line is given 28 bytes at most
pub holder_few : (v : Version) → holder_room v ≤ 28
holder_few Proc1 = omega arith
holder_few Proc2 = omega arith
holder_few Proc3 = omega arith

-- a record that has room, and one that has none
module _ (v : Version) (n : ℕ) (xs : List ℕ) (at count : ℕ) (t : List ℕ) where
  pub put_room :
      {ys : List ℕ} {past most : ℕ} → fits v n (length xs) at count ≡ true → Wrote xs at t ys past most →
      (Past past ≡ put_text v n xs at count t) × (ys ≡ left_text v n xs at count t)
  unfolding put_text left_text
  put_room e w = (rw e (ap Past w.end), rw e w.left)

  pub put_no_room :
      fits v n (length xs) at count ≡ false → (NoRoom ≡ put_text v n xs at count t) × (xs ≡ left_text v n xs at count t)
  unfolding put_text left_text
  put_no_room e = (rw e, rw e)
