-- Bytes as the library reads them, in chunks of eight, and the numbers that they say.
use Prim.Native.Nat.{ℕ, zero, suc, ◌+◌, ◌*◌, ◌/◌, ◌≤◌, ◌<◌}
use mathlib.Core.Path.{◌≡◌, refl, sym, ap, ◌∙◌, subst}
use mathlib.Core.Bool.{Bool, ◌||◌, or_assoc, or-false}
use mathlib.Core.List.{List, [], ◌∷◌, map}
use native.Mathlib.Omega.{arith}
use Rattle.std.proofs.Math.Nat.{eq-or-lt_of_le}
use Rattle.std.proofs.Common.{⊎_elim}
use lib.Dec.{eqb}
use lib.ListN.{length, get_or, take, drop, length-drop, take-append-drop}
use lib.Seq.{drop-drop, length-take-le}
use denote.Param.Members.{Mut}
use Rattle.std.specs.Array.{IsFromFnResultFrom, IsFromFnResult}
use Rattle.std.specs.Fn.{Called}
use Rattle.std.specs.Int.{w64, from_le_bytes}
use Rattle.std.specs.List.{list_any, range_with_len, fold}
use Rattle.std.specs.Simd.{first_chunks}
use Rattle.std.proofs.lemmas.List.Folds.{list_any-append}
use Rattle.std.proofs.lemmas.List.FromFn.{fill_by_all}
use Rattle.listed.specs.Listed.{listed}
use Rattle.image.specs.Lists.{ids_of}
use Rattle.image.specs.Words.{number_of, word_at, words_from}
use Rattle.image.proofs.Eight.{number_eight}
use Rattle.image.proofs.Inverse.{words_past}

-- whether the library reads x
abbrev pub reads : ℕ → List ℕ → Bool
reads x word = eqb (from_le_bytes w64 word) x

numbers_any :
    (x k : ℕ) (s : List ℕ) → 8 * k ≤ length s → list_any (reads x) (first_chunks 8 k s) ≡ listed x (words_from k s 0 8)
unfolding listed words_from word_at
numbers_any x zero s h = refl
numbers_any x (suc k) s h =
    let first = number_eight (take 8 s) (length-take-le 8 s (omega (arith, h))) in
    let others = numbers_any x k (drop 8 s) (omega (arith, h, length-drop 8 s)) in
    let later = words_past k s 8 0 8 in
    rw (first, others) (ap (λ l. eqb (number_of (take 8 s)) x || listed x l) (sym later))

-- turns of n, and what is left then
turns_any : {X : Type 0} (p : X → Bool) (n j : ℕ) (ws : List X) →
    list_any (list_any p) (first_chunks n j ws) || list_any p (drop (j * n) ws) ≡ list_any p ws
turns_any p n zero ws = let none : 0 * n ≡ 0 = omega arith in rw none
turns_any p n (suc j) ws =
    let past : drop (suc j * n) ws ≡ drop (j * n) (drop n ws) = ap (λ k. drop k ws) (omega arith) ∙ sym (drop-drop (j * n) n ws) in
    rw (past, or_assoc, turns_any p n j (drop n ws), ← list_any-append p (take n ws) (drop n ws), take-append-drop n ws)

-- eight numbers a turn, then those that are left
pub listed_by_turns : (x : ℕ) (s : List ℕ) {words rest : List (List ℕ)} {turns : List (List (List ℕ))} → words ≡ first_chunks 8 (length s / 8) s →
    turns ≡ first_chunks 8 (length words / 8) words → rest ≡ drop (length words / 8 * 8) words → list_any (list_any (reads x)) turns || list_any (reads x) rest ≡ listed x (ids_of s)
listed_by_turns x s {words} w t r =
    let all = turns_any (reads x) 8 (length words / 8) words in
    rw (t, r, all, w) (numbers_any x (length s / 8) s (omega arith))

-- an array made place by place
made : {F : Type 0} (g : Mut F (ℕ × Unit {0}) ℕ) (h : ℕ → ℕ) (f : F) (ys : List ℕ) →
    ((k y : ℕ) (q : F) → Called g f (k, tt) y q → (q ≡ f) × (y ≡ h k)) →
    (i n : ℕ) → IsFromFnResultFrom g f ys i n → (k : ℕ) → i ≤ k → k < i + n → get_or ys k 0 ≡ h k
made g h f ys calls i zero r k b t = absurd (omega arith)
made g h f ys calls i (suc n) (q, y, here, call, rest) k b t =
    let (stays, is) = calls i y q call in
    let later = made g h f ys calls (i + 1) n (subst (λ p. IsFromFnResultFrom g p ys (i + 1) n) stays rest) k in
    ⊎_elim (λ e. ap (λ j. get_or ys j 0) (sym e) ∙ here.1 0 ∙ is ∙ ap h e) (λ e. later (omega arith) (omega arith)) (eq-or-lt_of_le b)

words_by_place : (n : ℕ) (s : List ℕ) (from apart i : ℕ) → words_from n s (from + apart * i) apart ≡ map (λ k. word_at s (from + apart * k)) (range_with_len i n)
unfolding words_from
words_by_place zero s from apart i = refl
words_by_place (suc n) s from apart i =
    let next : from + apart * i + apart ≡ from + apart * (i + 1) = omega arith in
    rw (next, words_by_place n s from apart (i + 1))

pub words_made : {F : Type 0} (g : Mut F (ℕ × Unit {0}) ℕ) (f : F) (ys : List ℕ) (n : ℕ) (s : List ℕ) (from apart : ℕ) → IsFromFnResult g f ys n →
    ((k y : ℕ) (q : F) → Called g f (k, tt) y q → (q ≡ f) × (y ≡ word_at s (from + apart * k))) → ys ≡ words_from n s from apart
words_made g f ys n s from apart r calls =
    let at : ℕ → ℕ = λ k. word_at s (from + apart * k) in
    let start : from + apart * 0 ≡ from = omega arith in
    fill_by_all at ys n 0 r.long (λ k b. made g at f ys calls 0 n r.each k (omega arith) (omega arith))
    ∙ sym (words_by_place n s from apart 0)
    ∙ ap (λ q. words_from n s q apart) start

-- a search without a branch
pub fold_any : {X : Type 0} (p : X → Bool) (found : Bool) (ws : List X) → fold (λ b w. b || p w) found ws ≡ found || list_any p ws
fold_any p found [] = sym (or-false found)
fold_any p found (w ∷ ws) = fold_any p (found || p w) ws ∙ or_assoc found (p w) (list_any p ws)
