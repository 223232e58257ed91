-- A table's words are its columns one after the other: a change stored in each column, with its counters after them, is the change made.
use Prim.Native.Nat.{ℕ, zero, suc, ◌+◌, min}
use mathlib.Core.Path.{◌≡◌, ap, ◌∙◌}
use mathlib.Core.List.{List, [], ◌∷◌, ◌++◌, append_assoc, append-nil}
use native.Mathlib.Omega.{arith}
use lib.ListN.{length, take, drop, length-drop, drop_of_length-le}
use lib.Seq.{sets, sets-eq, take-add, length-take-le, drop-nil, drop-drop}
use borrow.Author.Tests.{eq-eqb}
use Rattle.std.proofs.lemmas.List.{take_min}
use Rattle.kinds.specs.Kinds.{pin_count}
use Rattle.model.specs.declared.change.Change.{Change}
use Rattle.model.specs.Changes.{applied}
use Rattle.model.specs.Stored.{stored_txid, stored_xmin, stored_pin}
use Rattle.model.proofs.Stores.{stored_txid_lem, stored_xmin_lem, stored_pin_lem}
use Rattle.place.specs.Words.{pins_from, counters_from, size_of, table_of, laid, words_of, stored_words}

-- a run's front of n words and what stands after it, where the run may be shorter
drop_min : (n : ℕ) (xs : List ℕ) → drop (min n (length xs)) xs ≡ drop n xs
drop_min zero xs = let none : min zero (length xs) ≡ zero = omega arith in ap (λ (k : ℕ). drop k xs) none
drop_min (suc n) [] = drop-nil (min (suc n) 0)
drop_min (suc n) (x ∷ xs) =
    let less : min (suc n) (length (x ∷ xs)) ≡ suc (min n (length xs)) = omega arith in
    ap (λ (k : ℕ). drop k (x ∷ xs)) less ∙ drop_min n xs

module _ (n : ℕ) {k : ℕ} {ys zs : List ℕ} (least : k ≡ min n (length ys)) (same : ys ≡ zs) where
  pub front_of : {xs : List ℕ} → xs ≡ take k ys → xs ≡ take n zs
  front_of e = e ∙ ap (λ (k : ℕ). take k ys) least ∙ take_min n ys ∙ ap (λ (l : List ℕ). take n l) same

  pub back_of : {xs : List ℕ} → xs ≡ drop k ys → xs ≡ drop n zs
  back_of e = e ∙ ap (λ (k : ℕ). drop k ys) least ∙ drop_min n ys ∙ ap (λ (l : List ℕ). drop n l) same

-- the pins begin past both columns
pub past_both : (n : ℕ) (ws : List ℕ) → drop n (drop n ws) ≡ drop (pins_from n) ws
past_both n ws = let two : n + n ≡ pins_from n = omega arith in drop-drop n n ws ∙ ap (λ (k : ℕ). drop k ws) two

module _ (n : ℕ) (ws : List ℕ) (size : length ws ≡ size_of n) where
  txids-long : length (take n ws) ≡ n
  txids-long = length-take-le n ws (omega arith)

  xmins-long : length (take n (drop n ws)) ≡ n
  xmins-long = length-take-le n (drop n ws) (omega (arith, length-drop n ws))

  pins-long : length (take pin_count (drop (pins_from n) ws)) ≡ pin_count
  pins-long = length-take-le pin_count (drop (pins_from n) ws) (omega (arith, length-drop (pins_from n) ws))

  -- the three columns, with three words after them
  pub with_counters :
      (c s l : ℕ) →
      sets ws (counters_from n) (c ∷ s ∷ l ∷ [])
      ≡ laid (take n ws) (take n (drop n ws)) (take pin_count (drop (pins_from n) ws)) (c ∷ s ∷ l ∷ [])
  with_counters c s l =
      let zs : List ℕ = c ∷ s ∷ l ∷ [] in
      let two : pins_from n ≡ n + n = omega arith in
      let pins : List ℕ = take pin_count (drop (pins_from n) ws) in
      sets-eq zs ws (counters_from n) (omega arith)
      ∙ ap (λ (r : List ℕ). take (counters_from n) ws ++ zs ++ r) (drop_of_length-le ws {i = counters_from n + 3} (omega arith))
      ∙ append-nil (take (counters_from n) ws ++ zs)
      ∙ ap (λ (r : List ℕ). r ++ zs) (take-add (pins_from n) pin_count ws)
      ∙ append_assoc (take (pins_from n) ws) pins zs
      ∙ ap (λ (k : ℕ). take k ws ++ (pins ++ zs)) two
      ∙ ap (λ (r : List ℕ). r ++ (pins ++ zs)) (take-add n n ws)
      ∙ append_assoc (take n ws) (take n (drop n ws)) (pins ++ zs)

  -- each column after the change, then the counters: the change is made
  pub stored_change :
      (c : Change) →
      laid (stored_txid n c.slot (take n ws)) (stored_xmin n c.slot (take n (drop n ws)))
      (stored_pin c.slot (take pin_count (drop (pins_from n) ws)))
      (c.counters.clock ∷ c.counters.sampled_clock ∷ c.counters.vacuum_line ∷ [])
      ≡ words_of (applied (table_of n ws) c)
  unfolding table_of words_of
  stored_change c =
      rw (
        stored_txid_lem n (take n ws) txids-long c.slot,
        stored_xmin_lem n (take n (drop n ws)) xmins-long c.slot,
        stored_pin_lem (take pin_count (drop (pins_from n) ws)) pins-long c.slot,
      )

  -- .. of a run that is a table
  pub stored_parts :
      (c : Change) {txids xmins pins counters : List ℕ} → txids ≡ stored_txid n c.slot (take n ws) →
      xmins ≡ stored_xmin n c.slot (take n (drop n ws)) → pins ≡ stored_pin c.slot (take pin_count (drop n (drop n ws))) →
      counters ≡ c.counters.clock ∷ c.counters.sampled_clock ∷ c.counters.vacuum_line ∷ [] →
      laid txids xmins pins counters ≡ stored_words n ws c
  unfolding stored_words
  stored_parts c a b d e = rw (eq-eqb _ _ size, a, b, d, e, past_both n ws) (stored_change c)
