-- The last transaction snapshot that the walk over the calls finds is the last in words, and the other way round.
use Prim.Native.Nat.{ℕ}
use mathlib.Core.Path.{◌≡◌, refl, sym, ◌∙◌, ap}
use mathlib.Core.Logic.{◌↔◌}
use mathlib.Core.Bool.{false, true≢false}
use mathlib.Core.List.{List, [], ◌∷◌, ◌++◌, append-nil, nil≢cons, head-eq_of_cons-eq, tail-eq_of_cons-eq}
use mathlib.Core.Option.{Option, none, some, none-ne-some, some-injective}
use Rattle.kinds.specs.declared.SlotNo.{SlotNo}
use Rattle.kinds.specs.declared.Txid.{Txid}
use Rattle.settled.specs.declared.Snapshot.{Snapshot}
use Rattle.model.specs.declared.Table.{Table}
use Rattle.model.specs.Calls.{Call, own, refusal, after, shown}
use Rattle.model.specs.Accepted.{Registered}
use Rattle.model.specs.Deeds.{own_of}
use Rattle.model.specs.History.{run, Accepts, noted_by, last_from, Quiet, IsLast}
use Rattle.model.proofs.Transactions.{registered_taken, same_itself}
use Rattle.model.proofs.Never.{never_nil, never_cons, never_head, never_tail}
use Rattle.model.proofs.Noted.{Noted, now-taken, now_forgotten, not-moved, noted}
use Rattle.model.proofs.History.{run-append}

pub last_append :
    (n : ℕ) (slot : SlotNo) (id : Txid) (t : Table) (before later : List Call) (last : Option Snapshot) →
    last_from n slot id t (before ++ later) last
    ≡ last_from n slot id (run n t before) later (last_from n slot id t before last)
unfolding run last_from
last_append n slot id t [] later last = refl
last_append n slot id t (c ∷ before) later last =
    last_append n slot id (after n t c) before later (noted_by (refusal n t c) n slot id t c last)

-- an accepted transaction snapshot is noted
pub last_own_lem :
    (n : ℕ) (slot : SlotNo) (id : Txid) (t : Table) (clock sample : ℕ) (last : Option Snapshot) →
    Accepts n t (own slot id clock sample) →
    noted_by (refusal n t (own slot id clock sample)) n slot id t (own slot id clock sample) last
    ≡ some (shown n t (own slot id clock sample))
last_own_lem n slot id t clock sample last e = rw (e, same_itself slot id)

quiet_tail :
    (n : ℕ) (slot : SlotNo) (id : Txid) (t : Table) (c : Call) (cs : List Call) → Quiet n t slot id (c ∷ cs) →
    Quiet n (after n t c) slot id cs
unfolding run
quiet_tail n slot id t c cs k =
    record {
      alive = λ p q e. k.alive (c ∷ p) q (ap (λ (l : List Call). c ∷ l) e);
      no_other = never_tail n t (own_of slot id) c cs k.no_other;
    }

-- through quiet calls the last snapshot stays
quiet_kept :
    (n : ℕ) (slot : SlotNo) (id : Txid) (t : Table) (cs : List Call) (last : Option Snapshot) → Quiet n t slot id cs →
    last_from n slot id t cs last ≡ last
unfolding run last_from
quiet_kept n slot id t [] last k = refl
quiet_kept n slot id t (c ∷ cs) last k =
    quiet_kept n slot id (after n t c) cs (noted_by (refusal n t c) n slot id t c last) (quiet_tail n slot id t c cs k)
    ∙ one (noted n t slot id c last)
  where
    here : Registered t slot id
    here = k.alive [] (c ∷ cs) refl

    one : Noted n t slot id c last (refusal n t c) (after n t c) → noted_by (refusal n t c) n slot id t c last ≡ last
    one (now-taken clock sample p v w e) =
        let none = never_head n t (own_of slot id) c cs k.no_other v in
        absurd (true≢false (sym (same_itself slot id) ∙ rw p at none))
    one (now_forgotten p e) = absurd (registered_taken t slot id here p)
    one (not-moved e f l) = e

-- in words, so found by the walk
pub words_walk :
    (n : ℕ) (t : Table) (slot : SlotNo) (id : Txid) (cs : List Call) (s : Snapshot) → IsLast n t slot id cs s →
    last_from n slot id t cs none ≡ some s
unfolding last_from
words_walk n t slot id cs s w =
    ap (λ (l : List Call). last_from n slot id t l none) w.written
    ∙ last_append n slot id t w.before (own slot id w.clock w.sample ∷ w.later) none
    ∙ quiet_kept n slot id (after n (run n t w.before) (own slot id w.clock w.sample)) w.later _ w.quiet
    ∙ last_own_lem n slot id (run n t w.before) w.clock w.sample _ w.accepted
    ∙ ap some (sym w.shows)

-- found by the walk, so: kept from the start all through quiet calls, or the last in words
data Found (n : ℕ) (slot : SlotNo) (id : Txid) (t : Table) (cs : List Call) (last : Option Snapshot) (s : Snapshot) : Type 0 where
  from_start : last ≡ some s → Quiet n t slot id cs → Found n slot id t cs last s
  on_the_way : IsLast n t slot id cs s → Found n slot id t cs last s

quiet_nil : (n : ℕ) (t : Table) (slot : SlotNo) (id : Txid) → Registered t slot id → Quiet n t slot id []
unfolding run
quiet_nil n t slot id r = record { alive = alive; no_other = never_nil n t (own_of slot id) }
  where
    alive : (p q : List Call) → [] ≡ p ++ q → Registered (run n t p) slot id
    alive [] q e = r
    alive (c ∷ p) q e = absurd (nil≢cons e)

quiet_cons :
    (n : ℕ) (t : Table) (slot : SlotNo) (id : Txid) (c : Call) (cs : List Call) → Registered t slot id →
    (Accepts n t c → own_of slot id c ≡ false) → Quiet n (after n t c) slot id cs → Quiet n t slot id (c ∷ cs)
unfolding run
quiet_cons n t slot id c cs r h k =
    record { alive = alive; no_other = never_cons n t (own_of slot id) c cs h k.no_other }
  where
    alive : (p q : List Call) → c ∷ cs ≡ p ++ q → Registered (run n t p) slot id
    alive [] q e = r
    alive (d ∷ p) q e = rw (← head-eq_of_cons-eq e) (k.alive p q (tail-eq_of_cons-eq e))

-- a call in front of what is the last in words
further :
    (n : ℕ) (slot : SlotNo) (id : Txid) (t : Table) (c : Call) (cs : List Call) (s : Snapshot) →
    IsLast n (after n t c) slot id cs s → IsLast n t slot id (c ∷ cs) s
unfolding run
further n slot id t c cs s w =
    record {
      before = c ∷ w.before;
      clock = w.clock;
      sample = w.sample;
      later = w.later;
      written = ap (λ (l : List Call). c ∷ l) w.written;
      accepted = w.accepted;
      shows = w.shows;
      quiet = w.quiet;
    }

-- a transaction snapshot with quiet calls behind it
first :
    (n : ℕ) (slot : SlotNo) (id : Txid) (t : Table) (c : Call) (cs : List Call) (clock sample : ℕ) (s : Snapshot) →
    c ≡ own slot id clock sample → Accepts n t c → s ≡ shown n t c → Quiet n (after n t c) slot id cs →
    IsLast n t slot id (c ∷ cs) s
unfolding run
first n slot id t c cs clock sample s p a e k =
    record {
      before = [];
      clock = clock;
      sample = sample;
      later = cs;
      written = ap (λ (d : Call). d ∷ cs) p;
      accepted = rw (← p) a;
      shows = rw (← p) e;
      quiet = rw (← p) k;
    }

found :
    (n : ℕ) (slot : SlotNo) (id : Txid) (t : Table) (cs : List Call) (last : Option Snapshot) (s : Snapshot) →
    last_from n slot id t cs last ≡ some s → Registered (run n t cs) slot id → Found n slot id t cs last s
unfolding run last_from after
found n slot id t [] last s e r = from_start e (quiet_nil n t slot id r)
found n slot id t (c ∷ cs) last s e r =
    go (found n slot id (after n t c) cs (noted_by (refusal n t c) n slot id t c last) s e r)
  where
    one : noted_by (refusal n t c) n slot id t c last ≡ some s → Quiet n (after n t c) slot id cs →
        Noted n t slot id c last (refusal n t c) (after n t c) → Found n slot id t (c ∷ cs) last s
    one p k (now-taken clock sample q v y w) =
        on_the_way (first n slot id t c cs clock sample s q v (some-injective s _ (sym p ∙ w)) k)
    one p k (now_forgotten q w) = absurd (none-ne-some s (sym w ∙ p))
    one p k (not-moved q h l) = from_start (sym q ∙ p) (quiet_cons n t slot id c cs (l.was (k.alive [] cs refl)) h k)

    go : Found n slot id (after n t c) cs (noted_by (refusal n t c) n slot id t c last) s → Found n slot id t (c ∷ cs) last s
    go (from_start p k) = one p k (noted n t slot id c last)
    go (on_the_way w) = on_the_way (further n slot id t c cs s w)

pub walk_words :
    (n : ℕ) (t : Table) (slot : SlotNo) (id : Txid) (cs : List Call) (s : Snapshot) → Registered (run n t cs) slot id →
    last_from n slot id t cs none ≡ some s → IsLast n t slot id cs s
walk_words n t slot id cs s r e = go (found n slot id t cs none s e r)
  where
    go : Found n slot id t cs none s → IsLast n t slot id cs s
    go (from_start p k) = absurd (none-ne-some s p)
    go (on_the_way w) = w

-- of a registered transaction the walk finds s exactly where s is the last in words
pub last_in_words :
    (n : ℕ) (t : Table) (slot : SlotNo) (id : Txid) (cs : List Call) (s : Snapshot) → Registered (run n t cs) slot id →
    (last_from n slot id t cs none ≡ some s) ↔ IsLast n t slot id cs s
last_in_words n t slot id cs s r = (walk_words n t slot id cs s r, words_walk n t slot id cs s)

-- one that is the last in words belongs to a transaction registered at the end
pub words_registered :
    (n : ℕ) (t : Table) (slot : SlotNo) (id : Txid) (cs : List Call) (s : Snapshot) → IsLast n t slot id cs s →
    Registered (run n t cs) slot id
unfolding run
words_registered n t slot id cs s w =
    rw (w.written, run-append n t w.before (own slot id w.clock w.sample ∷ w.later))
    (w.quiet.alive w.later [] (sym (append-nil w.later)))
