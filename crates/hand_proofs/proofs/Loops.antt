-- A loop as a statement of a function's body, as `while` makes it: `seq (block (loop turn)) rest`.
-- I is the invariant, a context for each state, and size the measure.
--     Turn st          what is shown of one turn: from `I st` it leaves the loop, and the rest runs, or it ends in the invariant
--                      at a smaller state. A proof of one says `unfolding after_turn`
--     goes_on st st'   a turn that ends in the invariant at the smaller state st'
--     leaves_loop, exec    (of the toolchain) one that leaves
--     rounds           the loop and the rest run, from any state
use mathlib.Core.List.{List}
use mathlib.Core.WellFounded.InvImage
use Prim.Native.Nat.{ℕ, ◌<◌}
use lib.WfN.{lt-wf_rel}
use seplogic.Ra.Ura.{Ura}
use mir.Syntax.{Body, seq, block, loop}
use mir.Val.{Val}
use base.Logic.{SProp}
use types.Logic.{Logic}
use prog.Wp.{Env, Wp, after_seq, after_block, after_turn, at_return}
use types.Kit.{Item, Post, Seq, Sq, prop, post, runs, any_q, at_ret, ◌$◌, ! }
use types.Run.{Below, again, loops, first, blocks}
use Rattle.hand_proofs.proofs.World.{World}

module _ {M : Type 1} {𝓤 : Ura M} {𝓛 : Logic 𝓤} (w : World 𝓛) {X : Type 0} (I : X → List (Item 𝓤)) (size : X → ℕ) where
  open 𝓛 use {H}

  abbrev ≺ : X → X → Type 0
  ≺ a b = size a < size b

  pub goes_on : {K : Type 0} → K → (st st' : X) → size st' < size st → Seq K 𝓛 (I st') (prop (Below 𝓛 ≺ I st))
  goes_on t st st' less = again t ≺ I st st' less

  module _ (E : Env 𝓤 H) (turn rest : Body) (Kf : Val → SProp 𝓤) where
    abbrev Left : Post 𝓤 H
    Left = any_q (after_block 𝓤 H (after_seq 𝓤 H (Wp 𝓤 H w.tables.C w.tables.Λ E rest (at_return 𝓤 H E Kf)) (at_return 𝓤 H E Kf)))

    abbrev pub Turn : X → Type 1
    Turn st = Sq 𝓛 (I st)
        (runs w.tables.C w.tables.Λ E turn (any_q (after_turn 𝓤 H (Below 𝓛 ≺ I st) (post 𝓤 H Left))))

    pub rounds : ((st : X) → Turn st) → (st : X)
        → Sq 𝓛 (I st) (runs w.tables.C w.tables.Λ E (seq (block (loop turn)) rest) (at_ret E Kf))
    rounds k st = first ! $ blocks ! $ loops ! w.tables ≺ (InvImage.wf size lt-wf_rel.wf) I k st
