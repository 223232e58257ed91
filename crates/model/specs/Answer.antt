-- What a call answers: what an accepted one gives, or why it is refused.
use Rattle.std.specs.Prelude.{ℕ, Result, Ok, Err}
use Rattle.kinds.specs.declared.refusal.Refusal.{Refusal}
use Rattle.kinds.specs.declared.SlotNo.{SlotNo}
use Rattle.kinds.specs.declared.PinNo.{PinNo}
use Rattle.kinds.specs.declared.Stamp.{Stamp}
use Rattle.kinds.specs.declared.Txid.{Txid}
use Rattle.model.specs.declared.answer.Answer.{Answer as Accepted}
use Rattle.model.specs.declared.answer.Answer.TheVariants as accepted

abbrev pub Answer : Type 0
Answer = Result Accepted Refusal

pattern abbrev pub Begun : SlotNo → Txid → Answer
Begun slot id = Ok (accepted.Begun slot id)

pattern abbrev pub Done : Answer
Done = Ok accepted.Done

pattern abbrev pub Pinned : PinNo → Answer
Pinned k = Ok (accepted.Pinned k)

pattern abbrev pub Oldest : ℕ → ℕ → Answer
Oldest xmin holder = Ok (accepted.Oldest xmin holder)

pattern abbrev pub Line : ℕ → ℕ → Answer
Line line holder = Ok (accepted.Line line holder)

pattern abbrev pub Stamped : Stamp → Answer
Stamped stamp = Ok (accepted.Stamped stamp)

pattern abbrev pub Refused : Refusal → Answer
Refused r = Err r
