-- A replay beside histories. By induction on the records before it, a record is run on the table that their calls reach; the rest is
-- the definitions opened. Histories in two parts are of crate model (proofs/History).
use Prim.Native.Nat.{ℕ}
use mathlib.Core.Path.{◌≡◌, refl, sym, ap, ◌∙◌}
use mathlib.Core.List.{List, [], ◌∷◌, ◌++◌, append_assoc}
use lib.ListN.{length}
use Rattle.kinds.specs.Verdicts.{Verdict, Pass, Refuse}
use Rattle.model.specs.declared.Table.{Table}
use Rattle.model.specs.Tables.{fresh_table, line_of}
use Rattle.model.specs.Answers.{xmin_told, numbers_of}
use Rattle.model.specs.Calls.{Call, after, answer, answer_accepted, answer_by, refusal}
use Rattle.model.specs.History.{run, reached}
use Rattle.model.proofs.History.{run_snoc}
use Rattle.text.specs.Keys.{records_key}
use Rattle.text.specs.Line.{line_text}
use Rattle.trace.specs.declared.Op.{Op}
use Rattle.trace.specs.declared.Op.TheVariants.{Snap, Own}
use Rattle.trace.specs.declared.Record.{Record}
use Rattle.trace.specs.declared.Version.{Version}
use Rattle.trace.specs.Trace.{trace_of}
use Rattle.grammar.specs.Texts.{Whole}
use Rattle.output.specs.Output.{printed, answer_text, rest_lines}
use Rattle.step.specs.Named.{call_of, call_by}
use Rattle.replay_text.specs.Replay.{calls_of, text_of, agree_line, replay_of}
use Rattle.replay_text.specs.Tied.{TakesSnapshot, plain, of_transaction, record_lines, shown_at, line_at, Tied}

-- records print their text, and those after them start on the table that their calls reach
pub text_append :
    (v : Version) (n : ℕ) (t : Table) (before later : List Record) →
    text_of v n t (before ++ later) ≡ text_of v n t before ++ text_of v n (run n t (calls_of before)) later
unfolding text_of run
text_append v n t [] later = refl
text_append v n t (r ∷ before) later = rw (text_append v n (after n t (call_of r)) before later, append_assoc)

calls_snoc : (before : List Record) (r : Record) → calls_of (before ++ r ∷ []) ≡ calls_of before ++ call_of r ∷ []
calls_snoc [] r = refl
calls_snoc (x ∷ before) r = ap (λ (cs : List Call). call_of x ∷ cs) (calls_snoc before r)

pub reached_snoc :
    (n : ℕ) (before : List Record) (r : Record) →
    reached n (calls_of (before ++ r ∷ [])) ≡ after n (reached n (calls_of before)) (call_of r)
reached_snoc n before r = rw (calls_snoc before r) (run_snoc n (fresh_table n) (calls_of before) (call_of r))

-- the answer of a call that takes a snapshot has no xmin of its own
no_other_xmin :
    (n : ℕ) (t : Table) (r : Record) {o : Op} (xmin : ℕ) → TakesSnapshot o → xmin_told (answer n t (call_by o r)) xmin ≡ xmin
unfolding answer answer_accepted xmin_told
no_other_xmin n t r xmin plain = go (refusal n t (call_by Snap r))
  where
    go : (v : Verdict) → xmin_told (answer_by v t (call_by Snap r)) xmin ≡ xmin
    go Pass = refl
    go (Refuse why) = refl
no_other_xmin n t r xmin of_transaction = go (refusal n t (call_by Own r))
  where
    go : (v : Verdict) → xmin_told (answer_by v t (call_by Own r)) xmin ≡ xmin
    go Pass = refl
    go (Refuse why) = refl

-- every record of every trace, at every number of slots
pub tied :
    (n : ℕ) (s : List ℕ) (v : Version) (before : List Record) (r : Record) (later : List Record) →
    trace_of s ≡ Whole v (before ++ r ∷ later) → Tied v n before r s later
unfolding replay_of text_of printed answer_text rest_lines numbers_of record_lines call_of
tied n s v before r later e =
    let t = reached n (calls_of before) in
    let step = reached_snoc n before r in
    let line : line_at v n before r ≡ line_of (after n t (call_of r)) = ap (λ (u : Table). line_of u) step in
    let own = printed v n t (call_of r) in
    let last = line_text records_key (length (before ++ r ∷ later)) in
    let around = text_append v n (fresh_table n) before (r ∷ later) ∙ sym (append_assoc (text_of v n (fresh_table n) before) own _) in
    record {
      stands = rw (e, step) (ap (λ (text : List ℕ). text ++ last ++ agree_line v) around);
      prints = rw line;
      snapshot = λ k. rw (line, no_other_xmin n t r (shown_at v n before r).xmin k);
    }
