-- A replay beside histories: what a record of a trace prints is what its call answers after the calls of the records before it.
use Rattle.std.specs.Prelude.{ℕ, ◌≡◌, List, [], ◌∷◌, ◌++◌, length}
use Rattle.settled.specs.declared.Snapshot.{Snapshot}
use Rattle.model.specs.Tables.{fresh_table}
use Rattle.model.specs.Answers.{tells_of, xmin_told, holder_told, listing}
use Rattle.model.specs.Answer.{Answer}
use Rattle.model.specs.Calls.{answer, shown}
use Rattle.model.specs.History.{reached}
use Rattle.model.specs.Promise.{line_after}
use Rattle.text.specs.Keys.{xmin_key, xmax_key, vacuum_key, count_key, records_key}
use Rattle.text.specs.Line.{line_text}
use Rattle.trace.specs.declared.Op.{Op}
use Rattle.trace.specs.declared.Op.TheVariants.{Snap, Own}
use Rattle.trace.specs.declared.Record.{Record}
use Rattle.trace.specs.declared.Version.{Version}
use Rattle.output.specs.Output.{told_lines, holder_line, in_lines, printed}
use Rattle.step.specs.Named.{call_of}
use Rattle.replay_text.specs.Replay.{calls_of, text_of, agree_line, replay_of}

-- the text of a record, line by line: what its answer tells, its xmin, the snapshot that it shows, the vacuum line, and the holder
unfoldable pub record_lines : Version → Answer → ℕ → Snapshot → ℕ → List ℕ
record_lines v a xmin s line =
    told_lines (tells_of a)
    ++ (line_text xmin_key xmin ++ line_text xmax_key s.xmax ++ line_text vacuum_key line ++ line_text count_key s.count)
    ++ holder_line v (holder_told a)
    ++ in_lines (listing s)

-- the ops that take a snapshot
pub data TakesSnapshot : Op → Type 0 where
  plain : TakesSnapshot Snap
  of_transaction : TakesSnapshot Own

-- a record r of a trace with header v, and the records before it: their calls are a history, and r's call is one more
module _ (v : Version) (n : ℕ) (before : List Record) (r : Record) where
  -- what r prints, what its call answers, the snapshot that it shows, and the line that the history has reached with it
  abbrev pub text_at : List ℕ
  text_at = printed v n (reached n (calls_of before)) (call_of r)

  abbrev pub answer_at : Answer
  answer_at = answer n (reached n (calls_of before)) (call_of r)

  abbrev pub shown_at : Snapshot
  shown_at = shown n (reached n (calls_of before)) (call_of r)

  abbrev pub line_at : ℕ
  line_at = line_after n (calls_of (before ++ r ∷ []))

  pub record Tied (s : List ℕ) (later : List Record) : Type 0 where
    -- the text of r stands after that of the records before it; the records after it follow, the number of all, and the line of
    -- the second engine
    pub stands :
        replay_of n s
        ≡ text_of v n (fresh_table n) before
        ++ text_at
        ++ text_of v n (reached n (calls_of (before ++ r ∷ []))) later
        ++ line_text records_key (length (before ++ r ∷ later))
        ++ agree_line v
    -- xmax, count and ids are of the snapshot that the call shows, and the vacuum line is that of the history with the call
    pub prints : text_at ≡ record_lines v answer_at (xmin_told answer_at shown_at.xmin) shown_at line_at
    -- of a record that takes a snapshot, so is the xmin
    pub snapshot : TakesSnapshot r.op → text_at ≡ record_lines v answer_at shown_at.xmin shown_at line_at
