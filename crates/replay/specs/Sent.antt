-- A replay to a file descriptor: the pieces in which its text is handed on, and what the replay promises.
use Rattle.std.specs.Prelude.{ℕ, zero, suc, ◌+◌, ◌<◌, ◌^◌, ◌≡◌, Bool, true, false, List, [], ◌∷◌, ◌++◌, ℤ, length, take, drop, Result, Ok, Err}
use Rattle.model.specs.declared.Table.{Table}
use Rattle.model.specs.Tables.{fresh_table}
use Rattle.text.specs.Line.{joined}
use Rattle.trace.specs.declared.Record.{Record}
use Rattle.grammar.specs.Texts as texts
use Rattle.grammar.specs.Texts.{Read}
use Rattle.trace.specs.declared.Version.{Version}
use Rattle.trace.specs.Trace.{trace_of}
use Rattle.replay.specs.declared.border.Handed.{Handed}
use Rattle.replay.specs.declared.border.Stopped.{Stopped}
use Rattle.replay.specs.Went.{Went}
use Rattle.replay.specs.Went as went
use Rattle.replay_text.specs.Replay.{broken_text, last_text, replay_of}
use Rattle.replay_part.specs.Part.{part_of}
use Rattle.replay.specs.declared.out.Gone.{Gone}
use Rattle.replay.specs.declared.out.Gone.TheVariants as gone

-- how a replay to a descriptor ended
abbrev pub Sent : Type 0
Sent = Result Gone Stopped

pattern abbrev pub All : Handed → Sent
All h = Ok (gone.All h)

pattern abbrev pub Refused : Handed → Sent
Refused h = Ok (gone.Refused h)

pattern abbrev pub Failed : Stopped → Sent
Failed p = Err p

-- the parts of a run, each as many records as have room in size bytes; the first number is at least how many records there are
unfoldable pub parts_of : ℕ → Version → ℕ → ℕ → Table → List Record → List (List ℕ)
parts_of zero v n size t rs = []
parts_of (suc k) v n size t [] = []
parts_of (suc k) v n size t (r ∷ rs) =
    (part_of v n size 0 t (r ∷ rs)).text ∷ parts_of k v n size (part_of v n size 0 t (r ∷ rs)).table (part_of v n size 0 t (r ∷ rs)).left

-- the pieces of what a trace prints: the parts of its run, and what it ends with; refusal 9 is one piece
abbrev pub pieces_by : ℕ → Read Version Record → List (List ℕ)
pieces_by n (texts.Whole v rs) = parts_of (length rs) v n 65536 (fresh_table n) rs ++ (last_text v (length rs) ∷ [])
pieces_by n (texts.Broken line) = broken_text line ∷ []

unfoldable pub pieces_of : ℕ → List ℕ → List (List ℕ)
pieces_of n s = pieces_by n (trace_of s)

-- the first k pieces went to a descriptor; or did, before a write failed
abbrev pub handed : ℤ → ℕ → Handed
handed to k = record { to = to; pieces = k }

abbrev pub stopped : ℤ → ℕ → Stopped
stopped to k = record { to = to; pieces = k }

-- a buffer begins with the piece that comes after those that went
pub record PieceNext (n : ℕ) (s : List ℕ) (h : Handed) (size : ℕ) (buf : List ℕ) : Type 0 where
  pub few : length (pieces_of n s) < 2 ^ 64
  pub later : List (List ℕ)
  pub next : drop h.pieces (pieces_of n s) ≡ take size buf ∷ later

-- one piece more went to the same descriptor, or none
abbrev pub WentFits : Handed → Went → Type 0
WentFits h (went.On r) = r ≡ handed h.to (h.pieces + 1)
WentFits h (went.Failed r) = r ≡ stopped h.to h.pieces

abbrev pub is_trace : Read Version Record → Bool
is_trace (texts.Whole v rs) = true
is_trace (texts.Broken line) = false

-- every piece went to the descriptor
pub record AllWent (n : ℕ) (s : List ℕ) (to : ℤ) (trace : Bool) (h : Handed) : Type 0 where
  pub read : is_trace (trace_of s) ≡ trace
  pub pieces : h ≡ handed to (length (pieces_of n s))

-- a write to it failed when some pieces had gone, and not all
pub record SomeWent (n : ℕ) (s : List ℕ) (to : ℤ) (p : Stopped) : Type 0 where
  pub same : p.to ≡ to
  pub pieces : p.pieces < length (pieces_of n s)

abbrev pub EndedFits : ℕ → List ℕ → ℤ → Sent → Type 0
EndedFits n s to (All h) = AllWent n s to true h
EndedFits n s to (Refused h) = AllWent n s to false h
EndedFits n s to (Failed p) = SomeWent n s to p

-- the pieces are what the trace prints, and they went as the answer says
pub record SentFits (n : ℕ) (s : List ℕ) (to : ℤ) (r : Sent) : Type 0 where
  pub text : joined (pieces_of n s) ≡ replay_of n s
  pub ended : EndedFits n s to r
