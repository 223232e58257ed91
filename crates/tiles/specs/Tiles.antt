-- Which of a tile's two codings a decoder gets (SPEC 7.4), and the part of memory that it is handed.
use Rattle.std.specs.Prelude.{ℕ, ◌≡◌, List, Bool, true, false, cond, ◌||◌, ltb, length, take, Result, Ok, Err}
use Rattle.std.specs.Borrow.{Bor}
use Rattle.kinds.specs.declared.Txid.{Txid}
use Rattle.kinds.specs.declared.refusal.Refusal.{Refusal}
use Rattle.kinds.specs.declared.refusal.Refusal.TheVariants.{BadLength}
use Rattle.kinds.specs.Verdicts.{Verdict, Pass, Refuse, then, zero_test}
use Rattle.kinds.specs.Refusals.{told}
use Rattle.settled.specs.declared.Snapshot.{Snapshot}
use Rattle.settled.specs.Settled.{count_test}
use Rattle.usable.specs.Usable.{usable_in}
use Rattle.tiles.specs.Choice.{Choice, Newer, Older, Refused}

-- 11: a used length is beyond its run, whichever run would be chosen
abbrev pub length_test : ℕ → ℕ → ℕ → ℕ → Verdict
length_test older olderUsed newer newerUsed = cond (ltb older olderUsed || ltb newer newerUsed) (Refuse BadLength) Pass

-- the wanted coding where the lengths allow it
abbrev pub fitted : Verdict → Choice → Choice
fitted (Refuse r) wanted = Refused r
fitted Pass wanted = wanted

abbrev pub chosen : Verdict → Bool → Choice
chosen (Refuse r) usable = Refused r
chosen Pass true = Newer
chosen Pass false = Older

-- 10, 4, 11, then the newer coding if its maker is usable, else the older. Of the runs it reads their lengths
unfoldable pub choice : ℕ → Snapshot → Txid → Txid → ℕ → ℕ → ℕ → ℕ → Choice
choice n shown own maker older olderUsed newer newerUsed =
    chosen
    (then (then (count_test n shown.count) (zero_test maker)) (length_test older olderUsed newer newerUsed))
    (usable_in shown.xmax shown.ids shown.count own.0 maker.0)

-- a lent run of bytes
abbrev pub Bytes : Type 0
Bytes = Bor (List ℕ)

-- what a reader of a lent run can tell: the bytes, and where in memory they start
pub record Part : Type 0 where
  pub bytes : List ℕ
  pub start : ℕ × ℕ

abbrev pub whole : Bytes → Part
whole run = record { bytes = run.now; start = run.ref_ptr }

-- the first k bytes of a run, where they lie
abbrev pub first : ℕ → Bytes → Part
first k run = record { bytes = take k run.now; start = run.ref_ptr }

-- what the two questions answer: the refusal's number, 0 for none, and the part
pub record Tile : Type 0 where
  pub refusal : ℕ
  pub part : Part

-- the used part of the chosen run; beside a refusal an empty part of the older
abbrev pub handed : Choice → Bytes → ℕ → Bytes → ℕ → Tile
handed Newer older olderUsed newer newerUsed = record { refusal = 0; part = first newerUsed newer }
handed Older older olderUsed newer newerUsed = record { refusal = 0; part = first olderUsed older }
handed (Refused r) older olderUsed newer newerUsed = record { refusal = (told r).number; part = first 0 older }

abbrev pub tile_of : ℕ → Snapshot → Txid → Txid → Bytes → ℕ → Bytes → ℕ → Tile
tile_of n shown own maker older olderUsed newer newerUsed =
    handed
    (choice n shown own maker (length older.now) olderUsed (length newer.now) newerUsed)
    older
    olderUsed
    newer
    newerUsed

-- what `used_part` promises of the part that it hands out
abbrev pub PartFits : ℕ → Snapshot → Txid → Txid → Bytes → ℕ → Bytes → ℕ → Bytes → Type 0
PartFits n shown own maker older olderUsed newer newerUsed r =
    whole r ≡ (tile_of n shown own maker older olderUsed newer newerUsed).part

-- what `used_refusal` promises of its number
abbrev pub NumberFits : ℕ → Snapshot → Txid → Txid → Bytes → ℕ → Bytes → ℕ → ℕ → Type 0
NumberFits n shown own maker older olderUsed newer newerUsed r =
    r ≡ (tile_of n shown own maker older olderUsed newer newerUsed).refusal

-- the used part of the chosen run, or the refusal
abbrev pub handed_or_refused : Choice → Bytes → ℕ → Bytes → ℕ → Result Part Refusal
handed_or_refused Newer older olderUsed newer newerUsed = Ok (first newerUsed newer)
handed_or_refused Older older olderUsed newer newerUsed = Ok (first olderUsed older)
handed_or_refused (Refused r) older olderUsed newer newerUsed = Err r

-- an answer of the code: a run that it hands out is told by its bytes and where they lie
abbrev pub seen_as : Result Bytes Refusal → Result Part Refusal
seen_as (Ok run) = Ok (whole run)
seen_as (Err r) = Err r

-- what `used` promises
abbrev pub UsedFits : ℕ → Snapshot → Txid → Txid → Bytes → ℕ → Bytes → ℕ → Result Bytes Refusal → Type 0
UsedFits n shown own maker older olderUsed newer newerUsed r =
    seen_as r
    ≡ handed_or_refused
    (choice n shown own maker (length older.now) olderUsed (length newer.now) newerUsed)
    older
    olderUsed
    newer
    newerUsed
