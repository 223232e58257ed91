-- Whole replays on a table of two slots, as quoted texts: what a trace is, and what it prints (SPEC 10).
use Rattle.std.specs.Prelude.{ℕ, ◌<◌, ◌≡◌, List, [], ◌∷◌, ◌++◌, length}
use Prim.Native.String.{String}
use Rattle.text.specs.Bytes.{bytes}
use Rattle.replay_text.specs.Replay.{replay_of}

-- the text of a record, and what it prints
pub record Row : Type 0 where
  pub reads : List ℕ
  pub prints : List ℕ

abbrev pub row : String → String → Row
row reads prints = record { reads = bytes reads; prints = bytes prints }

unfoldable pub reads_of : List Row → List ℕ
reads_of [] = []
reads_of (r ∷ rs) = r.reads ++ reads_of rs

unfoldable pub prints_of : List Row → List ℕ
prints_of [] = []
prints_of (r ∷ rs) = r.prints ++ prints_of rs

-- every op, every refusal of a call, and every order of checks (SPEC 3.2): a record that breaks several gets the first
unfoldable pub every_refusal : List Row
every_refusal =
    -- registers in slot 0
    row "op=begin\nslot=0\nid=0\nstamp=5\nclock=0\nsample=0\n"
    "answer=0\nslot=0\nid=5\nseen=0\nxmin=0\nxmax=0\nvacuum=1\ncount=0\n"
    -- 6: below the clock
    ∷ row "op=begin\nslot=0\nid=0\nstamp=5\nclock=0\nsample=0\n"
    "answer=6\nslot=0\nid=0\nseen=0\nxmin=0\nxmax=0\nvacuum=1\ncount=0\n"
    -- registers in slot 1
    ∷ row "op=begin\nslot=0\nid=0\nstamp=8\nclock=0\nsample=0\n"
    "answer=0\nslot=1\nid=8\nseen=0\nxmin=0\nxmax=0\nvacuum=1\ncount=0\n"
    -- 6 before 1: 0, and all slots are taken
    ∷ row "op=begin\nslot=0\nid=0\nstamp=0\nclock=0\nsample=0\n"
    "answer=6\nslot=0\nid=0\nseen=0\nxmin=0\nxmax=0\nvacuum=1\ncount=0\n"
    -- 13 before 1: one more than 2^32 above the clock, which is 9
    ∷ row "op=begin\nslot=0\nid=0\nstamp=4294967306\nclock=0\nsample=0\n"
    "answer=13\nslot=0\nid=0\nseen=0\nxmin=0\nxmax=0\nvacuum=1\ncount=0\n"
    -- 1: all slots are taken; the number is consumed ..
    ∷ row "op=begin\nslot=0\nid=0\nstamp=10\nclock=0\nsample=0\n"
    "answer=1\nslot=0\nid=10\nseen=0\nxmin=0\nxmax=0\nvacuum=1\ncount=0\n"
    -- .. so that it is below the clock
    ∷ row "op=stamp\nslot=0\nid=0\nstamp=10\nclock=0\nsample=0\n"
    "answer=6\nslot=0\nid=0\nseen=0\nxmin=0\nxmax=0\nvacuum=1\ncount=0\n"
    ∷ row "op=stamp\nslot=0\nid=0\nstamp=12\nclock=0\nsample=0\n"
    "answer=0\nslot=0\nid=12\nseen=0\nxmin=0\nxmax=0\nvacuum=1\ncount=0\n"
    -- 7 before 8
    ∷ row "op=snap\nslot=0\nid=0\nstamp=0\nclock=12\nsample=0\n"
    "answer=7\nslot=0\nid=0\nseen=0\nxmin=0\nxmax=0\nvacuum=1\ncount=0\n"
    -- 8: above the given clock
    ∷ row "op=snap\nslot=0\nid=0\nstamp=0\nclock=13\nsample=14\n"
    "answer=8\nslot=0\nid=0\nseen=0\nxmin=0\nxmax=0\nvacuum=1\ncount=0\n"
    -- a stale sample
    ∷ row "op=snap\nslot=0\nid=0\nstamp=0\nclock=13\nsample=3\n"
    "answer=0\nslot=0\nid=0\nseen=0\nxmin=3\nxmax=9\nvacuum=1\ncount=2\nin=5\nin=8\n"
    -- 2 before 4
    ∷ row "op=end\nslot=2\nid=0\nstamp=0\nclock=0\nsample=0\n"
    "answer=2\nslot=2\nid=0\nseen=0\nxmin=0\nxmax=0\nvacuum=1\ncount=0\n"
    -- 4 before 3
    ∷ row "op=end\nslot=0\nid=0\nstamp=0\nclock=0\nsample=0\n"
    "answer=4\nslot=0\nid=0\nseen=0\nxmin=0\nxmax=0\nvacuum=1\ncount=0\n"
    -- 3: the slot holds another
    ∷ row "op=end\nslot=0\nid=8\nstamp=0\nclock=0\nsample=0\n"
    "answer=3\nslot=0\nid=8\nseen=5\nxmin=0\nxmax=0\nvacuum=1\ncount=0\n"
    -- 2 before 4, 7 and 8
    ∷ row "op=own\nslot=2\nid=0\nstamp=0\nclock=0\nsample=0\n"
    "answer=2\nslot=2\nid=0\nseen=0\nxmin=0\nxmax=0\nvacuum=1\ncount=0\n"
    -- 4 before 3, 7 and 8
    ∷ row "op=own\nslot=0\nid=0\nstamp=0\nclock=0\nsample=0\n"
    "answer=4\nslot=0\nid=0\nseen=0\nxmin=0\nxmax=0\nvacuum=1\ncount=0\n"
    -- 3 before 7 and 8
    ∷ row "op=own\nslot=1\nid=5\nstamp=0\nclock=0\nsample=0\n"
    "answer=3\nslot=1\nid=5\nseen=8\nxmin=0\nxmax=0\nvacuum=1\ncount=0\n"
    -- 7 before 8
    ∷ row "op=own\nslot=1\nid=8\nstamp=0\nclock=12\nsample=0\n"
    "answer=7\nslot=0\nid=0\nseen=0\nxmin=0\nxmax=0\nvacuum=1\ncount=0\n"
    -- 8: 0
    ∷ row "op=own\nslot=1\nid=8\nstamp=0\nclock=14\nsample=0\n"
    "answer=8\nslot=0\nid=0\nseen=0\nxmin=0\nxmax=0\nvacuum=1\ncount=0\n"
    -- the slot keeps xmin 5
    ∷ row "op=own\nslot=1\nid=8\nstamp=0\nclock=14\nsample=14\n"
    "answer=0\nslot=0\nid=0\nseen=0\nxmin=5\nxmax=14\nvacuum=1\ncount=2\nin=5\nin=8\n"
    ∷ row "op=end\nslot=0\nid=5\nstamp=0\nclock=0\nsample=0\n"
    "answer=0\nslot=0\nid=0\nseen=0\nxmin=0\nxmax=0\nvacuum=1\ncount=0\n"
    -- 7 before 8
    ∷ row "op=oldest\nslot=0\nid=0\nstamp=0\nclock=13\nsample=0\n"
    "answer=7\nslot=0\nid=0\nseen=0\nxmin=0\nxmax=0\nvacuum=1\ncount=0\n"
    -- 8
    ∷ row "op=oldest\nslot=0\nid=0\nstamp=0\nclock=14\nsample=15\n"
    "answer=8\nslot=0\nid=0\nseen=0\nxmin=0\nxmax=0\nvacuum=1\ncount=0\n"
    -- the kept xmin
    ∷ row "op=oldest\nslot=0\nid=0\nstamp=0\nclock=14\nsample=14\n"
    "answer=0\nslot=0\nid=0\nseen=0\nxmin=5\nxmax=0\nvacuum=1\ncount=0\n"
    -- 7 before 8
    ∷ row "op=vacuum\nslot=0\nid=0\nstamp=0\nclock=13\nsample=0\n"
    "answer=7\nslot=0\nid=0\nseen=0\nxmin=0\nxmax=0\nvacuum=1\ncount=0\n"
    -- 8
    ∷ row "op=vacuum\nslot=0\nid=0\nstamp=0\nclock=15\nsample=16\n"
    "answer=8\nslot=0\nid=0\nseen=0\nxmin=0\nxmax=0\nvacuum=1\ncount=0\n"
    -- the line rises to the kept xmin
    ∷ row "op=vacuum\nslot=0\nid=0\nstamp=0\nclock=15\nsample=15\n"
    "answer=0\nslot=0\nid=0\nseen=0\nxmin=0\nxmax=0\nvacuum=5\ncount=0\n"
    -- and does not fall with a stale sample
    ∷ row "op=vacuum\nslot=0\nid=0\nstamp=0\nclock=16\nsample=2\n"
    "answer=0\nslot=0\nid=0\nseen=0\nxmin=0\nxmax=0\nvacuum=5\ncount=0\n"
    -- as oldest does
    ∷ row "op=oldest\nslot=0\nid=0\nstamp=0\nclock=16\nsample=2\n"
    "answer=0\nslot=0\nid=0\nseen=0\nxmin=2\nxmax=0\nvacuum=5\ncount=0\n"
    -- 6: below the clock; it stays registered
    ∷ row "op=finish\nslot=1\nid=8\nstamp=15\nclock=0\nsample=0\n"
    "answer=6\nslot=0\nid=0\nseen=0\nxmin=0\nxmax=0\nvacuum=5\ncount=0\n"
    ∷ row "op=finish\nslot=1\nid=8\nstamp=20\nclock=0\nsample=0\n"
    "answer=0\nslot=0\nid=20\nseen=0\nxmin=0\nxmax=0\nvacuum=5\ncount=0\n"
    -- 3: the slot holds none
    ∷ row "op=end\nslot=1\nid=8\nstamp=0\nclock=0\nsample=0\n"
    "answer=3\nslot=1\nid=8\nseen=0\nxmin=0\nxmax=0\nvacuum=5\ncount=0\n"
    -- no id is active
    ∷ row "op=snap\nslot=0\nid=0\nstamp=0\nclock=21\nsample=21\n"
    "answer=0\nslot=0\nid=0\nseen=0\nxmin=21\nxmax=21\nvacuum=5\ncount=0\n"
    -- 6 before 13: 2^64 − 1
    ∷ row "op=begin\nslot=0\nid=0\nstamp=18446744073709551615\nclock=0\nsample=0\n"
    "answer=6\nslot=0\nid=0\nseen=0\nxmin=0\nxmax=0\nvacuum=5\ncount=0\n"
    ∷ row "op=begin\nslot=0\nid=0\nstamp=22\nclock=0\nsample=0\n"
    "answer=0\nslot=0\nid=22\nseen=0\nxmin=0\nxmax=0\nvacuum=5\ncount=0\n"
    -- 13: one more than 2^32 above the clock, which is 23; the transaction stays registered
    ∷ row "op=begin\nslot=0\nid=0\nstamp=4294967320\nclock=0\nsample=0\n"
    "answer=13\nslot=0\nid=0\nseen=0\nxmin=0\nxmax=0\nvacuum=5\ncount=0\n"
    ∷ row "op=stamp\nslot=0\nid=0\nstamp=4294967320\nclock=0\nsample=0\n"
    "answer=13\nslot=0\nid=0\nseen=0\nxmin=0\nxmax=0\nvacuum=5\ncount=0\n"
    ∷ row "op=finish\nslot=0\nid=22\nstamp=4294967320\nclock=0\nsample=0\n"
    "answer=13\nslot=0\nid=0\nseen=0\nxmin=0\nxmax=0\nvacuum=5\ncount=0\n"
    -- 3 before 13
    ∷ row "op=finish\nslot=0\nid=1\nstamp=4294967320\nclock=0\nsample=0\n"
    "answer=3\nslot=0\nid=1\nseen=22\nxmin=0\nxmax=0\nvacuum=5\ncount=0\n"
    -- 2^32 above the clock is accepted
    ∷ row "op=stamp\nslot=0\nid=0\nstamp=4294967319\nclock=0\nsample=0\n"
    "answer=0\nslot=0\nid=4294967319\nseen=0\nxmin=0\nxmax=0\nvacuum=5\ncount=0\n"
    -- a given clock may lie as far as it likes
    ∷ row "op=snap\nslot=0\nid=0\nstamp=0\nclock=18446744073709551614\nsample=21\n"
    "answer=0\nslot=0\nid=0\nseen=0\nxmin=21\nxmax=23\nvacuum=5\ncount=1\nin=22\n"
    -- the last number: the clock is 2^64 − 1
    ∷ row "op=begin\nslot=0\nid=0\nstamp=18446744073709551614\nclock=0\nsample=0\n"
    "answer=0\nslot=1\nid=18446744073709551614\nseen=0\nxmin=0\nxmax=0\nvacuum=5\ncount=0\n"
    -- 5 before 6 and 1
    ∷ row "op=begin\nslot=0\nid=0\nstamp=0\nclock=0\nsample=0\n"
    "answer=5\nslot=0\nid=0\nseen=0\nxmin=0\nxmax=0\nvacuum=5\ncount=0\n"
    -- 5 before 6
    ∷ row "op=stamp\nslot=0\nid=0\nstamp=0\nclock=0\nsample=0\n"
    "answer=5\nslot=0\nid=0\nseen=0\nxmin=0\nxmax=0\nvacuum=5\ncount=0\n"
    -- 2 before 4, 5 and 6
    ∷ row "op=finish\nslot=2\nid=0\nstamp=0\nclock=0\nsample=0\n"
    "answer=2\nslot=2\nid=0\nseen=0\nxmin=0\nxmax=0\nvacuum=5\ncount=0\n"
    -- 4 before 3, 5 and 6
    ∷ row "op=finish\nslot=0\nid=0\nstamp=0\nclock=0\nsample=0\n"
    "answer=4\nslot=0\nid=0\nseen=0\nxmin=0\nxmax=0\nvacuum=5\ncount=0\n"
    -- 3 before 5 and 6
    ∷ row "op=finish\nslot=0\nid=1\nstamp=0\nclock=0\nsample=0\n"
    "answer=3\nslot=0\nid=1\nseen=22\nxmin=0\nxmax=0\nvacuum=5\ncount=0\n"
    -- 5 before 6
    ∷ row "op=finish\nslot=0\nid=22\nstamp=0\nclock=0\nsample=0\n"
    "answer=5\nslot=0\nid=0\nseen=0\nxmin=0\nxmax=0\nvacuum=5\ncount=0\n"
    -- the largest numbers
    ∷ row "op=snap\nslot=0\nid=0\nstamp=0\nclock=18446744073709551615\nsample=18446744073709551615\n"
    "answer=0\nslot=0\nid=0\nseen=0\nxmin=22\nxmax=18446744073709551615\nvacuum=5\ncount=2\nin=22\nin=18446744073709551614\n"
    ∷ row "op=end\nslot=0\nid=22\nstamp=0\nclock=0\nsample=0\n"
    "answer=0\nslot=0\nid=0\nseen=0\nxmin=0\nxmax=0\nvacuum=5\ncount=0\n"
    ∷ row "op=vacuum\nslot=0\nid=0\nstamp=0\nclock=18446744073709551615\nsample=18446744073709551615\n"
    "answer=0\nslot=0\nid=0\nseen=0\nxmin=0\nxmax=0\nvacuum=18446744073709551614\ncount=0\n"
    -- 3
    ∷ row "op=end\nslot=1\nid=1\nstamp=0\nclock=0\nsample=0\n"
    "answer=3\nslot=1\nid=1\nseen=18446744073709551614\nxmin=0\nxmax=0\nvacuum=18446744073709551614\ncount=0\n"
    ∷ []

-- who holds the tiles, under proc-2: the ninth line of every op, and of a refusal
unfoldable pub who_holds : List Row
who_holds =
    -- nobody: the table is empty
    row "op=oldest\nslot=0\nid=0\nstamp=0\nclock=3\nsample=2\n"
    "answer=0\nslot=0\nid=0\nseen=0\nxmin=2\nxmax=0\nvacuum=1\ncount=0\nholder=65535\n"
    ∷ row "op=begin\nslot=0\nid=0\nstamp=4\nclock=0\nsample=0\n"
    "answer=0\nslot=0\nid=4\nseen=0\nxmin=0\nxmax=0\nvacuum=1\ncount=0\nholder=0\n"
    ∷ row "op=begin\nslot=0\nid=0\nstamp=6\nclock=0\nsample=0\n"
    "answer=0\nslot=1\nid=6\nseen=0\nxmin=0\nxmax=0\nvacuum=1\ncount=0\nholder=0\n"
    -- slot 1 retains 4 too: the lowest of the two is named, and the line rises to it
    ∷ row "op=own\nslot=1\nid=6\nstamp=0\nclock=9\nsample=9\n"
    "answer=0\nslot=0\nid=0\nseen=0\nxmin=4\nxmax=9\nvacuum=1\ncount=2\nholder=0\nin=4\nin=6\n"
    ∷ row "op=vacuum\nslot=0\nid=0\nstamp=0\nclock=9\nsample=9\n"
    "answer=0\nslot=0\nid=0\nseen=0\nxmin=0\nxmax=0\nvacuum=4\ncount=0\nholder=0\n"
    ∷ row "op=end\nslot=0\nid=4\nstamp=0\nclock=0\nsample=0\n"
    "answer=0\nslot=0\nid=0\nseen=0\nxmin=0\nxmax=0\nvacuum=4\ncount=0\nholder=0\n"
    -- a refusal names none
    ∷ row "op=vacuum\nslot=0\nid=0\nstamp=0\nclock=8\nsample=8\n"
    "answer=7\nslot=0\nid=0\nseen=0\nxmin=0\nxmax=0\nvacuum=4\ncount=0\nholder=0\n"
    -- a snapshot with a stale sample: slot 1 retains 2, below the line ..
    ∷ row "op=own\nslot=1\nid=6\nstamp=0\nclock=9\nsample=2\n"
    "answer=0\nslot=0\nid=0\nseen=0\nxmin=2\nxmax=7\nvacuum=4\ncount=1\nholder=0\nin=6\n"
    -- .. so the line is kept, and the slot that retains 2 is named, not one that retains 4
    ∷ row "op=vacuum\nslot=0\nid=0\nstamp=0\nclock=9\nsample=9\n"
    "answer=0\nslot=0\nid=0\nseen=0\nxmin=0\nxmax=0\nvacuum=4\ncount=0\nholder=1\n"
    ∷ []

pub record Examples : Type 0 where
  -- the whole case (SPEC 10.7)
  pub whole-case :
      replay_of 2
      (bytes "trace=proc-1\n"
      ++ bytes "op=begin\nslot=0\nid=0\nstamp=5\nclock=0\nsample=0\n"
      ++ bytes "op=snap\nslot=0\nid=0\nstamp=0\nclock=9\nsample=3\n")
      ≡ bytes "answer=0\nslot=0\nid=5\nseen=0\nxmin=0\nxmax=0\nvacuum=1\ncount=0\n"
      ++ bytes "answer=0\nslot=0\nid=0\nseen=0\nxmin=3\nxmax=6\nvacuum=1\ncount=1\nin=5\n"
      ++ bytes "records=2\n"
  -- .. headed proc-2, it gains the ninth line in both records, and the line of the second engine
  pub whole-case-2 :
      replay_of 2
      (bytes "trace=proc-2\n"
      ++ bytes "op=begin\nslot=0\nid=0\nstamp=5\nclock=0\nsample=0\n"
      ++ bytes "op=snap\nslot=0\nid=0\nstamp=0\nclock=9\nsample=3\n")
      ≡ bytes "answer=0\nslot=0\nid=5\nseen=0\nxmin=0\nxmax=0\nvacuum=1\ncount=0\nholder=0\n"
      ++ bytes "answer=0\nslot=0\nid=0\nseen=0\nxmin=3\nxmax=6\nvacuum=1\ncount=1\nholder=0\nin=5\n"
      ++ bytes "records=2\nagree=1\n"
  pub holders : replay_of 2 (bytes "trace=proc-2\n" ++ reads_of who_holds) ≡ prints_of who_holds ++ bytes "records=9\nagree=1\n"
  pub every_refusal_lem : replay_of 2 (bytes "trace=proc-1\n" ++ reads_of every_refusal) ≡ prints_of every_refusal ++ bytes "records=52\n"
  -- the header alone (SPEC 10.3)
  pub no_record : replay_of 2 (bytes "trace=proc-1\n") ≡ bytes "records=0\n"
  pub no_record_3 : replay_of 2 (bytes "trace=proc-3\n") ≡ bytes "records=0\nagree=1\n"
  -- refusal 9 prints two lines, whatever stands before the broken one (SPEC 9.3, 10.4)
  pub empty : replay_of 2 [] ≡ bytes "answer=9\nat=1\n"
  pub carriage_return : replay_of 2 (bytes "trace=proc-1\r\nop=begin\r\n") ≡ bytes "answer=9\nat=1\n"
  pub carriage_return_later : replay_of 2 (bytes "trace=proc-1\nop=begin\r\n") ≡ bytes "answer=9\nat=2\n"
  pub open-last-line :
      replay_of 2
      (bytes "trace=proc-1\n"
      ++ bytes "op=begin\nslot=0\nid=0\nstamp=5\nclock=0\nsample=0\n"
      ++ bytes "op=snap\nslot=0\nid=0\nstamp=0\nclock=9\nsample=3")
      ≡ bytes "answer=9\nat=13\n"
  -- a long input, at any number of slots
  pub too_long_lem : (n : ℕ) (s : List ℕ) → 65536 < length s → replay_of n s ≡ bytes "answer=9\nat=0\n"
