-- The five lines of numbers under the line that names an item: their rules, their text, and what is read of a text.
use Rattle.std.specs.Prelude.{ℕ, ◌-◌, ◌^◌, Bool, cond, List, [], ◌∷◌, get_or}
use Rattle.text.specs.Keys.{slot_key, id_key, clock_key, sample_key}
use Rattle.text.specs.Line.{Rule, Lines, Read, Breaks, Within, line_texts, lines_at}
use Rattle.text.specs.declared.Reads.{Reads}
use Rattle.text.specs.declared.Values.{Values}
use Rattle.text.specs.Fields.{Fields, Are, Broken}

abbrev pub most : ℕ
most = 2 ^ 64 - 1

abbrev pub most_slot : ℕ
most_slot = 65535

-- a field that isn't read must be 0
unfoldable pub limit : Bool → ℕ → ℕ
limit reads n = cond reads n 0

-- the rules of lines 2 to 6 of an item, of which line 4 has the key `fourth`
unfoldable pub field_rules : List ℕ → Reads → List Rule
field_rules fourth reads =
    (record { key = slot_key; most = limit reads.slot most_slot })
    ∷ (record { key = id_key; most = limit reads.id most })
    ∷ (record { key = fourth; most = limit reads.fourth most })
    ∷ (record { key = clock_key; most = limit reads.clock most })
    ∷ (record { key = sample_key; most = limit reads.clock most })
    ∷ []

abbrev pub numbers_of : Values → List ℕ
numbers_of v = v.slot ∷ v.id ∷ v.fourth ∷ v.clock ∷ v.sample ∷ []

abbrev pub values_of : List ℕ → Values
values_of ns = record { slot = get_or ns 0 0; id = get_or ns 1 0; fourth = get_or ns 2 0; clock = get_or ns 3 0; sample = get_or ns 4 0 }

-- no number is above its limit
abbrev pub Fits : List ℕ → Reads → Values → Type 0
Fits fourth reads v = Within (field_rules fourth reads) (numbers_of v)

-- the five lines
unfoldable pub five_lines : List ℕ → Reads → Values → List (List ℕ)
five_lines fourth reads v = line_texts (field_rules fourth reads) (numbers_of v)

abbrev pub as_fields : Lines → Fields
as_fields (Read ns e) = Are (values_of ns) e
as_fields (Breaks k) = Broken k

-- the five numbers at `at`, or the first line that breaks its rule; the line above them is line 1
unfoldable pub fields_at : List ℕ → ℕ → List ℕ → Reads → Fields
fields_at s at fourth reads = as_fields (lines_at s at 2 (field_rules fourth reads))
