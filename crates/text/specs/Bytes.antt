-- A fixed byte string: from a quoted text, and at the front of a text.
use Rattle.std.specs.Prelude.{ℕ, Bool, true, false, ◌&&◌, List, [], ◌∷◌, eqb}
use Prim.Native.Char.{code}
use Prim.Native.String.{String, [] as none, ◌∷◌ as ◌then◌}

-- the bytes of a quoted text in ASCII
abbrev pub bytes : String → List ℕ
bytes none = []
bytes (c then s) = code c ∷ bytes s

-- the bytes of the first list stand at the front of the second
unfoldable pub starts : List ℕ → List ℕ → Bool
starts [] s = true
starts (k ∷ ks) [] = false
starts (k ∷ ks) (b ∷ bs) = eqb b k && starts ks bs
