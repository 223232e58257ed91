-- `bytes_at` meets its contract: the part from `at` on, or from the end on, begins with the key.
use mathlib.Core.Path.{◌∙◌}
use Rattle.text.proofs.Bytes.{starts_part}
use Rattle.text.proofs.read.bytes_at.Goals as goal

pub returns : goal.returns
returns c = c.starts_with.ensures.value ∙ starts_part _ _ _ _ c.min.ensures
