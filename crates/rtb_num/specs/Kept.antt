-- The bytes of a text, in the value itself or in memory of their own. Only `Txt` itself cites this file.
use Rattle.std.specs.Prelude.{ℕ, List}
use Rattle.rtb_num.specs.declared.text.Kept.{Kept}
use Rattle.rtb_num.specs.declared.text.Kept.TheVariants as kept

abbrev pub bytes_of : Kept → List ℕ
bytes_of (kept.Short bytes) = bytes
bytes_of (kept.Long bytes) = bytes.items
