-- What a file begins as. Private.
use Rattle.std.specs.Prelude.{ℕ, ◌<◌, List, length}
use Rattle.compaction.specs.declared.header.Header.{Header}
use Rattle.compaction.specs.declared.header.Header.TheVariants as header
use Rattle.journal_file.specs.Blocks.{IsTornCreation, journal_names}
use Rattle.journal_file.specs.Damage.{IsForeign}
use Rattle.journal_file.specs.Openings.{HasHeader}

abbrev pub BeginsAs : List ℕ → Header → Type 0
BeginsAs image header.Creation = IsTornCreation image
BeginsAs image header.Journal = HasHeader journal_names image × (8 < length image)
BeginsAs image header.Foreign = IsForeign journal_names image
