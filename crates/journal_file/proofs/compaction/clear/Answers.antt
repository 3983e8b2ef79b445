use Rattle.std.proofs.Common.{rules}
use Rattle.journal_file.proofs.compaction.clear.Goals as goal

pub name_short-requires : goal.name_short-requires
name_short-requires g c = search rules

pub returns-then-size-ge9-clause-any_moment : goal.returns-then-size-ge9-clause-any_moment
returns-then-size-ge9-clause-any_moment g c = search rules
