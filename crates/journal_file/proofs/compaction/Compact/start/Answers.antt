use Rattle.std.proofs.Common.{◌∙◌}
use Rattle.journal_file.proofs.CompactLemmas.{nothing_added}
use Rattle.journal_file.proofs.GateLemmas.{first_end}
use Rattle.journal_file.proofs.compaction.Compact.start.Goals as goal

pub returns-in-Ok-true-clause-begun : goal.returns-in-Ok-true-clause-begun
returns-in-Ok-true-clause-begun g c = λ told.
    let begun = c.in-Ok-true.ensures.begun told c.in-Ok-true.field-0-test in
    record { told = c.in-Ok-true.ensures.told ∙ told; end = first_end; reads = begun.0 ∙ nothing_added; images = begun.1 }
