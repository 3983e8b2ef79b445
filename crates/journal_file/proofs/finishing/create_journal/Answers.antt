use Rattle.std.proofs.Common.{◌∙◌}
use Rattle.journal_file.proofs.GateLemmas.{first_end}
use Rattle.journal_file.proofs.finishing.create_journal.Goals as goal

pub returns-in-Ok-clause-created : goal.returns-in-Ok-clause-created
returns-in-Ok-clause-created g c = λ told only torn.
    record { told = c.in-Ok.ensures.told ∙ told; end = first_end; images = c.in-Ok.ensures.opened told only torn }
