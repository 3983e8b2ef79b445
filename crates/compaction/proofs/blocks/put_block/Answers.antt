use Rattle.std.proofs.Common.{[], ◌∷◌, ◌++◌, subst}
use Rattle.journal_file.specs.Compaction.{Adds}
use Rattle.compaction.proofs.Gathered.{held_more}
use Rattle.compaction.proofs.blocks.put_block.Goals as goal

pub returns-clause-put : goal.returns-clause-put
returns-clause-put g c = λ effects gathers.
    held_more effects c.args.file.now c.add.new.self c.args.block.now gathers
    (λ payloads adds. subst (λ block. Adds c.add.new.self (payloads ++ block ∷ [])) c.as_bytes.ensures.value (c.in_ok-add.ensures.added payloads adds))
