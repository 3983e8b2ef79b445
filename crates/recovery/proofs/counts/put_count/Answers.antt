use Rattle.std.proofs.Common.{◌∙◌, ap, append_assoc, ◌++◌}
use Rattle.std.specs.Prelude.{decimal}
use Rattle.recovery.specs.Counts.{count_text}
use Rattle.recovery.proofs.counts.put_count.Goals as goal

pub returns-clause-ok : goal.returns-clause-ok
unfolding count_text
returns-clause-ok c =
    c.in_ok-write_decimal.ensures.ok ∙ ap (λ l. l ++ decimal c.args.count) c.in_ok-extend.ensures.ok ∙ append_assoc c.args.out.now c.args.name.now (decimal c.args.count)
