use Rattle.std.proofs.Common.{◌∙◌, ap, option_map}
use Rattle.target_expr.specs.Kept.{keep}
use Rattle.exchange_run.proofs.Wanted.{kept_as, only_memory}
use Rattle.exchange_run.proofs.opening.target.Goals as goal

pub returns-in-Ok : goal.returns-in-Ok
returns-in-Ok c = c.in-Ok.ensures.value ∙ ap keep c.in_ok-written.ensures ∙ kept_as (option_map (λ d. d.now) c.args.domain)

pub want_of_memory-requires : goal.want_of_memory-requires
want_of_memory-requires c = only_memory (option_map (λ d. d.now) c.args.domain) c.in_ok-written.written c.in-Err.fault c.requires c.in_ok-written.ensures c.in-Err.ensures.fault
