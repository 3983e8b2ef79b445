use Rattle.std.proofs.Common.{ap, ◌∙◌}
use Rattle.audit.proofs.Judging.{stands_first}
use Rattle.audit.specs.declared.entries.Audit.{Audit}
use Rattle.auction_core.specs.Core.{CoreState}
use Rattle.audit.proofs.run.judge_entries.Goals as goal

pub returns-clause-says : goal.returns-clause-says
returns-clause-says g c = λ left found.
    let now = g.I.Source.left c.args.source.now in
    let at = c.new-audit.ensures in
    let state = ap (λ (a : Audit). a.core.state) at ∙ ap (λ (k : CoreState). k.state) c.hold_for.ensures in
    c.run-said.ensures.says c.args.core.state left
    (stands_first c.args.keys.now c.args.core.state left now c.args.header c.args.size c.args.input c.new-audit.result found
    (ap (λ (a : Audit). a.header) at) (ap (λ (a : Audit). a.input) at) state (ap (λ (a : Audit). a.entries) at) (ap (λ (a : Audit). a.passed) at) (ap (λ (a : Audit). a.place) at))
