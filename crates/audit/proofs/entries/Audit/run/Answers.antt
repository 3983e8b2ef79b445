use Rattle.std.proofs.Common.{Ok, Option, subst}
use Rattle.audit.specs.Standing.{Goes}
use Rattle.audit.specs.declared.verdict.Verdict.{Verdict}
use Rattle.audit.proofs.entries.Audit.run.Goals as goal

pub returns-in-Some-clause-says : goal.returns-in-Some-clause-says
returns-in-Some-clause-says g c = λ s left st.
    let goes = c.in_ok-verdict.ensures.says s left (c.loop-self.invariant.says s left st) in
    subst (λ (found : Option Verdict). Goes c.args.keys.now s left (g.S.Source.left c.step.new.source) c.step.new.self (Ok found)) c.in-Some.is goes

pub returns-clause-says : goal.returns-clause-says
returns-clause-says g c = λ s left st. c.end.ensures.says c.args.keys.now s left (c.loop-self.invariant.says s left st)
