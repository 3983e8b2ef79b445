use Rattle.std.proofs.Common.{Ok, subst, sym}
use Rattle.audit.proofs.Judging.{ends_at_most, ends_with_most}
use Rattle.audit.specs.Standing.{Said}
use Rattle.audit.specs.declared.verdict.Verdict.{Verdict}
use Rattle.audit.proofs.entries.Audit.end.Goals as goal

pub returns-then-branch-clause-says : goal.returns-then-branch-clause-says
returns-then-branch-clause-says g c = λ keys s left st.
    ends_at_most keys s left (g.S.Source.left c.args.source.now) (g.S.Source.left c.has_more.new.source) c.args.self.now c.in_ok-has_more.field-0 c.requires.most st c.in_ok-has_more.ensures.looks c.if-branch.true

pub returns-clause-says : goal.returns-clause-says
returns-clause-says g c = λ keys s left st.
    let now = g.S.Source.left c.has_more.new.source in
    subst (λ (v : Verdict). Said keys s left now (Ok v)) (sym c.legal.ensures)
    (ends_with_most keys s left (g.S.Source.left c.args.source.now) now c.args.self.now c.in_ok-has_more.field-0 c.requires.most st c.in_ok-has_more.ensures.looks c.if-branch.false)
