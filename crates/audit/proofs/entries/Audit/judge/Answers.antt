use Rattle.std.proofs.Common.{Bool, ap, refl, ◌+◌, ◌∙◌}
use Rattle.std.specs.Prelude.{if◌then◌else◌}
use Rattle.audit.proofs.Judging.{breaks_off, stands_more}
use Rattle.audit.proofs.entries.Audit.judge.Goals as goal

pub returns-then-not-branch-clause-says : goal.returns-then-not-branch-clause-says
returns-then-not-branch-clause-says c = λ s left left' b.
    let leads = rw c.if-not-branch.true at c.in_ok-account.ensures.leads in
    breaks_off c.args.keys.now s left left' c.args.entry.now c.args.self.now c.requires.entry c.requires.few b leads

pub returns-clause-says : goal.returns-clause-says
returns-clause-says c = λ s left left' b.
    let leads = rw c.if-not-branch.false at c.in_ok-account.ensures.leads in
    let passed = ap (λ n. c.args.self.now.passed + n) (c.one_where.ensures ∙ ap (λ (holds : Bool). if holds then 1 else 0) c.passes.ensures) in
    let place = c.in_ok-self.ensures ∙ ap (λ n. c.args.self.now.place + n) c.requires.size in
    stands_more c.args.keys.now s left left' c.args.entry.now c.args.self.now _ c.requires.entry b leads refl refl refl passed place
