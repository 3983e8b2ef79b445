use Rattle.audit.proofs.Coming.{looks_held}
use Rattle.audit.proofs.input.Input.has_more.Goals as goal

pub returns-then-not-is_empty-clause-looks : goal.returns-then-not-is_empty-clause-looks
returns-then-not-is_empty-clause-looks g c = looks_held (g.S.Source.left c.args.source.now) c.args.self.now c.is_empty.result c.is_empty.ensures c.if-not-is_empty.true
