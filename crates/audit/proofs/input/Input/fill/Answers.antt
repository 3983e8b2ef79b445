use Rattle.audit.proofs.Coming.{fills_by}
use Rattle.audit.proofs.input.Input.fill.Goals as goal

pub returns-clause-fills : goal.returns-clause-fills
returns-clause-fills g c =
    fills_by (g.S.Source.left c.args.source.now) (g.S.Source.left c.read_all.new.source) _ c.args.self.now c.in_ok-more.more c.append.new.self c.is_empty-some.result c.in_ok-more.ensures.bytes c.in_ok-more.ensures.end c.is_empty-some.ensures c.in_ok-append.ensures
