use Rattle.std.proofs.Common.{ap, get_or, refl}
use Rattle.json_out.specs.Writer.{can_end, takes_value}
use Rattle.top_match.specs.declared.scored.Scored.{Scored}
use Rattle.which_run.specs.Texts.{scored_text}
use Rattle.which_run.proofs.Elements.{all_put, one_more}
use Rattle.which_run.proofs.answer.put_best.Goals as goal

pub loop-scored-init : goal.loop-scored-init
loop-scored-init c = c.in_ok-arr.ensures.ok

pub put_scored-requires : goal.put_scored-requires
put_scored-requires c = ap takes_value c.loop-scored.invariant

pub loop-scored-preserved : goal.loop-scored-preserved
loop-scored-preserved c =
    let none : Scored = record { number = 0; score = 0 } in
    one_more scored_text c.args.writer.now c.loop-scored.writer c.put_scored.new.writer c.args.best.now c.loop-scored.scored-index none (get_or c.args.best.now c.loop-scored.scored-index none) c.loop-scored-test.true refl
    c.loop-scored.invariant c.in_ok-put_scored.ensures

pub end-requires : goal.end-requires
end-requires c = ap can_end c.loop-scored.invariant

pub returns : goal.returns
returns c = all_put scored_text c.args.writer.now c.loop-scored.writer c.end.new.self c.args.best.now c.loop-scored.scored-index c.loop-scored-test.false c.loop-scored.invariant c.in_ok-end.ensures.ok
