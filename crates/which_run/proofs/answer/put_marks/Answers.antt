use Rattle.std.proofs.Common.{ap, get_or, refl}
use Rattle.json_out.specs.Writer.{can_end, takes_value}
use Rattle.top_match.specs.declared.scored.Mark.{Mark}
use Rattle.which_run.specs.Texts.{mark_text}
use Rattle.which_run.proofs.Elements.{all_put, one_more}
use Rattle.which_run.proofs.answer.put_marks.Goals as goal

pub loop-mark-init : goal.loop-mark-init
loop-mark-init c = c.in_ok-arr.ensures.ok

pub put_mark-requires : goal.put_mark-requires
put_mark-requires c = ap takes_value c.loop-mark.invariant

pub loop-mark-preserved : goal.loop-mark-preserved
loop-mark-preserved c =
    one_more mark_text c.args.writer.now c.loop-mark.writer c.put_mark.new.writer c.args.marks.now c.loop-mark.mark-index Mark.Chosen (get_or c.args.marks.now c.loop-mark.mark-index Mark.Chosen) c.loop-mark-test.true refl
    c.loop-mark.invariant c.in_ok-put_mark.ensures

pub end-requires : goal.end-requires
end-requires c = ap can_end c.loop-mark.invariant

pub returns : goal.returns
returns c = all_put mark_text c.args.writer.now c.loop-mark.writer c.end.new.self c.args.marks.now c.loop-mark.mark-index c.loop-mark-test.false c.loop-mark.invariant c.in_ok-end.ensures.ok
