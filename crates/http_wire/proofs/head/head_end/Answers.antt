use Rattle.std.proofs.Common.{ap, ◌∙◌, arith}
use Rattle.std.proofs.lemmas.List.{take_rest}
use Rattle.http_wire.specs.Heads.{empty_line}
use Rattle.http_wire.proofs.Cuts.{seen_at_first, line_ends, line_goes, line_nowhere}
use Rattle.http_wire.proofs.head.head_end.Goals as goal

pub lines-init : goal.lines-init
lines-init c = record { seen = seen_at_first c.args.bytes.now; within = omega arith }

pub lines-preserved : goal.lines-preserved
lines-preserved c = record {
  seen = line_goes c.args.bytes.now c.lines.at c.in-Some.place c.empty_line-n.result c.lines.invariant.seen c.in-Some.ensures.found (c.empty_line-n.ensures.value ∙ ap empty_line (take_rest c.args.bytes.now c.in-Some.place)) c.if-n-gt0.false;
  within = c.in-Some.ensures.found.within;
}

pub returns-then-n-gt0 : goal.returns-then-n-gt0
returns-then-n-gt0 c =
    line_ends c.args.bytes.now c.lines.at c.in-Some.place c.empty_line-n.result c.lines.invariant.seen c.in-Some.ensures.found (c.empty_line-n.ensures.value ∙ ap empty_line (take_rest c.args.bytes.now c.in-Some.place)) c.if-n-gt0.true

pub returns-in_default : goal.returns-in_default
returns-in_default c = line_nowhere c.args.bytes.now c.lines.at c.lines.invariant.seen c.in_default.ensures.none
