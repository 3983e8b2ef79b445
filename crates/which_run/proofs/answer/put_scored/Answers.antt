use Rattle.std.proofs.Common.{◌∙◌, ap, [], ◌∷◌}
use Rattle.std.specs.Prelude.{codes, decimal}
use Rattle.json_out.specs.Inside.{put_member}
use Rattle.json_out.specs.Texts.{Member}
use Rattle.json_out.specs.Writer.{end}
use Rattle.json_out.proofs.Objects.{members_are, object_ends}
use Rattle.which_run.proofs.answer.put_scored.Goals as goal

pub returns : goal.returns
returns c =
    let number : Member = (codes "expression", decimal c.args.scored.number) in
    let score : Member = (codes "score", decimal c.args.scored.score) in
    let is = c.in_ok-put_number-2.ensures.ok ∙ ap (λ v. put_member v score) (c.in_ok-put_number.ensures.ok ∙ ap (λ v. put_member v number) c.in_ok-obj.ensures.ok)
    ∙ members_are c.args.writer.now [] (number ∷ score ∷ []) in
    c.in_ok-end.ensures.ok ∙ ap end is ∙ object_ends c.args.writer.now (number ∷ score ∷ [])
