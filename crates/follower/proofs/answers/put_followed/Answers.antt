use Rattle.std.proofs.Common.{[], ◌∷◌, ◌∙◌, ap}
use Rattle.std.specs.Prelude.{codes, decimal}
use Rattle.json_out.specs.Inside.{put_member}
use Rattle.json_out.specs.Texts.{Member}
use Rattle.json_out.specs.Writer.{blank}
use Rattle.json_out.proofs.Objects.{members_are}
use Rattle.rtb_response.specs.Replies.{report_members}
use Rattle.follower.proofs.answers.put_followed.Goals as goal

pub returns : goal.returns
returns c =
    let r = c.args.report.now in
    let last : Member = (codes "effects", decimal c.args.effects) in
    c.in_ok-put_number.ensures.ok ∙ ap (λ v. put_member v last) c.in_ok-put_report.ensures ∙ members_are blank (report_members c.args.n r.live r.bid r.budget r.totals) (last ∷ [])
