use Rattle.std.proofs.Common.{◌∙◌, ap, false, []}
use Rattle.std.specs.Prelude.{codes, decimal}
use Rattle.json_out.specs.declared.places.Place.TheVariants.{Object}
use Rattle.json_out.specs.Inside.{put_member, put_members}
use Rattle.json_out.specs.Strings.{string_text}
use Rattle.json_out.specs.Texts.{Member}
use Rattle.json_out.specs.Writer.{begin, blank}
use Rattle.json_out.proofs.Objects.{members_are}
use Rattle.rtb_num.specs.Amounts.{micros_text, nanos_text}
use Rattle.rtb_response.specs.Replies.{number_member, report_members, state_of, totals_members}
use Rattle.rtb_response.specs.Response.{text_member}
use Rattle.rtb_response.proofs.reply.put_report.Goals as goal

pub returns : goal.returns
returns c =
    let a = c.args in
    let all = report_members a.n a.live a.bid a.budget a.totals.now in
    let number : Member = number_member (codes "campaign") a.n in
    let state : Member = text_member (codes "state") (state_of a.live) in
    let bid : Member = (codes "bid", micros_text a.bid) in
    let budget : Member = (codes "budget", nanos_text a.budget) in
    let empty = c.in_ok-obj.ensures.ok ∙ ap (λ v. begin v (Object false false)) c.requires in
    let one = c.in_ok-put_number.ensures.ok ∙ ap (λ k. put_member c.obj.new.self (codes "campaign", decimal k)) c.from.ensures ∙ ap (λ v. put_member v number) empty in
    let two = c.in_ok-put_text.ensures.ok ∙ ap (λ t. put_member c.put_number.new.self (codes "state", string_text t)) c.state_word.ensures ∙ ap (λ v. put_member v state) one in
    let three = c.in_ok-put_micros.ensures.ok ∙ ap (λ v. put_member v bid) two in
    let four = c.in_ok-put_nanos.ensures.ok ∙ ap (λ v. put_member v budget) three in
    c.in_ok-put_totals.ensures.ok ∙ ap (λ v. put_members v (totals_members a.totals.now)) four ∙ members_are blank [] all
