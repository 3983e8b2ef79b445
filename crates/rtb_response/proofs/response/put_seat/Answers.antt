use Rattle.std.proofs.Common.{◌∙◌, ap, [], ◌∷◌}
use Rattle.std.specs.Prelude.{codes}
use Rattle.std.specs.Option.{option_copied}
use Rattle.json_out.specs.Inside.{put_member}
use Rattle.json_out.specs.Texts.{Member, array_text}
use Rattle.json_out.specs.Writer.{end, put_name, put_value}
use Rattle.json_out.proofs.Objects.{members_are, object_ends}
use Rattle.rtb_response.specs.Response.{seat_bids, text_member}
use Rattle.rtb_response.proofs.response.put_seat.Goals as goal

pub returns : goal.returns
returns c =
    let bids : Member = (codes "bid", array_text (seat_bids (option_copied c.args.public) c.args.keys.now c.args.request.now c.args.sold.now c.args.seat.now)) in
    let last : Member = text_member (codes "seat") c.args.seat.now in
    let is = c.in_ok-put_text.ensures.ok ∙ ap (λ v. put_member v last) (c.in_ok-put_bids.ensures ∙ ap (λ v. put_value v bids.1) (c.in_ok-name.ensures.ok ∙ ap (λ v. put_name v (codes "bid")) c.in_ok-obj.ensures.ok))
    ∙ members_are c.args.writer.now [] (bids ∷ last ∷ []) in
    c.in_ok-end.ensures.ok ∙ ap end is ∙ object_ends c.args.writer.now (bids ∷ last ∷ [])
