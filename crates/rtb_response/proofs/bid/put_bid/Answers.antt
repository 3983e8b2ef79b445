use Rattle.std.proofs.Common.{◌≡◌, ◌∙◌, ap, []}
use Rattle.std.specs.Prelude.{codes}
use Rattle.std.specs.Option.{option_copied}
use Rattle.json_out.specs.Inside.{in_object, put_members}
use Rattle.json_out.specs.Writer.{end}
use Rattle.json_out.proofs.Objects.{members_are, object_ends}
use Rattle.rtb_response.specs.Response.{ad_members, bid_members, further_members, notice_members, optional_text, sale_members}
use Rattle.rtb_response.proofs.Joined.{five_joined}
use Rattle.rtb_response.proofs.bid.put_bid.Goals as goal

pub returns : goal.returns
returns c =
    let public = option_copied c.args.public in
    let keys = c.args.keys.now in
    let r = c.args.request.now in
    let s = c.args.sale.now in
    let w = c.args.writer.now in
    let facts = s.record.facts in
    let a = sale_members r s in
    let b = optional_text (codes "adid") facts.adid in
    let n = notice_members public keys s.sale in
    let d = ad_members r s in
    let e = further_members facts s.deal in
    let adid : option_copied c.adid.result ≡ facts.adid = c.adid.ensures ∙ ap (λ x. x.facts.adid) c.record.ensures in
    let one = c.in_ok-put_sale.ensures.ok ∙ ap (λ v. put_members v a) c.in_ok-obj.ensures.ok in
    let two = c.in_ok-put_text_if_some.ensures.ok ∙ ap (λ t. put_members c.put_sale.new.writer (optional_text (codes "adid") t)) adid ∙ ap (λ v. put_members v b) one in
    let three = c.in_ok-put_notices.ensures.ok ∙ ap (λ v. put_members v n) two in
    let four = c.in_ok-put_ad.ensures.ok ∙ ap (λ v. put_members v d) three in
    let five = c.in_ok-put_further.ensures.ok
    ∙ ap (λ x. put_members c.put_ad.new.writer (further_members x.facts (option_copied c.as_ref.result))) c.record.ensures
    ∙ ap (λ t. put_members c.put_ad.new.writer (further_members facts t)) c.as_ref.ensures.value
    ∙ ap (λ v. put_members v e) four in
    let is : c.put_further.new.writer ≡ in_object w (bid_members public keys r s) = five ∙ five_joined (in_object w []) a b n d e ∙ members_are w [] (bid_members public keys r s) in
    c.in_ok-end.ensures.ok ∙ ap end is ∙ object_ends w (bid_members public keys r s)
