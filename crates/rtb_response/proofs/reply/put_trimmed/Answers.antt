use Rattle.std.proofs.Common.{◌∙◌, ap, false, [], ◌∷◌}
use Rattle.std.specs.Prelude.{codes}
use Rattle.json_out.specs.declared.places.Place.TheVariants.{Object}
use Rattle.json_out.specs.Inside.{put_member}
use Rattle.json_out.specs.Texts.{Member}
use Rattle.json_out.specs.Writer.{begin, blank}
use Rattle.json_out.proofs.Objects.{closes, members_are}
use Rattle.rtb_response.specs.Replies.{answer, number_member}
use Rattle.rtb_response.proofs.reply.put_trimmed.Goals as goal

pub returns-clause-value : goal.returns-clause-value
returns-clause-value c =
    let a = c.args in
    let sales : Member = number_member (codes "sales") a.sales in
    let forgotten : Member = number_member (codes "forgotten") a.forgotten in
    let empty = c.in_ok-obj.ensures.ok ∙ ap (λ v. begin v (Object false false)) c.requires in
    let one = c.in_ok-put_number.ensures.ok ∙ ap (λ v. put_member v sales) empty in
    let both = c.in_ok-put_number-2.ensures.ok ∙ ap (λ v. put_member v forgotten) one ∙ members_are blank [] (sales ∷ forgotten ∷ []) in
    ap (answer 200) (closes c.put_number-2.new.self (sales ∷ forgotten ∷ []) both).2
