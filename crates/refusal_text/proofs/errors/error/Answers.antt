use Rattle.std.proofs.Common.{◌∙◌, ap, [], ◌∷◌, false}
use Rattle.std.specs.Prelude.{codes}
use Rattle.json_out.specs.declared.places.Place.TheVariants.{Object}
use Rattle.json_out.specs.Strings.{string_text}
use Rattle.json_out.specs.Texts.{Member}
use Rattle.json_out.specs.Inside.{put_member}
use Rattle.json_out.specs.Writer.{begin, blank}
use Rattle.json_out.proofs.Objects.{member_more}
use Rattle.refusal_text.proofs.errors.error.Goals as goal

pub returns-clause-value : goal.returns-clause-value
returns-clause-value c =
    let e : Member = (codes "error", string_text c.args.word.now) in
    c.in_ok-put_text.ensures.ok ∙ ap (λ w. put_member w e) (c.in_ok-obj.ensures.ok ∙ ap (λ w. begin w (Object false false)) c.with_room-writer.ensures) ∙ member_more blank [] e
