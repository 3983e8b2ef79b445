use Rattle.std.proofs.Common.{◌≡◌, ◌∙◌, ap, [], ◌∷◌, false}
use Rattle.json_out.specs.declared.places.Place.TheVariants.{Array}
use Rattle.json_out.specs.Strings.{string_text}
use Rattle.json_out.specs.Texts.{array_text}
use Rattle.json_out.specs.Inside.{put_member}
use Rattle.json_out.specs.Writer.{begin, can_end, end, put_name, put_value, takes_name, takes_value}
use Rattle.json_out.proofs.Objects.{array_ends, element_more, name_next, value_next}
use Rattle.json_out.proofs.writer.Writer.put_one.Goals as goal

pub arr-requires : goal.arr-requires
arr-requires c = ap takes_value c.in_ok-name.ensures.ok ∙ value_next c.args.self.now c.args.name.now c.requires

pub text-requires : goal.text-requires
text-requires c = ap takes_value c.in_ok-arr.ensures.ok

pub end-requires : goal.end-requires
end-requires c =
    ap can_end (c.in_ok-text.ensures.ok ∙ ap (λ w. put_value w (string_text c.args.text.now)) c.in_ok-arr.ensures.ok)

pub returns : goal.returns
returns c =
    let u = put_name c.args.self.now c.args.name.now in
    let s = string_text c.args.text.now in
    let is : c.end.new.self ≡ put_member c.args.self.now (c.args.name.now, array_text (s ∷ [])) =
    c.in_ok-end.ensures.ok ∙ ap end (c.in_ok-text.ensures.ok ∙ ap (λ w. put_value w s) (c.in_ok-arr.ensures.ok ∙ ap (λ w. begin w (Array false)) c.in_ok-name.ensures.ok) ∙ element_more u [] s) ∙ array_ends u (s ∷ []) in
    record { ok = is; next = ap takes_name is ∙ name_next c.args.self.now (c.args.name.now, array_text (s ∷ [])) c.requires }
