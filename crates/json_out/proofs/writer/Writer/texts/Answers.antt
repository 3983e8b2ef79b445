use Rattle.std.proofs.Common.{◌≡◌, ◌∙◌, ap, arith, map, sym, take, [], ◌∷◌, ◌++◌}
use Rattle.std.proofs.lemmas.List.{take_all, take_more, map_push}
use Rattle.json_out.specs.Strings.{string_text}
use Rattle.json_out.specs.Inside.{in_array}
use Rattle.json_out.specs.Texts.{array_text}
use Rattle.json_out.specs.Writer.{can_end, end, put_value, takes_value}
use Rattle.json_out.proofs.Objects.{array_ends, element_more}
use Rattle.json_out.proofs.writer.Writer.texts.Goals as goal

pub loop-text-init : goal.loop-text-init
loop-text-init c = c.in_ok-arr.ensures.ok

pub text-requires : goal.text-requires
text-requires c = ap takes_value c.loop-text.invariant

pub loop-text-preserved : goal.loop-text-preserved
loop-text-preserved c =
    let k = c.loop-text.text-index in
    let d = c.text-item.result in
    let start = c.args.self.now in
    c.in_ok-text.ensures.ok ∙ ap (λ t. put_value c.loop-text.self (string_text t)) c.as_bytes.ensures.value ∙ ap (λ v. put_value v (string_text d)) c.loop-text.invariant
    ∙ element_more start (map string_text (take k c.args.texts.now)) (string_text d)
    ∙ ap (in_array start) (sym (ap (map string_text) (take_more c.args.texts.now k d c.loop-text-test.true ∙ ap (λ s. take k c.args.texts.now ++ s ∷ []) (sym c.text-item.is)) ∙ map_push string_text (take k c.args.texts.now) d))

pub end-requires : goal.end-requires
end-requires c = ap can_end c.loop-text.invariant

pub returns : goal.returns
returns c =
    let all : take c.loop-text.text-index c.args.texts.now ≡ c.args.texts.now = take_all _ _ (omega (arith, c.loop-text-test.false)) in
    c.in_ok-end.ensures.ok ∙ ap end c.loop-text.invariant ∙ array_ends c.args.self.now (map string_text (take c.loop-text.text-index c.args.texts.now))
    ∙ ap (λ l. put_value c.args.self.now (array_text (map string_text l))) all
