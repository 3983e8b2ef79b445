use Rattle.std.proofs.Common.{get_or, pos, rules, FitsSigned, ◌≡◌, ◌∙◌, ap, arith, map, sym, take}
use Rattle.std.proofs.lemmas.List.{take_all, take_more, map_push}
use Rattle.std.specs.Int.{w32}
use Rattle.std.proofs.lemmas.Int.{to_z-of_z}
use Rattle.std.specs.Fmt.{signed_decimal}
use Rattle.json_out.specs.Inside.{in_array}
use Rattle.json_out.specs.Texts.{array_text}
use Rattle.json_out.specs.Writer.{can_end, end, put_value, takes_value}
use Rattle.json_out.proofs.Objects.{array_ends, element_more}
use Rattle.json_out.proofs.writer.Writer.signeds.Goals as goal

pub loop-number-init : goal.loop-number-init
loop-number-init c = c.in_ok-arr.ensures.ok

pub signed-requires : goal.signed-requires
signed-requires c = ap takes_value c.loop-number.invariant

pub loop-number-preserved : goal.loop-number-preserved
loop-number-preserved c =
    let xs = c.args.numbers.now in
    let k = c.loop-number.number-index in
    let z = get_or xs k (pos 0) in
    let start = c.args.self.now in
    let fits : FitsSigned w32 z = search rules in
    c.in_ok-signed.ensures.ok ∙ ap (λ n. put_value c.loop-number.self (signed_decimal n)) (to_z-of_z w32 z fits) ∙ ap (λ v. put_value v (signed_decimal z)) c.loop-number.invariant
    ∙ element_more start (map signed_decimal (take k xs)) (signed_decimal z)
    ∙ ap (in_array start) (sym (ap (map signed_decimal) (take_more xs k (pos 0) c.loop-number-test.true) ∙ map_push signed_decimal (take k xs) z))

pub end-requires : goal.end-requires
end-requires c = ap can_end c.loop-number.invariant

pub returns : goal.returns
returns c =
    let all : take c.loop-number.number-index c.args.numbers.now ≡ c.args.numbers.now = take_all _ _ (omega (arith, c.loop-number-test.false)) in
    c.in_ok-end.ensures.ok ∙ ap end c.loop-number.invariant ∙ array_ends c.args.self.now (map signed_decimal (take c.loop-number.number-index c.args.numbers.now))
    ∙ ap (λ l. put_value c.args.self.now (array_text (map signed_decimal l))) all
