use Rattle.std.proofs.Common.{rules, ◌≡◌, ◌++◌, [], length, arith, ap, sym, ◌∙◌}
use Rattle.std.proofs.lemmas.List.{append-nil, nil_from_length}
use Rattle.rtb_macros.specs.Macros.{filled_in}
use Rattle.rtb_macros.proofs.Pieces.{at_end}
use Rattle.rtb_macros.proofs.filling.substitute.Goals as goal

pub returns : goal.returns
returns c =
    let none : length c.loop-rest.rest.now ≡ 0 = search (rules, arith) in
    let empty : c.loop-rest.rest.now ≡ [] = nil_from_length c.loop-rest.rest.now none in
    sym (c.loop-rest.invariant
    ∙ ap (λ t. c.loop-rest.out ++ filled_in c.args.values.now t) empty
    ∙ ap (λ t. c.loop-rest.out ++ t) (at_end c.args.values.now)
    ∙ append-nil c.loop-rest.out)
