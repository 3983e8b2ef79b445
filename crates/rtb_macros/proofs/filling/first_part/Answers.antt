use Rattle.std.proofs.Common.{◌≤◌, ◌++◌, length, drop, ap, subst, sym, ◌∙◌}
use Rattle.rtb_macros.specs.Macros.{filled_in, name_of}
use Rattle.rtb_macros.proofs.Pieces.{at_macro, name_within}
use Rattle.rtb_macros.proofs.filling.first_part.Goals as goal

pub returns-in-Some-clause-within : goal.returns-in-Some-clause-within
returns-in-Some-clause-within c =
    subst (λ name. length name ≤ length c.args.markup.now) (sym c.name.ensures)
    (name_within c.in-Some.found c.args.markup.now (sym c.macro_of.ensures ∙ c.in-Some.is))

pub returns-in-Some-clause-text : goal.returns-in-Some-clause-text
returns-in-Some-clause-text c =
    let values = c.args.values.now in
    let markup = c.args.markup.now in
    at_macro values c.in-Some.found markup (sym c.macro_of.ensures ∙ c.in-Some.is)
    ∙ ap (λ value. value ++ filled_in values (drop (length (name_of c.in-Some.found)) markup)) (sym c.value_in.ensures)
    ∙ ap (λ name. c.value_in.result.now ++ filled_in values (drop (length name) markup)) (sym c.name.ensures)

pub returns-in-None-clause-text : goal.returns-in-None-clause-text
returns-in-None-clause-text c = c.plain_len-plain.ensures.text c.args.values.now
