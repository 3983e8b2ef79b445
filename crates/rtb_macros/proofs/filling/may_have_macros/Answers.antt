use Rattle.std.proofs.Common.{◌≡◌, ◌++◌, length, take, drop, ◌≤◌, nat_lt, false, ap, ◌∙◌, arith}
use Rattle.std.specs.List.{prefix_len}
use Rattle.std.proofs.lemmas.Bool.Decides.{nat_tests}
use Rattle.std.proofs.lemmas.List.Sums.{prefix_len-le-length}
use Rattle.std.proofs.lemmas.List.{append-nil, drop_all, take_all}
use Rattle.rtb_macros.specs.declared.filling.MacroValues.{MacroValues}
use Rattle.rtb_macros.specs.Macros.{filled_in, is_plain}
use Rattle.rtb_macros.proofs.Pieces.{at_end, at_plain}
use Rattle.rtb_macros.proofs.filling.may_have_macros.Goals as goal

pub returns-clause-none : goal.returns-clause-none
returns-clause-none c = λ e v.
    let s = c.args.markup.now in
    let most = prefix_len-le-length is_plain s in
    let front = c.plain_front.ensures in
    let all : prefix_len is_plain s ≡ length s = grind (arith, nat_tests, e, most, front) in
    let whole : length s ≤ length s = omega arith in
    at_plain v s
    ∙ ap (λ n. take n s ++ filled_in v (drop n s)) all
    ∙ ap (λ t. t ++ filled_in v (drop (length s) s)) (take_all (length s) s whole)
    ∙ ap (λ t. s ++ filled_in v t) (drop_all (length s) s whole)
    ∙ ap (λ t. s ++ t) (at_end v)
    ∙ append-nil s
