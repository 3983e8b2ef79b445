use Rattle.std.proofs.Common.{◌≡◌, ◌≤◌, ◌++◌, length, take, drop, sym, subst}
use Rattle.std.proofs.lemmas.List.Sums.{prefix_len-le-length}
use Rattle.rtb_macros.specs.Macros.{filled_in, is_plain}
use Rattle.rtb_macros.proofs.Pieces.{at_first, at_plain}
use Rattle.rtb_macros.proofs.filling.plain_len.Goals as goal

pub returns-then-plain-eq0-clause-text : goal.returns-then-plain-eq0-clause-text
returns-then-plain-eq0-clause-text c = λ v. at_first v c.args.markup.now c.requires.none

pub returns-clause-within : goal.returns-clause-within
returns-clause-within c =
    subst (λ k. k ≤ length c.args.markup.now) (sym c.plain_front-plain.ensures) (prefix_len-le-length is_plain c.args.markup.now)

pub returns-clause-text : goal.returns-clause-text
returns-clause-text c = λ v.
    subst (λ k. filled_in v c.args.markup.now ≡ take k c.args.markup.now ++ filled_in v (drop k c.args.markup.now)) (sym c.plain_front-plain.ensures)
    (at_plain v c.args.markup.now)
