use Rattle.std.proofs.Common.{◌≡◌, ◌+◌, ◌-◌, ℕ, List, length, take, drop, ◌==◌, not, ◌∙◌, sym, ap, arith, length-drop, Bool, ◌&&◌}
use Rattle.std.specs.List.{list_all}
use Rattle.std.proofs.lemmas.List.{take_all}
use Rattle.rtb_num.specs.Amounts.{is_digit}
use Rattle.rtb_num.proofs.Points.{decimal_none, decimal_some}
use Rattle.rtb_num.proofs.number_form.is_decimal.Goals as goal

pub returns-in-None : goal.returns-in-None
returns-in-None c = c.is_whole_part.ensures ∙ decimal_none c.args.text.now (sym c.point_of.ensures ∙ c.in-None.is)

-- whether these stand behind the point
abbrev behind : List ℕ → Bool
behind s = list_all is_digit s && not (length s == 0)

pub returns-then-is_whole_part : goal.returns-then-is_whole_part
returns-then-is_whole_part c =
    let at = c.in-Some.at in
    let rest : take (length c.args.text.now - (at + 1)) (drop (at + 1) c.args.text.now) ≡ drop (at + 1) c.args.text.now = take_all _ _ (omega (arith, length-drop (at + 1) c.args.text.now)) in
    c.is_fraction.ensures
    ∙ ap behind rest
    ∙ ap (λ b. b && behind (drop (at + 1) c.args.text.now)) (sym c.if-is_whole_part.true ∙ c.is_whole_part-in-Some.ensures)
    ∙ decimal_some c.args.text.now at (sym c.point_of.ensures ∙ c.in-Some.is)
