use Rattle.std.proofs.Common.{◌+◌, ◌-◌, ◌∙◌, sym, ap, length, drop, cond, Some, None, arith, length-drop}
use Rattle.std.specs.List.{after_first}
use Rattle.std.proofs.lemmas.List.{take_all}
use Rattle.exchange_run.specs.Words.{is_at}
use Rattle.exchange_run.proofs.Places.{nowhere, place, there}
use Rattle.exchange_run.proofs.words.domain_part.Goals as goal

pub returns-in-Some : goal.returns-in-Some
returns-in-Some c =
    let word = c.args.word.now in
    let at = c.in-Some.at in
    let whole = take_all (length word - (at + 1)) (drop (at + 1) word) (omega (arith, length-drop (at + 1) word)) in
    ap Some (whole ∙ ap (λ n. drop (n + 1) word) (sym (place is_at word at c.in-Some.ensures.place)))
    ∙ sym (ap (λ b. cond b (Some (after_first is_at word)) None) (there is_at word at c.in-Some.ensures.place))

pub returns-in-None : goal.returns-in-None
returns-in-None c =
    let word = c.args.word.now in
    sym (ap (λ b. cond b (Some (after_first is_at word)) None) (nowhere is_at word c.in-None.ensures.place))
