use Rattle.std.proofs.Common.{◌≡◌, ◌<◌, ◌-◌, ◌++◌, length, take, drop, sym, ap, ◌∙◌, arith}
use Rattle.std.proofs.lemmas.List.{take_rest, length-drop}
use Rattle.httparse.specs.Grammar.{print_blank}
use Rattle.http_wire.specs.Heads.{empty_line}
use Rattle.http_wire.proofs.Cuts.{blank_more}
use Rattle.http_wire.proofs.head.behind_blank.Goals as goal

pub loop-n-preserved : goal.loop-n-preserved
loop-n-preserved c =
    let rest = c.loop-n.rest.now in
    let n = c.loop-n.n in
    let (blank, is) = c.loop-n.invariant.blank in
    let some : 0 < empty_line rest = omega (arith, c.loop-n.invariant.n) in
    let (more, next) = blank_more blank c.args.bytes.now rest is some in
    let left : drop (empty_line rest) rest ≡ take (length rest - n) (drop n rest) = ap (λ k. drop k rest) (sym c.loop-n.invariant.n) ∙ sym (take_rest rest n) in
    record {
      blank = (more, next ∙ ap (λ k. print_blank more ++ k) left);
      n = c.empty_line-n-in-loop-n.ensures.value;
      fits = c.empty_line-n-in-loop-n.ensures.within;
      within = omega (arith, ap length (take_rest rest n), length-drop n rest);
    }
