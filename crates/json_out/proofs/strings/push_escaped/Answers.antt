use Rattle.std.proofs.Common.{◌≡◌, ◌-◌, ◌++◌, ◌∷◌, length, take, drop, ap, sym, ◌∙◌, append_assoc, length-drop, arith}
use Rattle.std.proofs.lemmas.List.{take_all}
use Rattle.json_out.specs.Strings.{escape}
use Rattle.json_out.proofs.Escapes.{run_moved}
use Rattle.json_out.proofs.strings.push_escaped.Goals as goal

pub loop-byte-preserved : goal.loop-byte-preserved
loop-byte-preserved c =
    let (more, came) = c.loop-byte.invariant.front in
    let rest = c.loop-byte.rest.now in
    let n = c.plain_len-plain.result in
    let byte = c.in-Some.byte.now in
    let whole : take (length rest - n) (drop n rest) ≡ drop n rest = take_all _ _ (omega (arith, length-drop n rest)) in
    let split : drop n rest ≡ byte ∷ c.in-Some.behind.now = sym whole ∙ c.in-Some.ensures.cases.0 in
    let one = c.in_ok-push_byte.ensures.ok in
    let run = c.in_ok-extend.ensures.ok in
    record {
      rest = run_moved c.loop-byte.out rest _ _ _ n byte run one split c.plain_len-plain.ensures.plain ∙ c.loop-byte.invariant.rest;
      front = (more ++ (take n rest ++ escape byte), one ∙ ap (λ l. l ++ escape byte) (run ∙ ap (λ l. l ++ take n rest) came ∙ append_assoc _ more (take n rest)) ∙ append_assoc _ (more ++ take n rest) (escape byte) ∙ ap (λ l. c.args.out.now ++ l) (append_assoc more (take n rest) (escape byte)));
    }
