use Rattle.std.proofs.Common.{arith}
use Rattle.conj_match.proofs.Words.{pushed_all, pushed_none}
use Rattle.conj_match.proofs.bits.push_word.Goals as goal

pub returns-then-word-eq0 : goal.returns-then-word-eq0
returns-then-word-eq0 c = λ bits word_is those.
    let word = c.args.word in
    let base = c.args.base in
    let first = c.args.numbers.now.items in
    pushed_all word base first word 0 first (omega (arith, c.if-word-eq0.true)) (pushed_none word base first) bits word_is those
