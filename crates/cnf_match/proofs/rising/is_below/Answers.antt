use Rattle.std.proofs.Common.{◌<◌, ◌≤◌, length, min, sym, arith}
use Rattle.cnf_match.proofs.Below.{below_at, below_end}
use Rattle.cnf_match.proofs.rising.is_below.Goals as goal

pub returns-then-a-i : goal.returns-then-a-i
returns-then-a-i c =
    let a = c.args.a.now in
    let b = c.args.b.now in
    let within : c.loop-i.i < length a = omega (arith, c.min-i-end.ensures, c.loop-i-test.true) in
    let inside : c.loop-i.i < length b = omega (arith, c.min-i-end.ensures, c.loop-i-test.true) in
    sym (below_at c.loop-i.i a b 0 0 c.loop-i.invariant within inside c.if-a-i.true)

pub returns : goal.returns
returns c =
    let a = c.args.a.now in
    let b = c.args.b.now in
    let within : c.loop-i.i ≤ length a = omega (arith, c.min-i-end.ensures, c.loop-i.auto.i-end) in
    let inside : c.loop-i.i ≤ length b = omega (arith, c.min-i-end.ensures, c.loop-i.auto.i-end) in
    let over : min (length a) (length b) ≤ c.loop-i.i = omega (arith, c.min-i-end.ensures, c.loop-i-test.false) in
    sym (below_end c.loop-i.i a b c.loop-i.invariant within inside over)
