use Rattle.std.proofs.Common.{arith}
use Rattle.std.proofs.lemmas.Bool.Decides.{nat_tests}
use Rattle.trace.proofs.Reading.{ttl_no_mark, ttl_other}
use Rattle.trace.proofs.header.get_ttl.Goals as goal
use Rattle.trace.proofs.header.get_ttl.Goals.{then-ttl-eq0-via-then-ttl-eq0, then-ttl-eq0-via-else-ttl-eq0+then-ttl-gt-MOST_TTL}

pub returns-in_err-next : goal.returns-in_err-next
returns-in_err-next c = rw c.from_residual.ensures (ttl_no_mark c.args.bytes.now c.args.place c.in_err-next.ensures)

pub returns-then-ttl-eq0 : goal.returns-then-ttl-eq0
returns-then-ttl-eq0 c =
    ttl_other c.args.bytes.now c.args.place c.in_ok-next.next c.in_ok-ttl.next c.in_ok-ttl.ttl c.in_ok-next.ensures c.in_ok-ttl.ensures
    (λ v. elim c.then-ttl-eq0.branch [
      | then-ttl-eq0-via-then-ttl-eq0 w ↦ grind (arith, nat_tests, v.0, w.if-ttl-eq0)
      | then-ttl-eq0-via-else-ttl-eq0+then-ttl-gt-MOST_TTL w ↦ grind (arith, nat_tests, v.1, w.if-ttl-gt-MOST_TTL)
    ])
