use Rattle.std.proofs.Common.{List, subst, ℕ}
use Rattle.std.specs.Prelude.{IfOk}
use Rattle.audit.proofs.Auditing.{rises_behind}
use Rattle.audit.specs.Inputs.{IsNext}
use Rattle.trace.proofs.Reading.{header_code}
use Rattle.trace.specs.Traces.{IsHeader, header_bytes}
use Rattle.audit.proofs.run.judge_trace.Goals as goal

pub next-header-requires : goal.next-header-requires
next-header-requires g c = record { code = header_code }

pub returns-clause-says : goal.returns-clause-says
returns-clause-says g c =
    let first = g.I.Source.left c.args.source.now in
    let then_ = g.I.Source.left c.next-header.new.source in
    let came = subst (λ (held : List ℕ). IfOk c.next-header.result (IsNext IsHeader header_bytes first then_ held c.next-header.new.self)) c.new-input.ensures c.next-header.ensures.next in
    c.judge_behind.ensures.says first came

pub returns-clause-cause : goal.returns-clause-cause
returns-clause-cause g c =
    rises_behind g.I.Source.faults c.args.source.now c.next-header.new.source c.judge_behind.new.source c.next-header.result c.judge_behind.result c.next-header.ensures.cause c.judge_behind.ensures.cause c.judge_behind.ensures.no_header
