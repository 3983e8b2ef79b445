use Rattle.run_commands.proofs.Serving.{is_run}
use Rattle.run_commands.proofs.serve_command.serve_all.Goals as goal

pub returns-clause-run : goal.returns-clause-run
returns-clause-run g c = λ disk before begins line.
    let pool = c.serve_doors-pool.result in
    let h = c.serve_doors-pool.ensures in
    is_run g.D.Disk g.G.Door g.G.Link.Link c.args.tools.now.options.now c.args.tools.now.keys.now disk pool.disk c.args.doors pool.doors c.args.seat.origin pool.past pool.end before
    (g.K.Sink.written c.args.sink.now) (g.K.Sink.written c.end_behind.new.sink) _ begins h.origin h.legal h.budgets h.order h.served h.images h.since h.faults h.counted h.left h.end line c.end_behind.ensures.ends
