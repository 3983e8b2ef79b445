use Rattle.std.proofs.lemmas.Bool.{false≢true}
use Rattle.std.specs.Prelude.{true, false}
use Rattle.run_commands.proofs.Giving.{gives_journal}
use Rattle.run_commands.proofs.serve_command.journal_disk.Goals as goal

pub returns-then-options : goal.returns-then-options
returns-then-options g c =
    let o = c.args.options.now in
    let h = c.disk_there.ensures in
    gives_journal g.W.World g.W.Disk.Disk o.existing true o.journal c.args.world.now c.disk_there.new.self c.disk_there.result c.if-options.true h.asks h.disks h.doors h.keys h.cause (λ e. h.long)

pub returns : goal.returns
returns g c =
    let o = c.args.options.now in
    let h = c.disk.ensures in
    gives_journal g.W.World g.W.Disk.Disk o.existing false o.journal c.args.world.now c.disk.new.self c.disk.result c.if-options.false h.asks h.disks h.doors h.keys h.cause (λ e. absurd (false≢true e))
