use Rattle.std.proofs.Common.{refl}
use Rattle.run_commands.proofs.outcome.Outcome.with_disk.Goals as goal

pub returns : goal.returns
returns g c = record { status = c.code.ensures; doors = c.new.ensures; disk = refl; other = refl; last = refl; past = refl }
