use Rattle.std.proofs.Common.{◌++◌, ◌≡◌, subst}
use Rattle.std.specs.Prelude.{OnOk}
use Rattle.compaction.specs.Lines.{compact_line}
use Rattle.compaction.specs.Writing.{Writes}
use Rattle.compaction.proofs.Users.{writable}
use Rattle.compaction.proofs.journals.write_kept.Goals as goal

pub write_exchange-written-requires : goal.write_exchange-written-requires
write_exchange-written-requires g c = record { writable = writable c.args.core c.forget.new.self c.args.keep c.requires.led c.forget.ensures.state }

pub returns-clause-writes : goal.returns-clause-writes
returns-clause-writes g c = λ told.
    subst (λ state. Writes state (g.D.Disk.store c.args.disk) (g.D.Disk.store c.write_exchange-written.result.0) c.write_exchange-written.result.1) c.forget.ensures.state (c.write_exchange-written.ensures.writes told)

pub returns-clause-line : goal.returns-clause-line
returns-clause-line g c =
    subst (λ state. OnOk c.write_exchange-written.result.1 (c.write_exchange-written.new.line ≡ c.args.line.now ++ compact_line state)) c.forget.ensures.state c.write_exchange-written.ensures.line
