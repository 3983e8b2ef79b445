use Rattle.exchange_shared.specs.Opening.{IsOriginOver}
use Rattle.exchange_shared.proofs.exchange.Exchange.start.Given as goal

abbrev pub ghosts-open : goal.ghosts-open
ghosts-open g a = record { opened = IsOriginOver (g.D.Disk.store a.disk) (g.D.Disk.faults a.disk) (record { ttl = a.ttl; limit = a.limit }) }
