use Rattle.std.proofs.Common.{ap, ◌∙◌}
use Rattle.exchange_shared.specs.Seats.{Seat}
use Rattle.made_run.proofs.serving.serve_with.Goals as goal

pub returns-clause-first : goal.returns-clause-first
returns-clause-first g c = ap (λ (s : Seat). s.worker) c.serve_door.ensures.served.answers.goes.same ∙ c.requires.first
