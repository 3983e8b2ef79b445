use Rattle.seat_cases.proofs.Hands.{first_goes}
use Rattle.seat_cases.proofs.steps.step_a.Goals as goal

pub returns : goal.returns
returns g c = first_goes _ c.args.two c.step_first-first.result.0 c.requires c.step_first-first.ensures
