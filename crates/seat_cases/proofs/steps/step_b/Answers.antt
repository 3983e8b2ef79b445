use Rattle.seat_cases.proofs.Hands.{second_goes}
use Rattle.seat_cases.proofs.steps.step_b.Goals as goal

pub returns : goal.returns
returns g c = second_goes _ c.args.two c.step_second-second.result.0 c.step_second-second.result.1 c.requires c.step_second-second.ensures.on c.step_second-second.ensures.sought
