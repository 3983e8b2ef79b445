use Rattle.seat_cases.proofs.Hands.{goes_failing, goes_writing}
use Rattle.seat_cases.proofs.seats.keep.Goals as goal

pub returns-in-Ok : goal.returns-in-Ok
returns-in-Ok g c = goes_writing _ c.args.hand c.in-Ok.kept c.in-Ok.ensures.seat c.requires.hand c.in-Ok.ensures.written

pub returns-in-Err : goal.returns-in-Err
returns-in-Err g c = goes_failing _ c.args.hand c.in-Err.failed.seat c.in-Err.ensures.seat c.requires.hand c.in-Err.ensures.failed
