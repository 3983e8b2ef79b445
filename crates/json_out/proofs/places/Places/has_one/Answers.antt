use Rattle.std.proofs.Common.{rules}
use Rattle.json_out.proofs.places.Places.has_one.Goals as goal

pub returns-in-Some-Array-true : goal.returns-in-Some-Array-true
returns-in-Some-Array-true c = search rules
