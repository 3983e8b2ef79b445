use Rattle.std.proofs.Common.{rules}
use Rattle.json_out.proofs.places.Places.closing.Goals as goal

pub returns-in-Some-Array : goal.returns-in-Some-Array
returns-in-Some-Array c = search rules
