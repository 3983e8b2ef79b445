-- A request as it is kept: each of its expressions judged for the assignment.
use Rattle.std.specs.Prelude.{map}
use Rattle.top_match.specs.Certificate.{reason}
use Rattle.which_read.specs.declared.request.Judged.{Judged}
use Rattle.which_read.specs.Request.{Request}

-- why each expression would not be chosen: its first clause that is false, or else its score
abbrev pub judged : Request → Judged
judged r = record { n = r.n; reasons = map (reason r.assignment) r.expressions }
