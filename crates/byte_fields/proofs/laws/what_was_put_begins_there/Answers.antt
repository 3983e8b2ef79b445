use Rattle.byte_fields.proofs.laws.what_was_put_begins_there.Goals as goal
use Rattle.byte_fields.proofs.Codes.{begins_put}

pub returns : goal.returns
returns c = begins_put
