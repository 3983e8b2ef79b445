use Rattle.std.proofs.Common.{rules}
use Rattle.rtb_response.proofs.bid.put_text_if_some.Goals as goal

pub returns-in-None-clause-ok : goal.returns-in-None-clause-ok
returns-in-None-clause-ok c = search rules
