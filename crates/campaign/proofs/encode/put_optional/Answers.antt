use Rattle.std.proofs.Common.{rules}
use Rattle.campaign.proofs.encode.put_optional.Goals as goal

pub returns-in-Some-clause-ok : goal.returns-in-Some-clause-ok
returns-in-Some-clause-ok c = search rules
