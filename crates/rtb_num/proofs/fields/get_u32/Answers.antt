use Rattle.std.proofs.Common.{rules}
use Rattle.rtb_num.proofs.fields.get_u32.Goals as goal

pub returns : goal.returns
returns c = search rules
