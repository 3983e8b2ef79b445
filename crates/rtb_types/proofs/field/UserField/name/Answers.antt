use Rattle.std.proofs.Common.{rules}
use Rattle.rtb_types.proofs.field.UserField.name.Goals as goal

pub returns-in-Yob : goal.returns-in-Yob
returns-in-Yob c = search rules
