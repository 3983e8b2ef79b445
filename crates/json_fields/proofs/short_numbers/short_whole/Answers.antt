use Rattle.std.proofs.Common.{◌∙◌, sym, Option, ℤ, ap}
use Rattle.std.specs.Prelude.{IfSome}
use Rattle.json_fields.proofs.Short.{whole_of_digits}
use Rattle.json_fields.proofs.short_numbers.short_whole.Goals as goal

pub returns-in-Some : goal.returns-in-Some
returns-in-Some c = let e = c.in-Some.ensures in whole_of_digits c.args.text.now c.in-Some.number c.signed.result e.digits e.value e.bound c.signed.ensures
