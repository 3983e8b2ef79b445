use Rattle.std.proofs.Common.{◌∙◌, ap, sym}
use Rattle.std.specs.Str.{bytes_eq}
use Rattle.command_read.proofs.Kept.{zero_kept}
use Rattle.command_read.proofs.numbers.number_up_to.Goals as goal

pub returns-then-eq : goal.returns-then-eq
returns-then-eq c = zero_kept c.args.most c.args.text.now (sym (ap (bytes_eq c.args.text.now) c.as_slice.ensures) ∙ sym c.eq.ensures ∙ c.if-eq.true)
