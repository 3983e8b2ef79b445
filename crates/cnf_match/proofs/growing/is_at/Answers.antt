use Rattle.std.proofs.Common.{◌∙◌, sym}
use Rattle.cnf_match.proofs.Entering.{key_there}
use Rattle.cnf_match.proofs.growing.is_at.Goals as goal

pub returns-in-Some : goal.returns-in-Some
returns-in-Some c h =
    key_there c.args.map.now.entries c.args.place c.in-Some.key.now (record { attr = c.args.attr; value = c.args.value.now }) tt c.in-Some.ensures.entry (sym c.is_of.ensures ∙ h)
