use Rattle.effects.proofs.Bodied.{change_found, change_no_tag}
use Rattle.effects.proofs.decoder.get_change.Goals as goal

pub returns-in_default : goal.returns-in_default
returns-in_default c = change_no_tag c.args.bytes.now c.args.place c.in_default.ensures

pub returns : goal.returns
returns c = change_found c.args.bytes.now c.args.place c.in-Some.next c.in-Some.tag c.get_body.result c.in-Some.ensures c.get_body.ensures
