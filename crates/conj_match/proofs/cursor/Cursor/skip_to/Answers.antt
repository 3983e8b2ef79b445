use Rattle.std.proofs.Common.{◌∙◌, sym}
use Rattle.conj_match.proofs.Skips.{stays_first}
use Rattle.conj_match.proofs.cursor.Cursor.skip_to.Goals as goal

pub returns-then-not-falls_short-clause-first : goal.returns-then-not-falls_short-clause-first
returns-then-not-falls_short-clause-first g c = stays_first c.args.id c.args.self.now c.requires c.falls_short.ensures.within (sym c.falls_short.ensures.value ∙ c.if-not-falls_short.true)
