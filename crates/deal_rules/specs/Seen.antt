-- An opportunity as the code has it. Only private clauses cite this file.
use Rattle.deal_rules.specs.declared.opportunity.Opportunity.{Opportunity as Held}
use Rattle.deal_rules.specs.Rules.{Opportunity, opportunity_of}

abbrev pub opportunity_seen : Held → Opportunity
opportunity_seen h = opportunity_of h.asked.now h.imp.now h.facts.now h.free h.shown
