use Rattle.exchange_run.proofs.commands.run.Goals as goal

pub returns-clause-serves : goal.returns-clause-serves
returns-clause-serves g c = c.run_asked.ensures.runs.serves

pub returns-clause-recovers : goal.returns-clause-recovers
returns-clause-recovers g c = c.run_asked.ensures.runs.recovers

pub returns-clause-compacts : goal.returns-clause-compacts
returns-clause-compacts g c = c.run_asked.ensures.runs.compacts

pub returns-clause-follows : goal.returns-clause-follows
returns-clause-follows g c = c.run_asked.ensures.runs.follows

pub returns-clause-audits : goal.returns-clause-audits
returns-clause-audits g c = c.run_asked.ensures.runs.audits

pub returns-clause-makes : goal.returns-clause-makes
returns-clause-makes g c = c.run_asked.ensures.runs.makes

pub returns-clause-plans : goal.returns-clause-plans
returns-clause-plans g c = c.run_asked.ensures.runs.plans

pub returns-clause-tries : goal.returns-clause-tries
returns-clause-tries g c = c.run_asked.ensures.runs.tries

pub returns-clause-shows : goal.returns-clause-shows
returns-clause-shows g c = c.run_asked.ensures.runs.shows

pub returns-clause-unnamed : goal.returns-clause-unnamed
returns-clause-unnamed g c = c.run_asked.ensures.runs.unnamed
