use Rattle.made_run.proofs.finding.index_of.Given as goal

abbrev pub ghosts-index_counted : goal.ghosts-index_counted
ghosts-index_counted a = record { name = a.blank.name; parts = a.blank.parts }
