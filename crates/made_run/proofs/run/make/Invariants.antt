use Rattle.made_run.proofs.run.make.Given as goal

-- the counter of steps that the blank names
abbrev pub ghosts-make_on : goal.ghosts-make_on
ghosts-make_on g a = record { name = a.blank.name; parts = a.blank.parts }
