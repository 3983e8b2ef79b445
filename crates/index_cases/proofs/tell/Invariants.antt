use Rattle.index_cases.proofs.tell.Given as goal

-- the counter of steps that the blank names
abbrev pub ghosts-put_found : goal.ghosts-put_found
ghosts-put_found a = record { name = a.blank.name; parts = a.blank.parts }
