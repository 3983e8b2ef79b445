use Rattle.request_cases.proofs.targeting.put_truth.Given as goal

abbrev pub ghosts-holds_by : goal.ghosts-holds_by
ghosts-holds_by a = record { name = a.blank.name; parts = a.blank.parts }
