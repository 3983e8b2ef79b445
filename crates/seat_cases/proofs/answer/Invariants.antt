use Rattle.seat_cases.proofs.answer.Given as goal

-- the counter of steps that the blank names
abbrev pub ghosts-answer_with : goal.ghosts-answer_with
ghosts-answer_with g a = record { name = a.blank.name; parts = a.blank.parts }
