use Rattle.door_worker.proofs.messages.sell_found.Given as goal

abbrev pub ghosts-find : goal.ghosts-find
ghosts-find g a = record { name = a.blank.name; parts = a.blank.parts }

abbrev pub ghosts-settle : goal.ghosts-settle
ghosts-settle g a = record { name = a.blank.name; parts = a.blank.parts }
