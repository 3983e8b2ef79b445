use Rattle.door_worker.proofs.messages.publish_edit.Given as goal

abbrev pub ghosts-renew : goal.ghosts-renew
ghosts-renew g a = record { name = a.blank.name; parts = a.blank.parts }
