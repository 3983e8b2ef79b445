use Rattle.door_worker.proofs.messages.tell.Given as goal

abbrev pub ghosts-publish_edit : goal.ghosts-publish_edit
ghosts-publish_edit g a = record { name = a.blank.name; parts = a.blank.parts }
