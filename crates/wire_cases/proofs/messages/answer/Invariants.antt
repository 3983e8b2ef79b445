use Rattle.wire_cases.proofs.messages.answer.Given as goal

abbrev pub ghosts-put_message_of : goal.ghosts-put_message_of
ghosts-put_message_of a = record { name = a.blank.name; parts = a.blank.parts }
