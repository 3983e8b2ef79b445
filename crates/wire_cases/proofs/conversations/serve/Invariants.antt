use Rattle.wire_cases.proofs.conversations.serve.Given as goal

abbrev pub ghosts-hold_conversation : goal.ghosts-hold_conversation
ghosts-hold_conversation a = record { name = a.blank.name; parts = a.blank.parts }
