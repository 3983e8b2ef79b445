use Rattle.run_words.proofs.which.which_command.Goals as goal

pub returns : goal.returns
returns c = c.new.ensures.app
