use Rattle.exchange_run.proofs.auction.reply_of.Given as goal

-- the counter of steps that the blank names
abbrev pub ghosts-find_campaigns : goal.ghosts-find_campaigns
ghosts-find_campaigns a = record { name = a.blank.name; parts = a.blank.parts }
