use Rattle.rtb_bench.proofs.plans.finds_for.Given as goal

-- the counter of steps that the blank names
abbrev pub ghosts-sum_of : goal.ghosts-sum_of
ghosts-sum_of a = record { name = a.blank.name; parts = a.blank.parts }
