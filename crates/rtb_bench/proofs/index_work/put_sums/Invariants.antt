use Rattle.rtb_bench.proofs.index_work.put_sums.Given as goal

-- the counter of steps that the blank names
abbrev pub ghosts-sums_of : goal.ghosts-sums_of
ghosts-sums_of a = record { name = a.blank.name; parts = a.blank.parts }
