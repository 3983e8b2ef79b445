use Rattle.rtb_bench.proofs.served.serve_signed.Given as goal

-- the counter of steps that the blank names
abbrev pub ghosts-serve_disk : goal.ghosts-serve_disk
ghosts-serve_disk g a = record { name = a.blank.name; parts = a.blank.parts }
