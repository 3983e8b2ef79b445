use Rattle.std.proofs.Common.{◌≡◌, map, take}
use Rattle.json_out.specs.Inside.{in_array}
use Rattle.which_run.specs.Texts.{scored_text}
use Rattle.which_run.proofs.answer.put_best.Given as goal

-- the elements so far were written
abbrev pub invariant-loop-scored : goal.invariant-loop-scored
invariant-loop-scored l = l.writer ≡ in_array l.fn.writer (map scored_text (take l.scored-index l.best))
