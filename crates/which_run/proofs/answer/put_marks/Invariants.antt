use Rattle.std.proofs.Common.{◌≡◌, map, take}
use Rattle.json_out.specs.Inside.{in_array}
use Rattle.which_run.specs.Texts.{mark_text}
use Rattle.which_run.proofs.answer.put_marks.Given as goal

-- the elements so far were written
abbrev pub invariant-loop-mark : goal.invariant-loop-mark
invariant-loop-mark l = l.writer ≡ in_array l.fn.writer (map mark_text (take l.mark-index l.marks))
