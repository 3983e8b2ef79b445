use Rattle.std.proofs.Common.{◌≡◌, take}
use Rattle.std.specs.List.{fold}
use Rattle.deal_rules.specs.Marks.{with_mark}
use Rattle.deal_rules.proofs.texts.set_marks.Given as goal

abbrev pub invariant-loop-text : goal.invariant-loop-text
invariant-loop-text l = l.marks ≡ fold with_mark l.fn.marks (take l.text-index l.texts)
