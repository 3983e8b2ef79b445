use Rattle.std.proofs.Common.{map, length, nat_lt}
use Rattle.exact_json.specs.View.{tree_of}
use Rattle.json_fields.specs.Readings.{each_in, map_value}
use Rattle.json_fields.proofs.First.{answers_behind}
use Rattle.which_read.specs.declared.fault.WhichFault.{WhichFault}
use Rattle.which_read.specs.declared.field.WhichField.{WhichField}
use Rattle.which_read.specs.Made.{judged_from}
use Rattle.which_read.specs.Parts.{fault_where}
use Rattle.which_read.specs.Request.{expression_at, written_in}
use Rattle.which_read.proofs.Few.{few_enough, too_many}
use Rattle.which_read.proofs.expressions.some_expressions.Goals as goal

pub returns-then-values-gt-MOST_EXPRESSIONS : goal.returns-then-values-gt-MOST_EXPRESSIONS
returns-then-values-gt-MOST_EXPRESSIONS c = too_many tree_of c.args.values.now c.if-values-gt-MOST_EXPRESSIONS.true

pub returns : goal.returns
unfolding written_in
returns c =
    answers_behind WhichFault.Memory (fault_where (nat_lt 4096 (length (map tree_of c.args.values.now))) (WhichFault.Range WhichField.Expressions)) (map_value (judged_from c.args.assignment.now) (each_in expression_at (map tree_of c.args.values.now))) c.all_expressions.result
    (few_enough tree_of c.args.values.now c.if-values-gt-MOST_EXPRESSIONS.false) c.all_expressions.ensures
