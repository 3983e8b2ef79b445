use Rattle.std.proofs.Common.{rules}
use Rattle.http_wire.proofs.fields.body_length.Goals as goal

pub returns-then-has_named-clause-value : goal.returns-then-has_named-clause-value
returns-then-has_named-clause-value c = search rules

pub returns-in_default-clause-value : goal.returns-in_default-clause-value
returns-in_default-clause-value c = search rules

pub returns-then-length-gt-MOST_BODY-clause-value : goal.returns-then-length-gt-MOST_BODY-clause-value
returns-then-length-gt-MOST_BODY-clause-value c = search rules

pub returns-then-not-is_plain-clause-value : goal.returns-then-not-is_plain-clause-value
returns-then-not-is_plain-clause-value c = search rules

pub returns-clause-value : goal.returns-clause-value
returns-clause-value c = search rules
