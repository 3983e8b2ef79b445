use Rattle.std.proofs.Common.{rules}
use Rattle.campaign_store.proofs.counts.Counts.first_passed.Goals as goal

pub returns-then-self-gt-MOST_CONJUNCTIONS : goal.returns-then-self-gt-MOST_CONJUNCTIONS
returns-then-self-gt-MOST_CONJUNCTIONS c = search rules

pub returns-then-self-gt-MOST_VALUES : goal.returns-then-self-gt-MOST_VALUES
returns-then-self-gt-MOST_VALUES c = search rules

pub returns-then-self-gt-MOST_TEXT_BYTES : goal.returns-then-self-gt-MOST_TEXT_BYTES
returns-then-self-gt-MOST_TEXT_BYTES c = search rules

pub returns-else-self-gt-MOST_TEXT_BYTES : goal.returns-else-self-gt-MOST_TEXT_BYTES
returns-else-self-gt-MOST_TEXT_BYTES c = search rules
