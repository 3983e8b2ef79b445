use Rattle.std.proofs.Common.{◌≡◌, take}
use Rattle.exchange_run.specs.Exchange.{opening}
use Rattle.exchange_run.specs.Making.{campaigns_named}
use Rattle.exchange_run.proofs.Additions.{AreNamed, IsSmallState}
use Rattle.exchange_run.proofs.opening.add_campaigns.Given as goal

-- the exchange of the words so far
abbrev pub invariant-loop-word : goal.invariant-loop-word
invariant-loop-word l =
    record {
      counted : l.number ≡ l.word-index;
      named : AreNamed l.words l.word-index;
      state : l.core.state ≡ opening (campaigns_named (take l.word-index l.words));
      small : IsSmallState l.word-index l.core.state;
      held : l.core.settings ≡ l.fn.core.settings;
      edits : l.core.edits ≡ l.word-index;
    }
