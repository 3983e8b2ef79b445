use Rattle.std.proofs.Common.{refl}
use Rattle.exchange_run.specs.Making.{campaigns_named}
use Rattle.exchange_run.proofs.Campaigns.{are_named}
use Rattle.exchange_run.proofs.Replies.{ends}
use Rattle.exchange_run.proofs.try_command.reply_line.Goals as goal

pub returns-clause-replies : goal.returns-clause-replies
returns-clause-replies c = record {
  named = campaigns_named c.args.words.now;
  are_named = are_named c.args.words.now c.requires.campaigns;
  reply = c.in_ok-reply.reply;
  is_reply = c.in_ok-reply.ensures;
  status_is = refl;
  text_is = c.in_ok-push.ensures.ok;
}

pub returns-clause-ends : goal.returns-clause-ends
returns-clause-ends c = ends (campaigns_named c.args.words.now) c.args.bytes.now c.in_ok-reply.reply c.in_ok-reply.ensures
