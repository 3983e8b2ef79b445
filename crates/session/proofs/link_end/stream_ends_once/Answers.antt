use Rattle.session.proofs.Ends.{messages_once}
use Rattle.session.proofs.link_end.stream_ends_once.Goals as goal

pub returns : goal.returns
returns c = record { once = messages_once 0 }
