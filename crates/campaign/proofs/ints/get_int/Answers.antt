use Rattle.campaign.proofs.ints.get_int.Goals as goal
use Rattle.campaign.proofs.Decoding.{int_too_large}

pub returns-then-n : goal.returns-then-n
returns-then-n c =
    int_too_large c.args.bytes.now c.args.place c.in_ok-n.n c.in_ok-n.next c.in_ok-n.ensures c.if-n.true
