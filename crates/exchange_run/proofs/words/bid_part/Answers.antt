use Rattle.std.proofs.Common.{sym, ap, take}
use Rattle.exchange_run.specs.Words.{is_at}
use Rattle.exchange_run.proofs.Places.{before_none, place}
use Rattle.exchange_run.proofs.words.bid_part.Goals as goal

pub returns-in-Some : goal.returns-in-Some
returns-in-Some c = ap (λ n. take n c.args.word.now) (sym (place is_at c.args.word.now c.in-Some.at c.in-Some.ensures.place))

pub returns-in-None : goal.returns-in-None
returns-in-None c = before_none is_at c.args.word.now c.in-None.ensures.place
