use Rattle.follower.proofs.Growing.{says_more, stands_then}
use Rattle.follower.proofs.laws.what_was_carried_out_stays.Goals as goal

pub returns-clause-stands : goal.returns-clause-stands
returns-clause-stands c = λ image image' small small' grows s n gate done at. stands_then image image' small grows s n gate done at

pub returns-clause-front : goal.returns-clause-front
returns-clause-front c = λ image image' small small' grows es fs one two. says_more image image' small small' grows es fs one two
