use Rattle.door_worker.proofs.Answering.{refused}
use Rattle.door_worker.specs.Languages.{rtb}
use Rattle.door_worker.proofs.messages.answer.Goals as goal

pub returns-in-Err-clause-answers : goal.returns-in-Err-clause-answers
returns-in-Err-clause-answers g c = refused (rtb c.args.tools.now.public.now c.args.tools.now.keys.now) c.args.moment c.args.message.now c.args.seat c.in-Err.fault c.given_unread.result c.requires.seat.free c.in-Err.ensures.read c.given_unread.ensures.given
