use Rattle.seat_cases.proofs.Hands.{closes, fresh_hand, joined}
use Rattle.seat_cases.proofs.session.close.Goals as goal

pub flush-hand-requires : goal.flush-hand-requires
flush-hand-requires g c = record { hand = fresh_hand _ c.join-seat.result c.join-seat.ensures.seat }

pub close-disk-requires-clause-last : goal.close-disk-requires-clause-last
close-disk-requires-clause-last g c =
    closes _ c.join-seat.result c.flush-hand.result.0
    (joined _ c.args.two.first.seat c.args.two.second.seat c.join-seat.result c.requires.worker c.requires.out c.join-seat.ensures.join c.join-seat.ensures.seat) c.flush-hand.ensures.on
