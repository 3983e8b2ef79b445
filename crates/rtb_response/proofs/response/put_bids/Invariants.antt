use Rattle.std.proofs.Common.{◌≡◌, take}
use Rattle.std.specs.Option.{option_copied}
use Rattle.json_out.specs.Inside.{in_array}
use Rattle.rtb_response.specs.Response.{seat_bids}
use Rattle.rtb_response.proofs.response.put_bids.Given as goal

-- the seat's bids among the sales so far were written
abbrev pub invariant-loop-sale : goal.invariant-loop-sale
invariant-loop-sale l = l.writer ≡ in_array l.fn.writer (seat_bids (option_copied l.fn.public) l.fn.keys l.fn.request (take l.sale-index l.sold) l.fn.seat)
