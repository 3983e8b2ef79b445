use Rattle.std.proofs.Common.{◌≡◌, map, take}
use Rattle.std.specs.Option.{option_copied}
use Rattle.json_out.specs.Inside.{in_array}
use Rattle.rtb_response.specs.Response.{seat_text, seats_of}
use Rattle.rtb_response.proofs.response.put_seats.Given as goal

-- the seats of the sales so far were written
abbrev pub invariant-loop-place : goal.invariant-loop-place
invariant-loop-place l = l.writer ≡ in_array l.fn.writer (map (seat_text (option_copied l.fn.public) l.fn.keys l.fn.request l.fn.sold) (seats_of (take l.place l.fn.sold)))
