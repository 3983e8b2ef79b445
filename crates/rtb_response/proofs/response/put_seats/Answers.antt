use Rattle.std.proofs.Common.{◌≡◌, ◌++◌, ◌∷◌, [], ◌∙◌, ap, arith, cond, map, sym, take}
use Rattle.std.specs.List.{list_any}
use Rattle.std.specs.Option.{option_copied}
use Rattle.std.proofs.lemmas.List.{take_all, take_more}
use Rattle.json_out.specs.Inside.{in_array}
use Rattle.json_out.specs.Texts.{array_text}
use Rattle.json_out.specs.Writer.{can_end, end, put_value, takes_value}
use Rattle.json_out.proofs.Objects.{array_ends}
use Rattle.rtb_response.specs.Response.{is_of_seat, seat_of, seat_text, seats_of}
use Rattle.rtb_response.proofs.Joined.{element_unless}
use Rattle.rtb_response.proofs.Seats.{no_seats, seats_push, unless_mapped}
use Rattle.rtb_response.proofs.response.put_seats.Goals as goal

pub loop-place-init : goal.loop-place-init
loop-place-init c =
    let text = seat_text (option_copied c.args.public) c.args.keys.now c.args.request.now c.args.sold.now in
    c.in_ok-arr.ensures.ok ∙ ap (λ l. in_array c.args.writer.now (map text l)) (sym no_seats)

pub put_new_seat-requires : goal.put_new_seat-requires
put_new_seat-requires c = ap takes_value c.loop-place.invariant

pub loop-place-preserved : goal.loop-place-preserved
loop-place-preserved c =
    let text = seat_text (option_copied c.args.public) c.args.keys.now c.args.request.now c.args.sold.now in
    let sold = c.args.sold.now in
    let k = c.loop-place.place in
    let d = c.index-sold-place.result in
    let start = c.args.writer.now in
    let is_there = list_any (is_of_seat (seat_of d)) (take k sold) in
    let more = take_more sold k d c.loop-place-test.true ∙ ap (λ s. take k sold ++ s ∷ []) (sym c.index-sold-place.is) in
    c.in_ok-put_new_seat.ensures ∙ ap (λ v. cond is_there v (put_value v (text (seat_of d)))) c.loop-place.invariant
    ∙ element_unless start (map text (seats_of (take k sold))) is_there (text (seat_of d))
    ∙ ap (in_array start) (sym (ap (λ l. map text (seats_of l)) more ∙ ap (map text) (seats_push (take k sold) d) ∙ unless_mapped text (seats_of (take k sold)) is_there (seat_of d)))

pub end-requires : goal.end-requires
end-requires c = ap can_end c.loop-place.invariant

pub returns : goal.returns
returns c =
    let text = seat_text (option_copied c.args.public) c.args.keys.now c.args.request.now c.args.sold.now in
    let all : take c.loop-place.place c.args.sold.now ≡ c.args.sold.now = take_all _ _ (omega (arith, c.loop-place-test.false)) in
    c.in_ok-end.ensures.ok ∙ ap end c.loop-place.invariant ∙ array_ends c.args.writer.now (map text (seats_of (take c.loop-place.place c.args.sold.now)))
    ∙ ap (λ l. put_value c.args.writer.now (array_text (map text (seats_of l)))) all
