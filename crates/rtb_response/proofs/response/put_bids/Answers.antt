use Rattle.std.proofs.Common.{◌≡◌, ◌++◌, ◌∷◌, [], ◌∙◌, ap, arith, cond, sym, take}
use Rattle.std.specs.Option.{option_copied}
use Rattle.std.proofs.lemmas.List.{take_all, take_more}
use Rattle.json_out.specs.Inside.{in_array}
use Rattle.json_out.specs.Texts.{array_text}
use Rattle.json_out.specs.Writer.{can_end, end, put_value, takes_value}
use Rattle.json_out.proofs.Objects.{array_ends}
use Rattle.rtb_response.specs.Response.{bid_text, is_of_seat, seat_bids}
use Rattle.rtb_response.proofs.Joined.{element_if}
use Rattle.rtb_response.proofs.Seats.{bids_push}
use Rattle.rtb_response.proofs.response.put_bids.Goals as goal

pub loop-sale-init : goal.loop-sale-init
loop-sale-init c = c.in_ok-arr.ensures.ok

pub put_bid_of-requires : goal.put_bid_of-requires
put_bid_of-requires c = ap takes_value c.loop-sale.invariant

pub loop-sale-preserved : goal.loop-sale-preserved
loop-sale-preserved c =
    let public = option_copied c.args.public in
    let keys = c.args.keys.now in
    let r = c.args.request.now in
    let sold = c.args.sold.now in
    let seat = c.args.seat.now in
    let k = c.loop-sale.sale-index in
    let d = c.sale-item.result in
    let start = c.args.writer.now in
    let bids = seat_bids public keys r (take k sold) seat in
    let more = take_more sold k d c.loop-sale-test.true ∙ ap (λ s. take k sold ++ s ∷ []) (sym c.sale-item.is) in
    c.in_ok-put_bid_of.ensures ∙ ap (λ v. cond (is_of_seat seat d) (put_value v (bid_text public keys r d)) v) c.loop-sale.invariant
    ∙ element_if start bids (is_of_seat seat d) (bid_text public keys r d)
    ∙ ap (in_array start) (sym (ap (λ l. seat_bids public keys r l seat) more ∙ bids_push public keys r (take k sold) d seat))

pub end-requires : goal.end-requires
end-requires c = ap can_end c.loop-sale.invariant

pub returns : goal.returns
returns c =
    let public = option_copied c.args.public in
    let keys = c.args.keys.now in
    let r = c.args.request.now in
    let all : take c.loop-sale.sale-index c.args.sold.now ≡ c.args.sold.now = take_all _ _ (omega (arith, c.loop-sale-test.false)) in
    c.in_ok-end.ensures.ok ∙ ap end c.loop-sale.invariant ∙ array_ends c.args.writer.now (seat_bids public keys r (take c.loop-sale.sale-index c.args.sold.now) c.args.seat.now)
    ∙ ap (λ l. put_value c.args.writer.now (array_text (seat_bids public keys r l c.args.seat.now))) all
