use Rattle.std.proofs.Common.{◌≡◌, ◌∙◌, ℕ, List, Option, ap, subst}
use Rattle.std.specs.Prelude.{IfOk}
use Rattle.campaign_store.specs.declared.record.Record.{Record}
use Rattle.rtb_macros.specs.declared.filling.MacroValues.{MacroValues}
use Rattle.rtb_response.specs.Response.{macro_values as values_of}
use Rattle.rtb_response.proofs.bid.macro_values.Goals as goal

abbrev values_from : List ℕ → List ℕ → List ℕ → List ℕ → Option (List ℕ) → List ℕ → MacroValues
values_from auction bid imp seat ad price = record { auction = auction; bid = bid; imp = imp; seat = seat; ad = ad; price = price }

pub returns : goal.returns
returns c =
    let v = values_of c.args.request.now c.args.sale.now in
    let seat_is = c.seat.ensures ∙ ap (λ (r : Record). r.facts.seat) c.record.ensures in
    let ad_is = c.adid.ensures ∙ ap (λ (r : Record). r.facts.adid) c.record.ensures in
    let imp = subst (λ t. IfOk c.from_slice.result (λ y. y ≡ t)) c.imp_id.ensures c.from_slice.ensures in
    let seat = subst (λ t. IfOk c.copy-2.result (λ y. y ≡ t)) seat_is c.copy-2.ensures in
    let ad = subst (λ t. IfOk c.copy_if_some.result (λ y. y ≡ t)) ad_is c.copy_if_some.ensures in
    let one = c.in_ok-one.ensures.made v.auction v.bid c.in_ok-auction.ensures c.digits.ensures in
    let two = c.in_ok-two.ensures.made (v.auction, v.bid) v.imp one imp in
    let three = c.in_ok-three.ensures.made ((v.auction, v.bid), v.imp) v.seat two seat in
    let four = c.in_ok-four.ensures.made (((v.auction, v.bid), v.imp), v.seat) v.ad three ad in
    let all = c.in_ok-all.ensures.made ((((v.auction, v.bid), v.imp), v.seat), v.ad) v.price four c.price.ensures in
    ap (λ x. values_from x.0.0.0.0.0 x.0.0.0.0.1 x.0.0.0.1 x.0.0.1 x.0.1 x.1) all
