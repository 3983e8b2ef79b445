use Rattle.std.proofs.Common.{◌≡◌, subst}
use Rattle.std.specs.Prelude.{IfOk}
use Rattle.campaign.proofs.copy.copy_names.Goals as goal

pub returns : goal.returns
returns c =
    let p = c.args.parts.now in
    let texts = c.in_ok-texts.ensures.made p.seat p.adomain c.in_ok-seat.ensures c.copy-2.ensures in
    c.pair_with-2.ensures.made (p.seat, p.adomain) p.cat texts (subst (λ l. IfOk c.copy_texts.result (λ ts. ts ≡ l)) c.as_slice.ensures c.copy_texts.ensures)
