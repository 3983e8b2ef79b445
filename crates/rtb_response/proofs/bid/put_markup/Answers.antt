use Rattle.std.proofs.Common.{◌≡◌, ◌∙◌, OnOk, ap, codes, subst, sym}
use Rattle.campaign_store.specs.declared.record.Record.{Record}
use Rattle.json_out.specs.Inside.{put_member}
use Rattle.rtb_macros.specs.Macros.{filled_in}
use Rattle.rtb_response.specs.Response.{macro_values as values_of, text_member}
use Rattle.rtb_response.proofs.bid.put_markup.Goals as goal

-- without a macro the markup stays as it is
pub returns-clause-ok : goal.returns-clause-ok
returns-clause-ok c =
    let v = values_of c.args.request.now c.args.sale.now in
    let markup_is = c.as_bytes-markup.ensures.value ∙ c.adm.ensures ∙ ap (λ (r : Record). r.facts.adm) c.record.ensures in
    let stays = sym (c.may_have_macros.ensures.none c.if-may_have_macros.false v) ∙ ap (filled_in v) markup_is in
    subst (λ t. OnOk c.put_text.result (c.put_text.new.self ≡ put_member c.args.writer.now (text_member (codes "adm") t))) stays c.put_text.ensures.ok
