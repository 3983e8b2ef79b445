use Rattle.std.proofs.Common.{◌+◌, sym, ap, ◌∙◌, ◌++◌, take}
use Rattle.std.specs.List.{enumerate_from, flat_map}
use Rattle.campaign_store.specs.Table.{live_record}
use Rattle.campaign_store.proofs.Numbering.{one_campaign_more, no_campaign_more}
use Rattle.campaign_store.proofs.table.list_live.Goals as goal

pub loop-place-preserved : goal.loop-place-preserved
loop-place-preserved c =
    let item = c.index-campaigns-place.result in
    c.in_ok-push_live.ensures
    ∙ ap (λ ls. ls ++ live_record (c.loop-place.place + 1, item)) c.loop-place.invariant
    ∙ ap (λ x. flat_map live_record (take c.loop-place.place (enumerate_from 1 c.args.campaigns.now)) ++ live_record (c.loop-place.place + 1, x)) c.index-campaigns-place.is
    ∙ sym (one_campaign_more c.args.campaigns.now c.loop-place.place item c.loop-place-test.true)

pub returns : goal.returns
returns c = c.loop-place.invariant ∙ no_campaign_more c.args.campaigns.now c.loop-place.place c.loop-place-test.false
