use Rattle.campaign.proofs.copy.copy_creative.Goals as goal

pub returns : goal.returns
returns c =
    let p = c.args.parts.now in
    let texts = c.in_ok-texts.ensures.made p.adm p.crid c.in_ok-adm.ensures c.copy-2.ensures in
    c.pair_with-2.ensures.made (p.adm, p.crid) p.adid texts c.copy_optional.ensures
