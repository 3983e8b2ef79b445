use Rattle.std.proofs.Common.{◌∙◌, ap}
use Rattle.cnf_match.specs.declared.index.CnfIndex.{CnfIndex}
use Rattle.cnf_match.proofs.Built.{index_is}
use Rattle.cnf_match.proofs.index.CnfIndex.build.Goals as goal

pub returns : goal.returns
returns c =
    let parts = c.made.ensures in
    index_is c.as_slice-exprs.result.now c.args.exprs.now c.in_ok-keys.field-0 c.made.result c.as_slice-exprs.ensures c.requires c.in_ok-negated.ensures.kept c.in_ok-keys.ensures
    (ap (λ (x : CnfIndex). x.keys) parts)
    (ap (λ (x : CnfIndex). x.lists) parts ∙ c.in_ok-lists.ensures)
    (ap (λ (x : CnfIndex). x.zeros) parts ∙ c.in_ok-zeros.ensures)
    (ap (λ (x : CnfIndex). x.negated) parts ∙ c.in_ok-negated.ensures.negated)
