use Rattle.std.proofs.Common.{◌-◌, ◌≤◌, length, set, ap, sym, subst, ◌∙◌, arith}
use Rattle.campaign_store.specs.declared.counts.Counts.{Counts}
use Rattle.campaign_store.specs.Counts.{AreParts, counts_of, minus, plus, total_of}
use Rattle.campaign_store.specs.Table.{TableState, entries_of}
use Rattle.campaign_store.proofs.Counting.{parts_there, part_exchanged}
use Rattle.campaign_store.proofs.table.Table.total_without.Goals as goal

pub minus-requires : goal.minus-requires
minus-requires c =
    let cs = c.self.inside.campaigns.items in
    let there = subst (λ (v : TableState). c.args.n ≤ length v.campaigns) (sym c.self.view_is) c.requires.there.1 in
    let parts = parts_there cs (c.args.n - 1) c.index-campaign.result.now (omega (arith, c.requires.there.0, there)) (sym c.index-campaign.ensures) in
    subst (λ (a : Counts). AreParts a c.counts.result) (sym c.self.invariant.counted) (subst (λ (b : Counts). AreParts (total_of (entries_of cs)) b) (sym c.counts.ensures.value) parts)

pub returns-clause-value : goal.returns-clause-value
returns-clause-value c = λ r.
    let cs = c.self.inside.campaigns.items in
    let there = subst (λ (v : TableState). c.args.n ≤ length v.campaigns) (sym c.self.view_is) c.requires.there.1 in
    ap (λ (a : Counts). plus a (counts_of r)) c.minus.ensures
    ∙ ap (λ (a : Counts). plus (minus a c.counts.result) (counts_of r)) c.self.invariant.counted
    ∙ ap (λ (a : Counts). plus (minus (total_of (entries_of cs)) a) (counts_of r)) c.counts.ensures.value
    ∙ part_exchanged cs (c.args.n - 1) c.index-campaign.result.now r (omega (arith, c.requires.there.0, there)) (sym c.index-campaign.ensures)
    ∙ ap (λ (v : TableState). total_of (set (entries_of v.campaigns) (c.args.n - 1) r)) c.self.view_is
