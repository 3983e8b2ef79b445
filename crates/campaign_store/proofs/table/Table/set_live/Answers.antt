use Rattle.std.proofs.Common.{◌-◌, ◌≤◌, length, sym, subst, arith}
use Rattle.campaign_store.specs.Table.{TableState, with_live}
use Rattle.campaign_store.proofs.Counting.{table_turned, changed_at, edited}
use Rattle.campaign_store.proofs.table.Table.set_live.Goals as goal

pub invariant_of-self : goal.invariant_of-self
invariant_of-self c =
    let there = subst (λ (v : TableState). c.args.n ≤ length v.campaigns) (sym c.self.view_is) c.requires.there.1 in
    table_turned c.self.inside.campaigns.items (c.args.n - 1) c.index_mut.result.now c.args.live c.self.inside.total (omega (arith, c.requires.there.0, there)) (sym c.index_mut.ensures.value) c.self.invariant

pub returns : goal.returns
returns c =
    let cs = c.self.inside.campaigns.items in
    let there = subst (λ (v : TableState). c.args.n ≤ length v.campaigns) (sym c.self.view_is) c.requires.there.1 in
    let changed = changed_at (with_live c.args.live) cs c.args.n c.index_mut.result.now c.requires.there.0 there (sym c.index_mut.ensures.value) in
    edited (with_live c.args.live) c.args.n cs _ c.self.inside.edits (c.self.inside.campaigns.cap - c.self.inside.campaigns.len) c.args.self.now changed c.self.view_is
