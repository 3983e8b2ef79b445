use Rattle.std.proofs.Common.{◌-◌, ◌≤◌, length, set, ap, sym, subst, ◌∙◌}
use Rattle.campaign_store.specs.Limits.{passed_limit}
use Rattle.campaign_store.specs.Counts.{total_of}
use Rattle.campaign_store.specs.Table.{TableState, entries_of, with_entry}
use Rattle.campaign_store.proofs.Counting.{table_changed, changed_at, edited}
use Rattle.campaign_store.proofs.table.Table.change.Goals as goal

pub invariant_of-self : goal.invariant_of-self
invariant_of-self c =
    let cs = c.self.inside.campaigns.items in
    let e = c.args.entry in
    let total = c.total_with-self-inside.ensures e (sym c.counts.ensures.value) in
    let counted = total ∙ ap (λ (v : TableState). total_of (set (entries_of v.campaigns) (c.args.n - 1) e)) (sym c.self.view_is) in
    let within = ap (λ (v : TableState). passed_limit (set (entries_of v.campaigns) (c.args.n - 1) e)) c.self.view_is ∙ c.requires.room in
    table_changed cs (c.args.n - 1) c.index_mut.result.now.live e c.total_with-self-inside.result counted within

pub returns : goal.returns
returns c =
    let cs = c.self.inside.campaigns.items in
    let there = subst (λ (v : TableState). c.args.n ≤ length v.campaigns) (sym c.self.view_is) c.requires.there.1 in
    let changed = changed_at (with_entry c.args.entry) cs c.args.n c.index_mut.result.now c.requires.there.0 there (sym c.index_mut.ensures.value) in
    edited (with_entry c.args.entry) c.args.n cs _ c.self.inside.edits (c.self.inside.campaigns.cap - c.self.inside.campaigns.len) c.args.self.now changed c.self.view_is
