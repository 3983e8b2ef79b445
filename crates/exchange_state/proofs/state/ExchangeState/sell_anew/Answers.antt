use Rattle.std.proofs.Common.{◌≤◌, ◌+◌, subst, sym}
use Rattle.std.specs.Prelude.{sum_by}
use Rattle.assign.specs.Rows.{pairs_of}
use Rattle.auction_core.specs.Found.{MaySell}
use Rattle.conj_index.specs.Find.{find_cost}
use Rattle.exchange_state.specs.Finding.{Finds, selling_cost}
use Rattle.exchange_state.proofs.Founds.{cost_anew, cost_found, found_anew}
use Rattle.exchange_state.proofs.Small.{counts_small}
use Rattle.index_versions.specs.Recent.{touched_after}
use Rattle.index_versions.specs.declared.version.Version.{Version}
use Rattle.rtb_types.specs.declared.request.Imp.{Imp}
use Rattle.exchange_state.proofs.state.ExchangeState.sell_anew.Goals as goal

pub sell-settled-requires-clause-found : goal.sell-settled-requires-clause-found
sell-settled-requires-clause-found g c =
    let x = c.args.self.now in
    let r = c.args.asked.now in
    let found = c.in-Ok.candidates in
    let finds = subst (λ v. Finds v r found) c.version_of.ensures c.in-Ok.ensures.found in
    subst (λ e. MaySell x.core.state (touched_after e x.recent) r found) (sym c.edit_of-edit.ensures) (found_anew x r found c.requires.stands finds)

pub sell-settled-requires-clause-few : goal.sell-settled-requires-clause-few
sell-settled-requires-clause-few g c =
    let s = c.requires.stands in
    (counts_small s.origin s.list c.args.self.now s.stands s.short).0

pub sell-settled-requires-clause-placed : goal.sell-settled-requires-clause-placed
sell-settled-requires-clause-placed g c =
    let s = c.requires.stands in
    (counts_small s.origin s.list c.args.self.now s.stands s.short).1

pub returns-in-Ok-clause-cost : goal.returns-in-Ok-clause-cost
returns-in-Ok-clause-cost g c = λ o l s.
    let x = c.args.self.now in
    let r = c.args.asked.now in
    let found = c.in-Ok.candidates in
    let mid = c.find_all.new.steps in
    let finds = subst (λ v. Finds v r found) c.version_of.ensures c.in-Ok.ensures.found in
    let searched = subst (λ (v : Version). mid ≤ c.args.steps.now + sum_by (λ (imp : Imp). find_cost v.index (pairs_of r imp)) r.imps) c.version_of.ensures c.in-Ok.ensures.cost in
    let sold = subst (λ e. c.sell-settled.new.steps ≤ mid + selling_cost x.core (touched_after e x.recent) r c.args.moment found) c.edit_of-edit.ensures c.sell-settled.ensures.cost in
    cost_anew o l x c.args.moment r found c.sell-settled.new.steps mid c.args.steps.now s c.requires.stands finds searched sold

pub returns-in-Err-clause-cost : goal.returns-in-Err-clause-cost
returns-in-Err-clause-cost g c = λ o l s.
    let r = c.args.asked.now in
    cost_found o l c.args.self.now r c.find_all.new.steps c.args.steps.now s
    (subst (λ (v : Version). c.find_all.new.steps ≤ c.args.steps.now + sum_by (λ (imp : Imp). find_cost v.index (pairs_of r imp)) r.imps) c.version_of.ensures c.in-Err.ensures.cost)
