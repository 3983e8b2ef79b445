use Rattle.std.proofs.Common.{◌≤◌, ◌+◌, subst}
use Rattle.std.specs.Prelude.{sum_by}
use Rattle.assign.specs.Rows.{pairs_of}
use Rattle.conj_index.specs.Find.{find_cost}
use Rattle.exchange_state.specs.Finding.{Finds}
use Rattle.exchange_state.specs.Tickets.{version_in}
use Rattle.exchange_state.proofs.Founds.{all_are_found}
use Rattle.index_versions.specs.declared.version.Version.{Version}
use Rattle.rtb_types.specs.declared.request.BidRequest.{BidRequest}
use Rattle.rtb_types.specs.declared.request.Imp.{Imp}
use Rattle.exchange_state.proofs.ticket.Ticket.find_with.Goals as goal

pub returns-in-Ok-clause-found : goal.returns-in-Ok-clause-found
returns-in-Ok-clause-found g c = λ rise is.
    let v = version_in c.args.self.now in
    let r = c.args.request.now in
    let found = c.in-Ok.candidates in
    let finds = subst (λ x. Finds x r found) c.deref.ensures (subst (λ q. Finds c.deref.result.now q found) c.in_ok-asked.ensures c.in-Ok.ensures.found) in
    all_are_found v.live r found (finds rise is)

pub returns-in-Ok-clause-cost : goal.returns-in-Ok-clause-cost
returns-in-Ok-clause-cost g c =
    let r = c.args.request.now in
    subst (λ (v : Version). c.find_all_with.new.steps ≤ c.args.steps.now + sum_by (λ (imp : Imp). find_cost v.index (pairs_of r imp)) r.imps) c.deref.ensures
    (subst (λ (q : BidRequest). c.find_all_with.new.steps ≤ c.args.steps.now + sum_by (λ (imp : Imp). find_cost c.deref.result.now.index (pairs_of q imp)) q.imps) c.in_ok-asked.ensures c.find_all_with.ensures.cost)

pub returns-clause-cost : goal.returns-clause-cost
returns-clause-cost g c =
    let r = c.args.request.now in
    subst (λ (v : Version). c.find_all_with.new.steps ≤ c.args.steps.now + sum_by (λ (imp : Imp). find_cost v.index (pairs_of r imp)) r.imps) c.deref.ensures
    (subst (λ (q : BidRequest). c.find_all_with.new.steps ≤ c.args.steps.now + sum_by (λ (imp : Imp). find_cost c.deref.result.now.index (pairs_of q imp)) q.imps) c.in_ok-asked.ensures c.find_all_with.ensures.cost)
