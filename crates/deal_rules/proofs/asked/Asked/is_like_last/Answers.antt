use Rattle.std.proofs.Common.{◌≡◌, ◌-◌, subst}
use Rattle.deal_rules.proofs.Places.{same_place}
use Rattle.rtb_types.specs.declared.request.Imp.{Imp}
use Rattle.deal_rules.proofs.asked.Asked.is_like_last.Goals as goal

pub returns-clause-like : goal.returns-clause-like
returns-clause-like c = λ i j before at e.
    let imps = c.args.self.now.imps in
    let here = same_place c.imps-imps.result.now imps c.args.imp c.index-imps-imp.result j c.index-imps-imp.is c.imps-imps.ensures at in
    let there = same_place c.imps-imps.result.now imps (c.args.imp - 1) c.index-imps-last.result i c.index-imps-last.is c.imps-imps.ensures before in
    subst (λ (x : Imp). j ≡ record x { id = j.id }) there (subst (λ (y : Imp). y ≡ record c.index-imps-last.result { id = y.id }) here (c.is_alike.ensures e))
