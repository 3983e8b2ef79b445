use Rattle.std.proofs.Common.{◌-◌, subst}
use Rattle.deal_rules.proofs.Places.{same_place}
use Rattle.deal_rules.proofs.Same.{closed_alike, ruled_alike}
use Rattle.deal_rules.specs.Alike.{AreRuledAlike}
use Rattle.rtb_types.specs.declared.request.Imp.{Imp}
use Rattle.deal_rules.proofs.asked.Asked.is_ruled_like_last.Goals as goal

pub returns-clause-same : goal.returns-clause-same
returns-clause-same c = λ i j number f before at e.
    let imps = c.args.self.now.imps in
    let here = same_place c.imps-imps.result.now imps c.args.imp c.index-imps-imp.result j c.index-imps-imp.is c.imps-imps.ensures at in
    let there = same_place c.imps-imps.result.now imps (c.args.imp - 1) c.index-imps-last.result i c.index-imps-last.is c.imps-imps.ensures before in
    ruled_alike number c.args.self.now i j f (subst (λ (x : Imp). AreRuledAlike j x) there (subst (λ (y : Imp). AreRuledAlike y c.index-imps-last.result) here (c.are_ruled_alike.ensures e)))

pub returns-clause-closed : goal.returns-clause-closed
returns-clause-closed c = λ i j before at e.
    let imps = c.args.self.now.imps in
    let here = same_place c.imps-imps.result.now imps c.args.imp c.index-imps-imp.result j c.index-imps-imp.is c.imps-imps.ensures at in
    let there = same_place c.imps-imps.result.now imps (c.args.imp - 1) c.index-imps-last.result i c.index-imps-last.is c.imps-imps.ensures before in
    closed_alike c.args.self.now i j (subst (λ (x : Imp). AreRuledAlike j x) there (subst (λ (y : Imp). AreRuledAlike y c.index-imps-last.result) here (c.are_ruled_alike.ensures e)))
