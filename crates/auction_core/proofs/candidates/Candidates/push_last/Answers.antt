use Rattle.std.proofs.Common.{◌≡◌, ◌-◌, ◌<◌, ◌∙◌, List, ap, arith, get_or, length, subst, Some, ℕ}
use Rattle.std.specs.Prelude.{slice_get}
use Rattle.std.proofs.lemmas.List.{get_or_default, length-map}
use Rattle.auction_core.specs.Placed.{list_at}
use Rattle.auction_core.proofs.Sharing.{last_after}
use Rattle.auction_core.proofs.candidates.Candidates.push_last.Goals as goal

pub returns : goal.returns
returns c = λ cs got.
    let lists = c.self.inside.lists in
    let places = c.self.inside.places in
    let end = c.len-end.result - 1 in
    let last = get_or c.as_slice.result.now end 0 in
    let long : length c.args.self.now ≡ c.len-end.result = omega (arith, c.len-end.ensures, ap length c.self.view_is, length-map places (list_at lists)) in
    let inside : end < length places = omega (arith, long, c.requires, c.len-end.ensures) in
    let at : last ≡ get_or places end last = ap (λ (ps : List ℕ). get_or ps end 0) c.as_slice.ensures ∙ get_or_default places end 0 last inside in
    let told = subst (λ (n : ℕ). slice_get c.args.self.now (n - 1) ≡ Some cs) long got in
    last_after c.push.result lists c.args.self.now places c.push.new.self end last cs c.self.view_is inside at told c.push.ensures.ok
