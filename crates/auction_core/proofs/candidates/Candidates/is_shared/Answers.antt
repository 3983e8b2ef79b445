use Rattle.std.proofs.Common.{◌-◌, ◌<◌, ◌∙◌, List, ap, arith, get_or, length, sym, ℕ}
use Rattle.std.specs.Prelude.{◌==◌}
use Rattle.std.proofs.lemmas.List.{length-map}
use Rattle.auction_core.specs.Placed.{list_at}
use Rattle.auction_core.proofs.Sharing.{shared_there}
use Rattle.auction_core.proofs.candidates.Candidates.is_shared.Goals as goal

pub returns-clause-shared : goal.returns-clause-shared
returns-clause-shared c = λ h.
    let lists = c.self.inside.lists in
    let places = c.self.inside.places in
    let imp = c.args.imp in
    let inside : imp < length places = omega (arith, c.requires, ap length c.self.view_is, length-map places (list_at lists)) in
    let before : imp - 1 < length places = omega (arith, inside) in
    shared_there lists c.args.self.now places imp (imp - 1) c.self.view_is inside before (ap (λ (ps : List ℕ). get_or ps imp 0 == get_or ps (imp - 1) 0) (sym c.as_slice-places.ensures) ∙ h)
