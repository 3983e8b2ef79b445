use Rattle.std.proofs.Common.{◌≡◌, ◌<◌, ◌∙◌, List, ap, arith, get_or, length, suc, ℕ}
use Rattle.std.proofs.lemmas.Bool.{leb-true}
use Rattle.std.proofs.lemmas.List.{get_or_default, length-map}
use Rattle.std.proofs.lemmas.List.Sums.{AllPass-from_list_all}
use Rattle.clearing.specs.declared.Offer.{Offer}
use Rattle.auction_core.specs.Placed.{is_placed, list_at}
use Rattle.auction_core.proofs.Sharing.{list_there}
use Rattle.auction_core.proofs.candidates.Candidates.at.Goals as goal

pub returns : goal.returns
returns c = λ cs got.
    let lists = c.self.inside.lists in
    let places = c.self.inside.places in
    let imp = c.args.imp in
    let place = get_or c.as_slice.result.now imp 0 in
    let list = c.index-as_slice-place.result in
    let inside : imp < length places = omega (arith, c.requires, ap length c.self.view_is, length-map places (list_at lists)) in
    let same : place ≡ get_or places imp 0 = ap (λ (ps : List ℕ). get_or ps imp 0) c.as_slice.ensures in
    let at : place ≡ get_or places imp place = same ∙ get_or_default places imp 0 place inside in
    let within : place < length lists = leb-true (suc place) (length lists) (ap (is_placed lists) same ∙ AllPass-from_list_all (is_placed lists) places c.self.invariant imp 0 inside) in
    c.as_slice-3.ensures
    ∙ list_there lists c.args.self.now places imp place list cs c.self.view_is inside at within (c.index-as_slice-place.is ∙ ap (λ (ls : List (List Offer)). get_or ls place list) c.as_slice-2.ensures) got
