use Rattle.std.proofs.Common.{◌≡◌, ◌≤◌, ◌<◌, ◌+◌, ◌++◌, ◌∙◌, List, ap, arith, drop, eqb, filter, length, refl, subst, sym, ℕ}
use Rattle.std.specs.List.{flat_map, list_all}
use Rattle.auction_core.specs.Auctions.{beside, is_number_in, offers_at}
use Rattle.auction_core.specs.Found.{may_be_asked, may_be_sold, offers_touched}
use Rattle.clearing.specs.Candidates.{IsRefused, asked, is_in_order}
use Rattle.clearing.specs.Clearing.{is_fit, outcome, winner}
use Rattle.clearing.specs.declared.Offer.{Offer}
use Rattle.clearing.proofs.Fronts.{all_behind, first_refused, front_filtered, fronts_joined, order_behind}
use Rattle.deal_rules.specs.Terms.{terms_of}
use Rattle.rtb_types.specs.declared.request.BidRequest.{BidRequest}
use Rattle.auction_core.proofs.Auctioning.{some_there}
use Rattle.auction_core.proofs.Passing.{further, no_dearer, passed}
use Rattle.auction_core.proofs.Touching.{all_fit, all_known, offers_at_fit, sold_over, touched_numbers}
use Rattle.auction_core.proofs.exchange.Core.win_found.Goals as goal

pub offers-requires-clause-there : goal.offers-requires-clause-there
offers-requires-clause-there g c =
    let s = c.args.self.now.state in
    let f = c.args.findings.now in
    let r = f.asked.now in
    let (i, at) = some_there r.imps c.args.imp c.requires.imp in
    ap (list_all (is_number_in s)) (c.list_at-now.ensures ∙ c.requires.now c.args.imp i at) ∙ touched_numbers s f.touched.now r i

pub at-requires : goal.at-requires
at-requires g c = subst (λ n. c.args.imp < n) (sym c.requires.may_sell.found_are.long) c.requires.imp

pub behind-candidates-requires : goal.behind-candidates-requires
behind-candidates-requires g c =
    let core = c.args.self.now in
    let f = c.args.findings.now in
    let r = f.asked.now in
    let m = c.args.moment in
    let awards = c.args.awards.now in
    let may = may_be_sold core f.touched.now r m awards in
    let alone = eqb (length c.as_slice-others.result.now) 0 in
    let (i, at) = some_there r.imps c.args.imp c.requires.imp in
    let (cs, found) = some_there f.candidates.now c.args.imp (subst (λ n. c.args.imp < n) (sym c.requires.may_sell.found_are.long) c.requires.imp) in
    let known = c.requires.refused cs found in
    let front = passed may cs c.args.refused.now c.front_of-front.result alone c.front_of-front.ensures known in
    subst (λ (l : List Offer). c.front_of-front.result ≤ length l) (sym (c.at.ensures cs found)) front.0

pub clear_in_order-cleared-requires-clause-order : goal.clear_in_order-cleared-requires-clause-order
clear_in_order-cleared-requires-clause-order g c =
    let core = c.args.self.now in
    let f = c.args.findings.now in
    let r = f.asked.now in
    let m = c.args.moment in
    let awards = c.args.awards.now in
    let may = may_be_sold core f.touched.now r m awards in
    let alone = eqb (length c.as_slice-others.result.now) 0 in
    let (i, at) = some_there r.imps c.args.imp c.requires.imp in
    let (cs, found) = some_there f.candidates.now c.args.imp (subst (λ n. c.args.imp < n) (sym c.requires.may_sell.found_are.long) c.requires.imp) in
    let left : c.behind-candidates.result.now ≡ drop c.front_of-front.result cs = c.behind-candidates.ensures ∙ ap (drop c.front_of-front.result) (c.at.ensures cs found) in
    ap is_in_order left ∙ order_behind cs c.front_of-front.result (c.requires.may_sell.found_are.each c.args.imp i cs at found).order

pub clear_in_order-cleared-requires-clause-known : goal.clear_in_order-cleared-requires-clause-known
clear_in_order-cleared-requires-clause-known g c =
    let core = c.args.self.now in
    let f = c.args.findings.now in
    let r = f.asked.now in
    let m = c.args.moment in
    let awards = c.args.awards.now in
    let may = may_be_sold core f.touched.now r m awards in
    let alone = eqb (length c.as_slice-others.result.now) 0 in
    let (i, at) = some_there r.imps c.args.imp c.requires.imp in
    let (cs, found) = some_there f.candidates.now c.args.imp (subst (λ n. c.args.imp < n) (sym c.requires.may_sell.found_are.long) c.requires.imp) in
    let left : c.behind-candidates.result.now ≡ drop c.front_of-front.result cs = c.behind-candidates.ensures ∙ ap (drop c.front_of-front.result) (c.at.ensures cs found) in
    let test = may_be_asked core f.touched.now awards in
    ap (list_all test) left
    ∙ all_behind test cs c.front_of-front.result (all_known core f.touched.now r i awards c.requires.may_sell.live cs c.requires.few c.requires.may_sell.differ (c.requires.may_sell.found_are.each c.args.imp i cs at found))

pub clear_in_order-cleared-requires-clause-fit : goal.clear_in_order-cleared-requires-clause-fit
clear_in_order-cleared-requires-clause-fit g c =
    let core = c.args.self.now in
    let f = c.args.findings.now in
    let r = f.asked.now in
    let m = c.args.moment in
    let awards = c.args.awards.now in
    let may = may_be_sold core f.touched.now r m awards in
    let alone = eqb (length c.as_slice-others.result.now) 0 in
    let (i, at) = some_there r.imps c.args.imp c.requires.imp in
    let (cs, found) = some_there f.candidates.now c.args.imp (subst (λ n. c.args.imp < n) (sym c.requires.may_sell.found_are.long) c.requires.imp) in
    let left : c.behind-candidates.result.now ≡ drop c.front_of-front.result cs = c.behind-candidates.ensures ∙ ap (drop c.front_of-front.result) (c.at.ensures cs found) in
    ap (λ ts. list_all (is_fit ts) c.behind-candidates.result.now) (c.terms_at-terms.ensures i at)
    ∙ ap (list_all (is_fit (terms_of r i))) left
    ∙ all_behind (is_fit (terms_of r i)) cs c.front_of-front.result (all_fit c.requires.may_sell.live r i cs (c.requires.may_sell.found_are.each c.args.imp i cs at found))

pub clear_in_order-cleared-requires-clause-others : goal.clear_in_order-cleared-requires-clause-others
clear_in_order-cleared-requires-clause-others g c =
    let f = c.args.findings.now in
    let r = f.asked.now in
    let m = c.args.moment in
    let t = beside c.args.self.now.settings m r c.args.self.now.state c.args.awards.now in
    let (i, at) = some_there r.imps c.args.imp c.requires.imp in
    ap (λ ts. list_all (is_fit ts) c.as_slice-others.result.now) (c.terms_at-terms.ensures i at)
    ∙ ap (list_all (is_fit (terms_of r i))) (c.as_slice-others.ensures.value ∙ c.in_ok-offered.ensures i at)
    ∙ offers_at_fit t r i m c.list_at-now.result.now

pub keep-requires-clause-few : goal.keep-requires-clause-few
keep-requires-clause-few g c =
    let core = c.args.self.now in
    let f = c.args.findings.now in
    let r = f.asked.now in
    let m = c.args.moment in
    let awards = c.args.awards.now in
    let may = may_be_sold core f.touched.now r m awards in
    let alone = eqb (length c.as_slice-others.result.now) 0 in
    let (i, at) = some_there r.imps c.args.imp c.requires.imp in
    let (cs, found) = some_there f.candidates.now c.args.imp (subst (λ n. c.args.imp < n) (sym c.requires.may_sell.found_are.long) c.requires.imp) in
    let left : c.behind-candidates.result.now ≡ drop c.front_of-front.result cs = c.behind-candidates.ensures ∙ ap (drop c.front_of-front.result) (c.at.ensures cs found) in
    let known = c.requires.refused cs found in
    let front = passed may cs c.args.refused.now c.front_of-front.result alone c.front_of-front.ensures known in
    let walked = first_refused (may_be_sold core f.touched.now c.request.result.now m awards) (winner c.as_slice-others.result.now) c.behind-candidates.result.now in
    let more : IsRefused may (drop c.front_of-front.result cs) c.clear_in_order-cleared.result.refused =
    subst (λ (q : BidRequest). IsRefused (may_be_sold core f.touched.now q m awards) (drop c.front_of-front.result cs) c.clear_in_order-cleared.result.refused) c.request.ensures
    (subst (λ (l : List Offer). IsRefused (may_be_sold core f.touched.now c.request.result.now m awards) l c.clear_in_order-cleared.result.refused) left
    (subst (λ (n : ℕ). IsRefused (may_be_sold core f.touched.now c.request.result.now m awards) c.behind-candidates.result.now n) (sym c.clear_in_order-cleared.ensures.refused) walked)) in
    let all = fronts_joined may cs c.front_of-front.result c.clear_in_order-cleared.result.refused front more in
    omega (arith, all.0, ap length (c.at.ensures cs found), c.at.type_inv)

pub returns-clause-sale : goal.returns-clause-sale
returns-clause-sale g c = λ i at.
    let core = c.args.self.now in
    let f = c.args.findings.now in
    let r = f.asked.now in
    let m = c.args.moment in
    let awards = c.args.awards.now in
    let may = may_be_sold core f.touched.now r m awards in
    let alone = eqb (length c.as_slice-others.result.now) 0 in
    let t = beside core.settings m r core.state awards in
    let others : c.as_slice-others.result.now ≡ offers_touched core f.touched.now r i m awards = c.as_slice-others.ensures.value ∙ c.in_ok-offered.ensures i at ∙ ap (flat_map (offers_at t r i m)) (c.list_at-now.ensures ∙ c.requires.now c.args.imp i at) in
    let (cs, found) = some_there f.candidates.now c.args.imp (subst (λ n. c.args.imp < n) (sym c.requires.may_sell.found_are.long) c.requires.imp) in
    let left : c.behind-candidates.result.now ≡ drop c.front_of-front.result cs = c.behind-candidates.ensures ∙ ap (drop c.front_of-front.result) (c.at.ensures cs found) in
    let known = c.requires.refused cs found in
    let front = passed may cs c.args.refused.now c.front_of-front.result alone c.front_of-front.ensures known in
    c.clear_in_order-cleared.ensures.sale
    ∙ ap (λ (q : BidRequest). outcome (filter (may_be_sold core f.touched.now q m awards) c.behind-candidates.result.now ++ c.as_slice-others.result.now) c.terms_at-terms.result.now) c.request.ensures
    ∙ ap (λ ts. outcome (filter may c.behind-candidates.result.now ++ c.as_slice-others.result.now) ts) (c.terms_at-terms.ensures i at)
    ∙ ap (λ (l : List Offer). outcome (filter may l ++ c.as_slice-others.result.now) (terms_of r i)) left
    ∙ ap (λ (l : List Offer). outcome (l ++ c.as_slice-others.result.now) (terms_of r i)) (sym (front_filtered may cs c.front_of-front.result front))
    ∙ ap (λ (l : List Offer). outcome (filter may cs ++ l) (terms_of r i)) others
    ∙ sold_over core f.touched.now r i m awards c.requires.may_sell.live cs c.requires.may_sell.differ (c.requires.may_sell.found_are.each c.args.imp i cs at found)

pub returns-clause-refused : goal.returns-clause-refused
returns-clause-refused g c = λ cs found.
    let core = c.args.self.now in
    let f = c.args.findings.now in
    let r = f.asked.now in
    let m = c.args.moment in
    let awards = c.args.awards.now in
    let may = may_be_sold core f.touched.now r m awards in
    let alone = eqb (length c.as_slice-others.result.now) 0 in
    let left : c.behind-candidates.result.now ≡ drop c.front_of-front.result cs = c.behind-candidates.ensures ∙ ap (drop c.front_of-front.result) (c.at.ensures cs found) in
    let known = c.requires.refused cs found in
    let front = passed may cs c.args.refused.now c.front_of-front.result alone c.front_of-front.ensures known in
    let walked = first_refused (may_be_sold core f.touched.now c.request.result.now m awards) (winner c.as_slice-others.result.now) c.behind-candidates.result.now in
    let more : IsRefused may (drop c.front_of-front.result cs) c.clear_in_order-cleared.result.refused =
    subst (λ (q : BidRequest). IsRefused (may_be_sold core f.touched.now q m awards) (drop c.front_of-front.result cs) c.clear_in_order-cleared.result.refused) c.request.ensures
    (subst (λ (l : List Offer). IsRefused (may_be_sold core f.touched.now c.request.result.now m awards) l c.clear_in_order-cleared.result.refused) left
    (subst (λ (n : ℕ). IsRefused (may_be_sold core f.touched.now c.request.result.now m awards) c.behind-candidates.result.now n) (sym c.clear_in_order-cleared.ensures.refused) walked)) in
    further may cs c.args.refused.now c.front_of-front.result c.clear_in_order-cleared.result.refused c.keep.new.refused alone c.front_of-front.ensures c.keep.ensures known more

pub returns-clause-cost : goal.returns-clause-cost
returns-clause-cost g c = λ i cs at found.
    let core = c.args.self.now in
    let f = c.args.findings.now in
    let r = f.asked.now in
    let m = c.args.moment in
    let awards = c.args.awards.now in
    let may = may_be_sold core f.touched.now r m awards in
    let alone = eqb (length c.as_slice-others.result.now) 0 in
    let t = beside core.settings m r core.state awards in
    let others : c.as_slice-others.result.now ≡ offers_touched core f.touched.now r i m awards = c.as_slice-others.ensures.value ∙ c.in_ok-offered.ensures i at ∙ ap (flat_map (offers_at t r i m)) (c.list_at-now.ensures ∙ c.requires.now c.args.imp i at) in
    let left : c.behind-candidates.result.now ≡ drop c.front_of-front.result cs = c.behind-candidates.ensures ∙ ap (drop c.front_of-front.result) (c.at.ensures cs found) in
    let known = c.requires.refused cs found in
    let told : c.clear_in_order-cleared.new.steps ≤ c.args.steps.now + asked may c.as_slice-others.result.now (drop c.front_of-front.result cs) =
    subst (λ (l : List Offer). c.clear_in_order-cleared.new.steps ≤ c.args.steps.now + asked may c.as_slice-others.result.now l) left
    (subst (λ (q : BidRequest). c.clear_in_order-cleared.new.steps ≤ c.args.steps.now + asked (may_be_sold core f.touched.now q m awards) c.as_slice-others.result.now c.behind-candidates.result.now) c.request.ensures c.clear_in_order-cleared.ensures.cost) in
    let fewer = no_dearer may c.as_slice-others.result.now cs c.args.refused.now c.front_of-front.result alone refl c.front_of-front.ensures known in
    subst (λ (l : List Offer). c.clear_in_order-cleared.new.steps ≤ c.args.steps.now + asked may l cs) others (within c.clear_in_order-cleared.new.steps c.args.steps.now (asked may c.as_slice-others.result.now (drop c.front_of-front.result cs)) (asked may c.as_slice-others.result.now cs) told fewer)
  where
    within : (steps before front all : ℕ) → steps ≤ before + front → front ≤ all → steps ≤ before + all
    within steps before front all h k = omega (arith, h, k)
