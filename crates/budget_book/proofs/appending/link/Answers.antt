use Rattle.std.proofs.Common.{◌≡◌, cond, eqb, sym, ◌∙◌, ap, subst, ℕ, Some}
use Rattle.std.specs.Prelude.{option_map}
use Rattle.budget_book.specs.LastSales.{distance, last_at, mixed, place_by, place_in}
use Rattle.budget_book.specs.Users.{IsLinked}
use Rattle.budget_book.proofs.appending.link.Goals as goal

pub returns-in-Some-clause-linked : goal.returns-in-Some-clause-linked
returns-in-Some-clause-linked c =
    let b = place_in (mixed c.args.campaign c.in-Some.hash) in
    let place : c.place_in.result ≡ b = c.place_in.ensures.place ∙ ap place_in c.mix.ensures in
    let was : c.put-before.result ≡ last_at b c.args.lasts.now = c.put-before.ensures.was ∙ ap (λ k. last_at k c.args.lasts.now) place in
    let linked : IsLinked c.args.lasts.now c.put-before.new.self (Some b) c.args.number c.distance.result =
    (c.distance.ensures ∙ ap (distance c.args.number) was, λ q. c.put-before.ensures.numbers q ∙ ap (λ k. cond (eqb q k) c.args.number (last_at q c.args.lasts.now)) place) in
    subst (λ o. IsLinked c.args.lasts.now c.put-before.new.self (option_map (place_by c.args.campaign) o) c.args.number c.distance.result) (sym c.in-Some.is) linked
