use Rattle.std.proofs.Common.{◌≡◌, ◌-◌, ap, arith, length}
use Rattle.std.proofs.lemmas.List.{length_push}
use Rattle.auction_core.proofs.Sharing.{lists_after, placed_after}
use Rattle.auction_core.proofs.candidates.Candidates.push.Goals as goal

pub invariant_of-self-2 : goal.invariant_of-self-2
invariant_of-self-2 c =
    let lists = c.self.inside.lists in
    let x = c.args.candidates in
    let last : c.len.result - 1 ≡ length lists = omega (arith, c.len.ensures, ap length c.in_ok-push.ensures.ok, length_push lists x) in
    placed_after c.push-2.result lists c.push.new.self x c.self.inside.places c.push-2.new.self (c.len.result - 1) c.self.invariant c.in_ok-push.ensures.ok last c.push-2.ensures.ok c.push-2.ensures.err

pub returns : goal.returns
returns c =
    let lists = c.self.inside.lists in
    let x = c.args.candidates in
    let last : c.len.result - 1 ≡ length lists = omega (arith, c.len.ensures, ap length c.in_ok-push.ensures.ok, length_push lists x) in
    lists_after c.push-2.result lists c.push.new.self c.args.self.now x c.self.inside.places c.push-2.new.self (c.len.result - 1) c.self.invariant c.self.view_is c.in_ok-push.ensures.ok last c.push-2.ensures.ok
