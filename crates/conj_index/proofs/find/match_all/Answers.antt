use Rattle.std.proofs.Common.{◌≡◌, ◌+◌, ◌≤◌, ◌<◌, ◌∙◌, ℕ, List, ap, subst, length, take, max, arith, get_or}
use Rattle.std.proofs.lemmas.Result.{IfOk-from_err}
use Rattle.conj_match.specs.Bits.{AreSet}
use Rattle.conj_match.specs.Matching.{cost_of, is_match, lists_at}
use Rattle.conj_index.specs.declared.key.Key.{Key}
use Rattle.conj_index.specs.declared.part.Part.{Part}
use Rattle.conj_index.specs.Find.{match_cost, places_of}
use Rattle.conj_index.specs.Searching.{AreHit}
use Rattle.conj_index.proofs.Finding.{at_place, cost_below, cost_step, few_parts}
use Rattle.conj_index.proofs.Hits.{hits_next, hits_none}
use Rattle.conj_index.proofs.find.match_all.Goals as goal

pub loop-size-init : goal.loop-size-init
loop-size-init g c = record {
  room = omega (arith, c.in_ok-begin.ensures.room, c.len.ensures);
  hit = hits_none c.args.pairs.now (take (length c.args.pairs.now + 1) c.args.index.now.parts) c.begin.new.self c.in_ok-begin.ensures.none;
  cost = omega arith;
}

pub overflow_cast-size : goal.overflow_cast-size
overflow_cast-size g c =
    let few : length (take (length c.args.pairs.now + 1) c.args.index.now.parts) ≤ 257 = few_parts c.args.pairs.now c.args.index.now.parts c.requires.single in
    let same : length c.first_parts-part-items.result.now ≡ length (take (length c.args.pairs.now + 1) c.args.index.now.parts) = ap length c.first_parts-part-items.ensures in
    omega (arith, few, same, c.loop-size-test.true)

pub loop-size-preserved : goal.loop-size-preserved
loop-size-preserved g c =
    let a = c.args.pairs.now in
    let n = c.loop-size.size in
    let part = c.part-item.result in
    let parts = take (length a + 1) c.args.index.now.parts in
    let within : n < length parts = omega (arith, ap length c.first_parts-part-items.ensures, c.loop-size-test.true) in
    let item : part ≡ get_or parts n part = c.part-item.is ∙ ap (λ (l : List Part). get_or l n part) c.first_parts-part-items.ensures in
    let price : cost_of (lists_at part.lists (places_of c.args.looked.now n part)) (max n 1) ≡ match_cost a (n, part) = ap (λ (ks : List Key). cost_of (lists_at part.lists (places_of ks n part)) (max n 1)) c.requires.looked in
    record {
      room = omega (arith, c.loop-size.invariant.room, c.find_in.ensures.len);
      hit = hits_next a parts n part c.loop-size.tally c.find_in.new.tally c.find_in.ensures.len c.loop-size.invariant.hit (at_place parts n part within item)
          (subst (λ (ks : List Key). AreSet (is_match (lists_at part.lists (places_of ks n part)) (max n 1)) c.loop-size.tally c.find_in.new.tally) c.requires.looked c.in_ok-find_in.ensures.found);
      cost = omega (arith, c.find_in.ensures.cost, price, cost_step a c.args.index.now n part within item, c.loop-size.invariant.cost);
    }

pub returns-in_err-find_in-clause-cost : goal.returns-in_err-find_in-clause-cost
returns-in_err-find_in-clause-cost g c =
    let a = c.args.pairs.now in
    let n = c.loop-size.size in
    let part = c.part-item.result in
    let parts = take (length a + 1) c.args.index.now.parts in
    let within : n < length parts = omega (arith, ap length c.first_parts-part-items.ensures, c.loop-size-test.true) in
    let item : part ≡ get_or parts n part = c.part-item.is ∙ ap (λ (l : List Part). get_or l n part) c.first_parts-part-items.ensures in
    let price : cost_of (lists_at part.lists (places_of c.args.looked.now n part)) (max n 1) ≡ match_cost a (n, part) = ap (λ (ks : List Key). cost_of (lists_at part.lists (places_of ks n part)) (max n 1)) c.requires.looked in
    omega (arith, c.find_in.ensures.cost, price, cost_step a c.args.index.now n part within item, cost_below a c.args.index.now (n + 1), c.loop-size.invariant.cost)

pub returns-clause-found : goal.returns-clause-found
returns-clause-found g c =
    let parts = take (length c.args.pairs.now + 1) c.args.index.now.parts in
    let end : c.loop-size.size ≡ length parts = omega (arith, ap length c.first_parts-part-items.ensures, c.loop-size-test.false) in
    subst (λ (n : ℕ). AreHit c.args.pairs.now parts n c.loop-size.tally) end c.loop-size.invariant.hit

pub returns-clause-room : goal.returns-clause-room
returns-clause-room g c = c.loop-size.invariant.room

pub returns-clause-cost : goal.returns-clause-cost
returns-clause-cost g c = omega (arith, cost_below c.args.pairs.now c.args.index.now c.loop-size.size, c.loop-size.invariant.cost)

pub returns-in_err-begin-clause-room : goal.returns-in_err-begin-clause-room
returns-in_err-begin-clause-room g c = IfOk-from_err c.from_residual.result _ c.from_residual.ensures.0

pub returns-in_err-begin-clause-found : goal.returns-in_err-begin-clause-found
returns-in_err-begin-clause-found g c = IfOk-from_err c.from_residual.result _ c.from_residual.ensures.0

pub returns-in_err-find_in-clause-room : goal.returns-in_err-find_in-clause-room
returns-in_err-find_in-clause-room g c = IfOk-from_err c.from_residual-in_err-find_in.result _ c.from_residual-in_err-find_in.ensures.0

pub returns-in_err-find_in-clause-found : goal.returns-in_err-find_in-clause-found
returns-in_err-find_in-clause-found g c = IfOk-from_err c.from_residual-in_err-find_in.result _ c.from_residual-in_err-find_in.ensures.0
