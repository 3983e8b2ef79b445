use Rattle.std.proofs.Common.{◌≡◌, ℕ, ◌+◌, ◌<◌, List, length, sym, ap, refl, take, ◌∙◌, arith}
use Rattle.std.proofs.lemmas.List.{take_all}
use Rattle.plain_exchange.specs.State.{State}
use Rattle.exchange_run.specs.Exchange.{opening}
use Rattle.exchange_run.specs.Making.{campaigns_named, with_one}
use Rattle.exchange_run.specs.View.{campaign_view}
use Rattle.exchange_run.specs.Words.{Campaign}
use Rattle.exchange_run.proofs.Campaigns.{is_one}
use Rattle.exchange_run.proofs.Additions as additions
use Rattle.exchange_run.proofs.opening.add_campaigns.Goals as goal

pub loop-word-init : goal.loop-word-init
loop-word-init c = record {
  counted = refl;
  named = additions.no_word c.args.words.now;
  state = c.requires.empty ∙ additions.opening_none;
  small = additions.small_yet c.args.core.now.state c.requires.empty;
  held = refl;
  edits = c.requires.unedited;
}

pub campaign_named-named-requires : goal.campaign_named-named-requires
campaign_named-named-requires c = is_one c.args.words.now c.loop-word.word-index c.word-item.result c.requires.campaigns c.loop-word-test.true c.word-item.is

pub add-requires : goal.add-requires
add-requires c =
    let k = c.loop-word.word-index in
    let inv = c.loop-word.invariant in
    let few : k < 64 = omega (arith, c.loop-word-test.true, c.requires.few) in
    record {
      some_bid = c.campaign_named-named.ensures.some_bid;
      short = c.campaign_named-named.ensures.short;
      few = omega (arith, few, inv.edits);
      room = additions.room k c.loop-word.core.state (c.loop-word.number + 1) (campaign_view c.campaign_named-named.result) few (omega (arith, few, inv.counted)) c.campaign_named-named.ensures.short inv.small;
    }

pub loop-word-preserved : goal.loop-word-preserved
loop-word-preserved c =
    let words = c.args.words.now in
    let k = c.loop-word.word-index in
    let old = c.loop-word.core.state in
    let new = c.add.new.core.state in
    let n = c.loop-word.number + 1 in
    let one : Campaign = campaign_view c.campaign_named-named.result in
    let few : k < 64 = omega (arith, c.loop-word-test.true, c.requires.few) in
    let inv = c.loop-word.invariant in
    let lt = c.loop-word-test.true in
    let is = c.word-item.is in
    let cs = campaigns_named (take k words) in
    let place : n ≡ 1 + length cs = omega (arith, inv.counted, additions.as_many words k lt inv.named) in
    record {
      counted = omega (arith, inv.counted);
      named = additions.are_named_more words k c.word-item.result one lt is inv.named c.campaign_named-named.ensures.value;
      state = c.in_ok-add.ensures.state ∙ ap (λ (s : State). with_one s n one) inv.state ∙ additions.opened_more cs n one place
          ∙ ap opening (sym (additions.named_more words k c.word-item.result one lt is inv.named c.campaign_named-named.ensures.value));
      small = additions.still_small k old new n one (omega (arith, few, inv.counted)) c.campaign_named-named.ensures.short inv.small c.in_ok-add.ensures.state;
      held = c.add.ensures.settings ∙ inv.held;
      edits = omega (arith, c.in_ok-add.ensures.edits, inv.edits);
    }

pub returns-clause-state : goal.returns-clause-state
returns-clause-state c = c.loop-word.invariant.state ∙ ap (λ (ws : List (List ℕ)). opening (campaigns_named ws)) (take_all c.loop-word.word-index c.args.words.now c.loop-word-test.false)

pub returns-clause-edits : goal.returns-clause-edits
returns-clause-edits c = omega (arith, c.loop-word.invariant.edits, c.requires.few)
