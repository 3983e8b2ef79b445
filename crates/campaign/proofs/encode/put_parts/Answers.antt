use Rattle.std.proofs.Common.{List, ℕ, ◌≡◌, ◌++◌, sym, ap, ◌∙◌, append_assoc}
use Rattle.campaign.specs.Groups.{creative_bytes, creative_of, look_bytes, look_of, money_bytes, money_of, names_bytes, names_of}
use Rattle.campaign.proofs.encode.put_parts.Goals as goal
use Rattle.campaign.proofs.Decoding.{facts_is}
use Rattle.campaign.proofs.Rules.{groups_right}

pub put_names-requires : goal.put_names-requires
put_names-requires c = (groups_right c.args.parts.now c.requires).0.0.0.0

pub put_look-requires : goal.put_look-requires
put_look-requires c = (groups_right c.args.parts.now c.requires).0.0.0.1

pub put_money-requires : goal.put_money-requires
put_money-requires c = (groups_right c.args.parts.now c.requires).0.0.1

pub put_creative-requires : goal.put_creative-requires
put_creative-requires c = (groups_right c.args.parts.now c.requires).0.1

onto : (o a b c d : List ℕ) → (((o ++ a) ++ b) ++ c) ++ d ≡ o ++ (((a ++ b) ++ c) ++ d)
onto o a b c d = simp append_assoc

pub returns-clause-ok : goal.returns-clause-ok
returns-clause-ok c =
    let p = c.args.parts.now in
    let out = c.args.out.now in
    let names = names_bytes (names_of p) in
    let look = look_bytes (look_of p) in
    let money = money_bytes (money_of p) in
    let creative = creative_bytes (creative_of p) in
    c.in_ok-put_creative.ensures.ok
    ∙ ap (λ o. o ++ creative) (c.in_ok-put_money.ensures.ok ∙ ap (λ o. o ++ money) (c.in_ok-put_look.ensures.ok ∙ ap (λ o. o ++ look) c.in_ok-put_names.ensures.ok))
    ∙ onto out names look money creative ∙ ap (λ l. out ++ l) (sym (facts_is p))

-- a front behind a front
further : (o t : List ℕ) {u : List ℕ} → (more : List ℕ) × (t ≡ o ++ more) → (more : List ℕ) × (u ≡ t ++ more) → (more : List ℕ) × (u ≡ o ++ more)
further o t f g = (f.0 ++ g.0, g.1 ∙ ap (λ l. l ++ g.0) f.1 ∙ append_assoc o f.0 g.0)

pub returns-in_err-put_look-clause-front : goal.returns-in_err-put_look-clause-front
returns-in_err-put_look-clause-front c = further c.args.out.now c.put_names.new.out c.in_ok-put_names.ensures.front c.in_err-put_look.ensures.front

pub returns-in_err-put_money-clause-front : goal.returns-in_err-put_money-clause-front
returns-in_err-put_money-clause-front c =
    let o = c.args.out.now in
    let look = further o c.put_names.new.out c.in_ok-put_names.ensures.front c.in_ok-put_look.ensures.front in
    further o c.put_look.new.out look c.in_err-put_money.ensures.front

pub returns-in_err-put_creative-clause-front : goal.returns-in_err-put_creative-clause-front
returns-in_err-put_creative-clause-front c =
    let o = c.args.out.now in
    let look = further o c.put_names.new.out c.in_ok-put_names.ensures.front c.in_ok-put_look.ensures.front in
    let money = further o c.put_look.new.out look c.in_ok-put_money.ensures.front in
    further o c.put_money.new.out money c.in_err-put_creative.ensures.front

pub returns-clause-front : goal.returns-clause-front
returns-clause-front c =
    let o = c.args.out.now in
    let look = further o c.put_names.new.out c.in_ok-put_names.ensures.front c.in_ok-put_look.ensures.front in
    let money = further o c.put_look.new.out look c.in_ok-put_money.ensures.front in
    further o c.put_money.new.out money c.in_ok-put_creative.ensures.front
