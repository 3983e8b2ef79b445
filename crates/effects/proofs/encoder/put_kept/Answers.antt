use Rattle.std.proofs.Common.{◌++◌, ◌∙◌, subst, ap}
use Rattle.byte_fields.specs.Encodings.{IsOptionOf, flag_bytes, option_bytes}
use Rattle.campaign.specs.Encoding.{facts_bytes}
use Rattle.effects.specs.Bytes.{IsCap, IsRecord, gone_bytes, terms_bytes}
use Rattle.target_expr.specs.Bytes.{expr_bytes}
use Rattle.effects.proofs.Fronts.{begun, front_after, front_of, more_after, nothing_after, still_after}
use Rattle.effects.proofs.encoder.put_kept.Goals as goal

pub returns-in_err-put_flag-clause-front : goal.returns-in_err-put_flag-clause-front
returns-in_err-put_flag-clause-front c = nothing_after c.args.out.now c.in_err-put_flag.ensures.err

pub returns-in_err-encode-clause-front : goal.returns-in_err-encode-clause-front
returns-in_err-encode-clause-front c =
    let k = c.args.kept.now in
    let e1 = begun c.args.out.now (flag_bytes k.live) c.in_ok-put_flag.ensures.ok in
    still_after e1 c.in_err-encode.ensures.err

pub returns-in_err-put_optional_cap-clause-front : goal.returns-in_err-put_optional_cap-clause-front
returns-in_err-put_optional_cap-clause-front c =
    let k = c.args.kept.now in
    let e1 = begun c.args.out.now (flag_bytes k.live) c.in_ok-put_flag.ensures.ok in
    let e2 = more_after (facts_bytes k.facts) e1 c.in_ok-encode.ensures.ok in
    front_after e2 c.in_err-put_optional_cap.ensures.front

pub returns-in_err-encode-2-clause-front : goal.returns-in_err-encode-2-clause-front
returns-in_err-encode-2-clause-front c =
    let k = c.args.kept.now in
    let e1 = begun c.args.out.now (flag_bytes k.live) c.in_ok-put_flag.ensures.ok in
    let e2 = more_after (facts_bytes k.facts) e1 c.in_ok-encode.ensures.ok in
    let e3 = more_after (option_bytes terms_bytes k.facts.cap) e2 (c.in_ok-put_optional_cap.ensures.ok ∙ ap (λ t. c.encode.new.out ++ option_bytes terms_bytes t) c.cap.ensures) in
    still_after e3 c.in_err-encode-2.ensures.err

pub returns-in_err-put_gone-clause-front : goal.returns-in_err-put_gone-clause-front
returns-in_err-put_gone-clause-front c =
    let k = c.args.kept.now in
    let e1 = begun c.args.out.now (flag_bytes k.live) c.in_ok-put_flag.ensures.ok in
    let e2 = more_after (facts_bytes k.facts) e1 c.in_ok-encode.ensures.ok in
    let e3 = more_after (option_bytes terms_bytes k.facts.cap) e2 (c.in_ok-put_optional_cap.ensures.ok ∙ ap (λ t. c.encode.new.out ++ option_bytes terms_bytes t) c.cap.ensures) in
    let e4 = more_after (expr_bytes k.expr) e3 c.in_ok-encode-2.ensures.ok in
    front_after e4 c.in_err-put_gone.ensures.front

pub returns-clause-ok : goal.returns-clause-ok
returns-clause-ok c =
    let k = c.args.kept.now in
    let e1 = begun c.args.out.now (flag_bytes k.live) c.in_ok-put_flag.ensures.ok in
    let e2 = more_after (facts_bytes k.facts) e1 c.in_ok-encode.ensures.ok in
    let e3 = more_after (option_bytes terms_bytes k.facts.cap) e2 (c.in_ok-put_optional_cap.ensures.ok ∙ ap (λ t. c.encode.new.out ++ option_bytes terms_bytes t) c.cap.ensures) in
    let e4 = more_after (expr_bytes k.expr) e3 c.in_ok-encode-2.ensures.ok in
    let e5 = more_after (gone_bytes k.gone) e4 c.in_ok-put_gone.ensures.ok in
    e5.is

pub returns-clause-front : goal.returns-clause-front
returns-clause-front c =
    let k = c.args.kept.now in
    let e1 = begun c.args.out.now (flag_bytes k.live) c.in_ok-put_flag.ensures.ok in
    let e2 = more_after (facts_bytes k.facts) e1 c.in_ok-encode.ensures.ok in
    let e3 = more_after (option_bytes terms_bytes k.facts.cap) e2 (c.in_ok-put_optional_cap.ensures.ok ∙ ap (λ t. c.encode.new.out ++ option_bytes terms_bytes t) c.cap.ensures) in
    let e4 = more_after (expr_bytes k.expr) e3 c.in_ok-encode-2.ensures.ok in
    let e5 = more_after (gone_bytes k.gone) e4 c.in_ok-put_gone.ensures.ok in
    front_of e5

pub returns-clause-valid : goal.returns-clause-valid
returns-clause-valid c =
    let cap = subst (IsOptionOf IsCap) c.cap.ensures c.in_ok-put_optional_cap.ensures.valid in
    let as_record : IsRecord c.args.kept.now.facts c.args.kept.now.expr = record { facts_kept = c.in_ok-encode.ensures.kept; cap = cap; expr_kept = c.in_ok-encode-2.ensures.encodable } in
    (as_record, c.in_ok-put_gone.ensures.valid)
