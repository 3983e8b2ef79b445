use Rattle.std.proofs.Common.{◌++◌, ◌∙◌, subst, ap}
use Rattle.byte_fields.specs.Encodings.{IsOptionOf}
use Rattle.campaign.specs.Encoding.{facts_bytes}
use Rattle.effects.specs.Bytes.{IsCap, cap_bytes}
use Rattle.target_expr.specs.Bytes.{expr_bytes}
use Rattle.effects.proofs.Fronts.{begun, front_after, front_of, more_after, nothing_after, still_after}
use Rattle.effects.proofs.parts.put_record.Goals as goal

pub returns-in_err-encode-clause-front : goal.returns-in_err-encode-clause-front
returns-in_err-encode-clause-front c = nothing_after c.args.out.now c.in_err-encode.ensures.err

pub returns-in_err-put_cap-clause-front : goal.returns-in_err-put_cap-clause-front
returns-in_err-put_cap-clause-front c =
    let f = c.args.facts.now in
    let e1 = begun c.args.out.now (facts_bytes f) c.in_ok-encode.ensures.ok in
    front_after e1 c.in_err-put_cap.ensures.front

pub returns-in_err-encode-2-clause-front : goal.returns-in_err-encode-2-clause-front
returns-in_err-encode-2-clause-front c =
    let f = c.args.facts.now in
    let e1 = begun c.args.out.now (facts_bytes f) c.in_ok-encode.ensures.ok in
    let e2 = more_after (cap_bytes f.cap) e1 (c.in_ok-put_cap.ensures.ok ∙ ap (λ t. c.encode.new.out ++ cap_bytes t) c.cap.ensures) in
    still_after e2 c.in_err-encode-2.ensures.err

pub returns-clause-ok : goal.returns-clause-ok
returns-clause-ok c =
    let f = c.args.facts.now in
    let e1 = begun c.args.out.now (facts_bytes f) c.in_ok-encode.ensures.ok in
    let e2 = more_after (cap_bytes f.cap) e1 (c.in_ok-put_cap.ensures.ok ∙ ap (λ t. c.encode.new.out ++ cap_bytes t) c.cap.ensures) in
    let e3 = more_after (expr_bytes c.args.expr.now) e2 c.in_ok-encode-2.ensures.ok in
    e3.is

pub returns-clause-front : goal.returns-clause-front
returns-clause-front c =
    let f = c.args.facts.now in
    let e1 = begun c.args.out.now (facts_bytes f) c.in_ok-encode.ensures.ok in
    let e2 = more_after (cap_bytes f.cap) e1 (c.in_ok-put_cap.ensures.ok ∙ ap (λ t. c.encode.new.out ++ cap_bytes t) c.cap.ensures) in
    let e3 = more_after (expr_bytes c.args.expr.now) e2 c.in_ok-encode-2.ensures.ok in
    front_of e3

pub returns-clause-valid : goal.returns-clause-valid
returns-clause-valid c =
    let cap = subst (IsOptionOf IsCap) c.cap.ensures c.in_ok-put_cap.ensures.valid in
    record { facts_kept = c.in_ok-encode.ensures.kept; cap = cap; expr_kept = c.in_ok-encode-2.ensures.encodable }
