use Rattle.std.proofs.Common.{◌%◌, ap, sym, ◌∙◌}
use Rattle.campaign.proofs.decode.get_facts.Goals as goal
use Rattle.campaign.proofs.Decoding.{encodable_none, facts_read, faulty, refused}

pub returns-in_default : goal.returns-in_default
returns-in_default c =
    let none = rw c.in_default.is at c.in_ok-parts.ensures in
    encodable_none c.args.bytes.now c.args.place none

pub returns-then-get-ne0 : goal.returns-then-get-ne0
returns-then-get-ne0 c =
    let parts = rw c.in-Some.is at c.in_ok-parts.ensures in
    refused c.args.bytes.now c.args.place c.in-Some.parts c.in-Some.next parts
    (λ k. c.if-get-ne0.true (ap (λ n. n % 1000) c.get.ensures.value ∙ k.whole_micros))

pub returns-in-Ok : goal.returns-in-Ok
returns-in-Ok c =
    let parts = rw c.in-Some.is at c.in_ok-parts.ensures in
    facts_read c.args.bytes.now c.args.place c.in-Some.parts c.in-Ok.facts c.in-Some.next parts (sym (ap (λ n. n % 1000) c.get.ensures.value) ∙ c.if-get-ne0.false) (sym c.make.ensures ∙ c.in-Ok.is)

pub returns-in-Err : goal.returns-in-Err
returns-in-Err c =
    let parts = rw c.in-Some.is at c.in_ok-parts.ensures in
    refused c.args.bytes.now c.args.place c.in-Some.parts c.in-Some.next parts
    (faulty c.in-Some.parts c.in-Err.field-0 (sym c.make.ensures ∙ c.in-Err.is))
