use Rattle.std.proofs.Common.{◌++◌, ◌∙◌, ap}
use Rattle.byte_fields.specs.Encodings.{byte_bytes, eight_bytes, four_bytes, option_bytes, text_bytes}
use Rattle.effects.specs.Bytes.{state_number}
use Rattle.effects.proofs.Fronts.{begun, front_after, front_of, more_after, nothing_after, still_after}
use Rattle.effects.proofs.parts.put_row.Goals as goal

pub returns-in_err-put_four-clause-front : goal.returns-in_err-put_four-clause-front
returns-in_err-put_four-clause-front c = nothing_after c.args.out.now c.in_err-put_four.ensures.err

pub returns-in_err-put_eight-clause-front : goal.returns-in_err-put_eight-clause-front
returns-in_err-put_eight-clause-front c =
    let r = c.args.row.now in
    let e1 = begun c.args.out.now (four_bytes r.campaign) c.in_ok-put_four.ensures.ok in
    still_after e1 c.in_err-put_eight.ensures.err

pub returns-in_err-put_eight-2-clause-front : goal.returns-in_err-put_eight-2-clause-front
returns-in_err-put_eight-2-clause-front c =
    let r = c.args.row.now in
    let e1 = begun c.args.out.now (four_bytes r.campaign) c.in_ok-put_four.ensures.ok in
    let e2 = more_after (eight_bytes r.price) e1 (c.in_ok-put_eight.ensures.ok ∙ ap (λ n. c.put_four.new.out ++ eight_bytes n) c.get.ensures.value) in
    still_after e2 c.in_err-put_eight-2.ensures.err

pub returns-in_err-put_eight-3-clause-front : goal.returns-in_err-put_eight-3-clause-front
returns-in_err-put_eight-3-clause-front c =
    let r = c.args.row.now in
    let e1 = begun c.args.out.now (four_bytes r.campaign) c.in_ok-put_four.ensures.ok in
    let e2 = more_after (eight_bytes r.price) e1 (c.in_ok-put_eight.ensures.ok ∙ ap (λ n. c.put_four.new.out ++ eight_bytes n) c.get.ensures.value) in
    let e3 = more_after (eight_bytes r.moment) e2 c.in_ok-put_eight-2.ensures.ok in
    still_after e3 c.in_err-put_eight-3.ensures.err

pub returns-in_err-put_byte-clause-front : goal.returns-in_err-put_byte-clause-front
returns-in_err-put_byte-clause-front c =
    let r = c.args.row.now in
    let e1 = begun c.args.out.now (four_bytes r.campaign) c.in_ok-put_four.ensures.ok in
    let e2 = more_after (eight_bytes r.price) e1 (c.in_ok-put_eight.ensures.ok ∙ ap (λ n. c.put_four.new.out ++ eight_bytes n) c.get.ensures.value) in
    let e3 = more_after (eight_bytes r.moment) e2 c.in_ok-put_eight-2.ensures.ok in
    let e4 = more_after (eight_bytes r.due) e3 c.in_ok-put_eight-3.ensures.ok in
    still_after e4 c.in_err-put_byte.ensures.err

pub returns-in_err-put_optional_user-clause-front : goal.returns-in_err-put_optional_user-clause-front
returns-in_err-put_optional_user-clause-front c =
    let r = c.args.row.now in
    let e1 = begun c.args.out.now (four_bytes r.campaign) c.in_ok-put_four.ensures.ok in
    let e2 = more_after (eight_bytes r.price) e1 (c.in_ok-put_eight.ensures.ok ∙ ap (λ n. c.put_four.new.out ++ eight_bytes n) c.get.ensures.value) in
    let e3 = more_after (eight_bytes r.moment) e2 c.in_ok-put_eight-2.ensures.ok in
    let e4 = more_after (eight_bytes r.due) e3 c.in_ok-put_eight-3.ensures.ok in
    let e5 = more_after (byte_bytes (state_number r.state)) e4 (c.in_ok-put_byte.ensures.ok ∙ ap (λ n. c.put_eight-3.new.out ++ byte_bytes n) c.state_number.ensures) in
    front_after e5 c.in_err-put_optional_user.ensures.front

pub returns-clause-ok : goal.returns-clause-ok
returns-clause-ok c =
    let r = c.args.row.now in
    let e1 = begun c.args.out.now (four_bytes r.campaign) c.in_ok-put_four.ensures.ok in
    let e2 = more_after (eight_bytes r.price) e1 (c.in_ok-put_eight.ensures.ok ∙ ap (λ n. c.put_four.new.out ++ eight_bytes n) c.get.ensures.value) in
    let e3 = more_after (eight_bytes r.moment) e2 c.in_ok-put_eight-2.ensures.ok in
    let e4 = more_after (eight_bytes r.due) e3 c.in_ok-put_eight-3.ensures.ok in
    let e5 = more_after (byte_bytes (state_number r.state)) e4 (c.in_ok-put_byte.ensures.ok ∙ ap (λ n. c.put_eight-3.new.out ++ byte_bytes n) c.state_number.ensures) in
    let e6 = more_after (option_bytes text_bytes r.user) e5 c.in_ok-put_optional_user.ensures.ok in
    e6.is

pub returns-clause-front : goal.returns-clause-front
returns-clause-front c =
    let r = c.args.row.now in
    let e1 = begun c.args.out.now (four_bytes r.campaign) c.in_ok-put_four.ensures.ok in
    let e2 = more_after (eight_bytes r.price) e1 (c.in_ok-put_eight.ensures.ok ∙ ap (λ n. c.put_four.new.out ++ eight_bytes n) c.get.ensures.value) in
    let e3 = more_after (eight_bytes r.moment) e2 c.in_ok-put_eight-2.ensures.ok in
    let e4 = more_after (eight_bytes r.due) e3 c.in_ok-put_eight-3.ensures.ok in
    let e5 = more_after (byte_bytes (state_number r.state)) e4 (c.in_ok-put_byte.ensures.ok ∙ ap (λ n. c.put_eight-3.new.out ++ byte_bytes n) c.state_number.ensures) in
    let e6 = more_after (option_bytes text_bytes r.user) e5 c.in_ok-put_optional_user.ensures.ok in
    front_of e6
