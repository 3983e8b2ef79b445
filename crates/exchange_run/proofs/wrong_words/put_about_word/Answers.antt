use Rattle.std.proofs.Common.{◌≡◌, ◌++◌, ◌∙◌, ap}
use Rattle.std.specs.Prelude.{codes}
use Rattle.json_out.specs.Strings.{string_text}
use Rattle.exchange_run.specs.Explain.{example_line}
use Rattle.exchange_run.proofs.Appending.{further, nothing, stayed}
use Rattle.exchange_run.proofs.Endings.{in_four}
use Rattle.exchange_run.proofs.wrong_words.put_about_word.Goals as goal

pub returns-clause-ok : goal.returns-clause-ok
returns-clause-ok c =
    let out = c.args.out.now in
    let word = c.args.word.now in
    let why = c.args.why.now in
    let one = c.in_ok-extend.ensures.ok in
    let two = c.in_ok-push_string.ensures.ok ∙ ap (λ s. c.extend.new.self ++ string_text s) c.as_bytes.ensures.value ∙ ap (λ l. l ++ string_text word) one in
    let three = c.in_ok-extend-2.ensures.ok ∙ ap (λ l. l ++ why) two in
    c.in_ok-extend-3.ensures.ok ∙ ap (λ l. l ++ example_line) three ∙ in_four out (codes "rtbx: ") (string_text word) why example_line

pub returns-in_err-extend-clause-front : goal.returns-in_err-extend-clause-front
returns-in_err-extend-clause-front c = nothing c.args.out.now c.extend.new.self c.in_err-extend.ensures.err

pub returns-in_err-push_string-clause-front : goal.returns-in_err-push_string-clause-front
returns-in_err-push_string-clause-front c =
    let out = c.args.out.now in
    let e1 : c.extend.new.self ≡ out ++ codes "rtbx: " = c.in_ok-extend.ensures.ok in
    let more = c.in_err-push_string.ensures.front in
    (codes "rtbx: " ++ more.0, further out (codes "rtbx: ") c.extend.new.self more.0 c.push_string.new.out e1 more.1)

pub returns-in_err-extend-2-clause-front : goal.returns-in_err-extend-2-clause-front
returns-in_err-extend-2-clause-front c =
    let out = c.args.out.now in
    let e1 : c.extend.new.self ≡ out ++ codes "rtbx: " = c.in_ok-extend.ensures.ok in
    let word = string_text c.as_bytes.result.now in
    let e2 = further out (codes "rtbx: ") c.extend.new.self word c.push_string.new.out e1 c.in_ok-push_string.ensures.ok in
    stayed out (codes "rtbx: " ++ word) c.push_string.new.out c.extend-2.new.self e2 c.in_err-extend-2.ensures.err

pub returns-in_err-extend-3-clause-front : goal.returns-in_err-extend-3-clause-front
returns-in_err-extend-3-clause-front c =
    let out = c.args.out.now in
    let e1 : c.extend.new.self ≡ out ++ codes "rtbx: " = c.in_ok-extend.ensures.ok in
    let word = string_text c.as_bytes.result.now in
    let e2 = further out (codes "rtbx: ") c.extend.new.self word c.push_string.new.out e1 c.in_ok-push_string.ensures.ok in
    let e3 = further out (codes "rtbx: " ++ word) c.push_string.new.out c.args.why.now c.extend-2.new.self e2 c.in_ok-extend-2.ensures.ok in
    stayed out (codes "rtbx: " ++ word ++ c.args.why.now) c.extend-2.new.self c.extend-3.new.self e3 c.in_err-extend-3.ensures.err

pub returns-clause-front : goal.returns-clause-front
returns-clause-front c =
    let out = c.args.out.now in
    let e1 : c.extend.new.self ≡ out ++ codes "rtbx: " = c.in_ok-extend.ensures.ok in
    let word = string_text c.as_bytes.result.now in
    let e2 = further out (codes "rtbx: ") c.extend.new.self word c.push_string.new.out e1 c.in_ok-push_string.ensures.ok in
    let e3 = further out (codes "rtbx: " ++ word) c.push_string.new.out c.args.why.now c.extend-2.new.self e2 c.in_ok-extend-2.ensures.ok in
    let e4 = further out (codes "rtbx: " ++ word ++ c.args.why.now) c.extend-2.new.self example_line c.extend-3.new.self e3 c.in_ok-extend-3.ensures.ok in
    (codes "rtbx: " ++ word ++ c.args.why.now ++ example_line, e4)
