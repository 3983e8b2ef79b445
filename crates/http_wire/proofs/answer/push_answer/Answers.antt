use Rattle.std.proofs.Common.{◌≡◌, ℕ, List, [], ◌++◌, ◌∙◌, sym, ap, subst, append_assoc, length, decimal, OnOk}
use Rattle.std.proofs.lemmas.List.{append-nil}
use Rattle.http_wire.specs.Answers.{answer_text, crlf, length_line, status_line, type_line}
use Rattle.http_wire.specs.Common.{common_front}
use Rattle.http_wire.proofs.Commons.{is_bare, is_common}
use Rattle.http_wire.proofs.answer.push_answer.Goals as goal

-- What was appended, and then more.
further : (old text middle more new : List ℕ) → middle ≡ old ++ text → new ≡ middle ++ more → new ≡ old ++ (text ++ more)
further old text middle more new p q = q ∙ ap (λ l. l ++ more) p ∙ append_assoc old text more

behind : (old middle new : List ℕ) → ((text : List ℕ) × (middle ≡ old ++ text)) → ((more : List ℕ) × (new ≡ middle ++ more)) → (more : List ℕ) × (new ≡ old ++ more)
behind old middle new p q = (p.0 ++ q.0, further old p.0 middle q.0 new p.1 q.1)

-- What was not changed.
stayed : (old middle new : List ℕ) → ((text : List ℕ) × (middle ≡ old ++ text)) → new ≡ middle → (more : List ℕ) × (new ≡ old ++ more)
stayed old middle new p e = (p.0, e ∙ p.1)

pub returns-then-is_common-clause-ok : goal.returns-then-is_common-clause-ok
returns-then-is_common-clause-ok c =
    let told = c.is_common.ensures in
    let yes = c.if-is_common.true in
    let out = c.args.out.now in
    let is = is_common c.args.answer.now c.args.closes out (told.status yes) (told.allow yes) (told.stays yes) (told.least yes) in
    let same = ap (λ b. out ++ common_front ++ (decimal (length b) ++ crlf ++ crlf) ++ b) c.as_bytes-body.ensures.value in
    subst (λ t. OnOk c.push_common.result (c.push_common.new.out ≡ t)) (same ∙ is) c.push_common.ensures.ok

pub returns-then-is_bare-clause-ok : goal.returns-then-is_bare-clause-ok
returns-then-is_bare-clause-ok c =
    let told = c.is_bare.ensures in
    let yes = c.if-is_bare.true in
    let is = is_bare c.args.answer.now c.args.closes c.args.out.now (told.status yes) (told.allow yes) (told.stays yes) (told.body yes) in
    subst (λ t. OnOk c.push_bare.result (c.push_bare.new.out ≡ t)) is c.push_bare.ensures.ok

pub returns-in_err-extend-clause-front : goal.returns-in_err-extend-clause-front
returns-in_err-extend-clause-front c = ([], c.in_err-extend.ensures.err ∙ sym (append-nil c.args.out.now))

pub returns-in_err-extend-2-clause-front : goal.returns-in_err-extend-2-clause-front
returns-in_err-extend-2-clause-front c =
    let f1 : (more : List ℕ) × (c.extend.new.self ≡ c.args.out.now ++ more) = (_, c.in_ok-extend.ensures.ok) in
    stayed c.args.out.now _ _ f1 c.in_err-extend-2.ensures.err

pub returns-in_err-extend-3-clause-front : goal.returns-in_err-extend-3-clause-front
returns-in_err-extend-3-clause-front c =
    let f1 : (more : List ℕ) × (c.extend.new.self ≡ c.args.out.now ++ more) = (_, c.in_ok-extend.ensures.ok) in
    let f2 = behind c.args.out.now _ _ f1 (_, c.in_ok-extend-2.ensures.ok) in
    stayed c.args.out.now _ _ f2 c.in_err-extend-3.ensures.err

pub returns-in_err-push_length-clause-front : goal.returns-in_err-push_length-clause-front
returns-in_err-push_length-clause-front c =
    let f1 : (more : List ℕ) × (c.extend.new.self ≡ c.args.out.now ++ more) = (_, c.in_ok-extend.ensures.ok) in
    let f2 = behind c.args.out.now _ _ f1 (_, c.in_ok-extend-2.ensures.ok) in
    let f3 = behind c.args.out.now _ _ f2 (_, c.in_ok-extend-3.ensures.ok) in
    behind c.args.out.now _ _ f3 c.in_err-push_length.ensures.front

pub returns-in_err-extend-4-clause-front : goal.returns-in_err-extend-4-clause-front
returns-in_err-extend-4-clause-front c =
    let f1 : (more : List ℕ) × (c.extend.new.self ≡ c.args.out.now ++ more) = (_, c.in_ok-extend.ensures.ok) in
    let f2 = behind c.args.out.now _ _ f1 (_, c.in_ok-extend-2.ensures.ok) in
    let f3 = behind c.args.out.now _ _ f2 (_, c.in_ok-extend-3.ensures.ok) in
    let f4 = behind c.args.out.now _ _ f3 c.in_ok-push_length.ensures.front in
    stayed c.args.out.now _ _ f4 c.in_err-extend-4.ensures.err

pub returns-in_err-extend-5-clause-front : goal.returns-in_err-extend-5-clause-front
returns-in_err-extend-5-clause-front c =
    let f1 : (more : List ℕ) × (c.extend.new.self ≡ c.args.out.now ++ more) = (_, c.in_ok-extend.ensures.ok) in
    let f2 = behind c.args.out.now _ _ f1 (_, c.in_ok-extend-2.ensures.ok) in
    let f3 = behind c.args.out.now _ _ f2 (_, c.in_ok-extend-3.ensures.ok) in
    let f4 = behind c.args.out.now _ _ f3 c.in_ok-push_length.ensures.front in
    let f5 = behind c.args.out.now _ _ f4 (_, c.in_ok-extend-4.ensures.ok) in
    stayed c.args.out.now _ _ f5 c.in_err-extend-5.ensures.err

pub returns-in_err-extend-6-clause-front : goal.returns-in_err-extend-6-clause-front
returns-in_err-extend-6-clause-front c =
    let f1 : (more : List ℕ) × (c.extend.new.self ≡ c.args.out.now ++ more) = (_, c.in_ok-extend.ensures.ok) in
    let f2 = behind c.args.out.now _ _ f1 (_, c.in_ok-extend-2.ensures.ok) in
    let f3 = behind c.args.out.now _ _ f2 (_, c.in_ok-extend-3.ensures.ok) in
    let f4 = behind c.args.out.now _ _ f3 c.in_ok-push_length.ensures.front in
    let f5 = behind c.args.out.now _ _ f4 (_, c.in_ok-extend-4.ensures.ok) in
    let f6 = behind c.args.out.now _ _ f5 (_, c.in_ok-extend-5.ensures.ok) in
    stayed c.args.out.now _ _ f6 c.in_err-extend-6.ensures.err

pub returns-clause-front : goal.returns-clause-front
returns-clause-front c =
    let f1 : (more : List ℕ) × (c.extend.new.self ≡ c.args.out.now ++ more) = (_, c.in_ok-extend.ensures.ok) in
    let f2 = behind c.args.out.now _ _ f1 (_, c.in_ok-extend-2.ensures.ok) in
    let f3 = behind c.args.out.now _ _ f2 (_, c.in_ok-extend-3.ensures.ok) in
    let f4 = behind c.args.out.now _ _ f3 c.in_ok-push_length.ensures.front in
    let f5 = behind c.args.out.now _ _ f4 (_, c.in_ok-extend-4.ensures.ok) in
    let f6 = behind c.args.out.now _ _ f5 (_, c.in_ok-extend-5.ensures.ok) in
    behind c.args.out.now _ _ f6 (_, c.in_ok-extend-6.ensures.ok)

pub returns-clause-ok : goal.returns-clause-ok
unfolding answer_text
returns-clause-ok c =
    let answer = c.args.answer.now in
    let out = c.args.out.now in
    let one : c.extend.new.self ≡ out ++ status_line answer.status = c.in_ok-extend.ensures.ok ∙ ap (λ l. out ++ l) c.status_line.ensures in
    let body_is = c.as_bytes-body.ensures.value in
    let two = further out _ _ _ _ one (c.in_ok-extend-2.ensures.ok ∙ ap (λ l. c.extend.new.self ++ l) c.allow_line.ensures) in
    let three = further out _ _ _ _ two (c.in_ok-extend-3.ensures.ok ∙ ap (λ l. c.extend-2.new.self ++ l) (c.type_line.ensures ∙ ap type_line body_is)) in
    let four = further out _ _ _ _ three (c.in_ok-push_length.ensures.ok ∙ ap (λ b. c.extend-3.new.self ++ length_line answer.status b) body_is) in
    let five = further out _ _ _ _ four (c.in_ok-extend-4.ensures.ok ∙ ap (λ l. c.push_length.new.out ++ l) c.close_line.ensures) in
    let six = further out _ _ _ _ five c.in_ok-extend-5.ensures.ok in
    further out _ _ _ _ six (c.in_ok-extend-6.ensures.ok ∙ ap (λ l. c.extend-5.new.self ++ l) body_is)
