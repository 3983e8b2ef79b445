use Rattle.std.proofs.Common.{◌++◌, append_assoc, ◌∙◌, ap}
use Rattle.exchange_run.specs.Explain.{audit_example, examples, follow_example, make_example, which_example}
use Rattle.exchange_run.proofs.Appending.{further, stayed}
use Rattle.exchange_run.proofs.wrong_words.put_all_examples.Goals as goal

pub returns-in_err-extend-clause-front : goal.returns-in_err-extend-clause-front
returns-in_err-extend-clause-front c =
    stayed c.args.out.now examples c.put_examples.new.out c.extend.new.self c.in_ok-put_examples.ensures.ok c.in_err-extend.ensures.err

pub returns-in_err-extend-2-clause-front : goal.returns-in_err-extend-2-clause-front
returns-in_err-extend-2-clause-front c =
    let e1 = further c.args.out.now examples c.put_examples.new.out follow_example c.extend.new.self c.in_ok-put_examples.ensures.ok c.in_ok-extend.ensures.ok in
    stayed c.args.out.now (examples ++ follow_example) c.extend.new.self c.extend-2.new.self e1 c.in_err-extend-2.ensures.err

pub returns-in_err-extend-3-clause-front : goal.returns-in_err-extend-3-clause-front
returns-in_err-extend-3-clause-front c =
    let e1 = further c.args.out.now examples c.put_examples.new.out follow_example c.extend.new.self c.in_ok-put_examples.ensures.ok c.in_ok-extend.ensures.ok in
    let e2 = further c.args.out.now (examples ++ follow_example) c.extend.new.self which_example c.extend-2.new.self e1 c.in_ok-extend-2.ensures.ok in
    stayed c.args.out.now ((examples ++ follow_example) ++ which_example) c.extend-2.new.self c.extend-3.new.self e2 c.in_err-extend-3.ensures.err

pub returns-in_err-extend-4-clause-front : goal.returns-in_err-extend-4-clause-front
returns-in_err-extend-4-clause-front c =
    let e1 = further c.args.out.now examples c.put_examples.new.out follow_example c.extend.new.self c.in_ok-put_examples.ensures.ok c.in_ok-extend.ensures.ok in
    let e2 = further c.args.out.now (examples ++ follow_example) c.extend.new.self which_example c.extend-2.new.self e1 c.in_ok-extend-2.ensures.ok in
    let e3 = further c.args.out.now ((examples ++ follow_example) ++ which_example) c.extend-2.new.self audit_example c.extend-3.new.self e2 c.in_ok-extend-3.ensures.ok in
    stayed c.args.out.now (((examples ++ follow_example) ++ which_example) ++ audit_example) c.extend-3.new.self c.extend-4.new.self e3 c.in_err-extend-4.ensures.err

pub returns-clause-front : goal.returns-clause-front
returns-clause-front c =
    let e1 = further c.args.out.now examples c.put_examples.new.out follow_example c.extend.new.self c.in_ok-put_examples.ensures.ok c.in_ok-extend.ensures.ok in
    let e2 = further c.args.out.now (examples ++ follow_example) c.extend.new.self which_example c.extend-2.new.self e1 c.in_ok-extend-2.ensures.ok in
    let e3 = further c.args.out.now ((examples ++ follow_example) ++ which_example) c.extend-2.new.self audit_example c.extend-3.new.self e2 c.in_ok-extend-3.ensures.ok in
    let e4 = further c.args.out.now (((examples ++ follow_example) ++ which_example) ++ audit_example) c.extend-3.new.self make_example c.extend-4.new.self e3 c.in_ok-extend-4.ensures.ok in
    ((((examples ++ follow_example) ++ which_example) ++ audit_example) ++ make_example, e4)

pub returns-clause-ok : goal.returns-clause-ok
returns-clause-ok c =
    let e1 = further c.args.out.now examples c.put_examples.new.out follow_example c.extend.new.self c.in_ok-put_examples.ensures.ok c.in_ok-extend.ensures.ok in
    let e2 = further c.args.out.now (examples ++ follow_example) c.extend.new.self which_example c.extend-2.new.self e1 c.in_ok-extend-2.ensures.ok in
    let e3 = further c.args.out.now ((examples ++ follow_example) ++ which_example) c.extend-2.new.self audit_example c.extend-3.new.self e2 c.in_ok-extend-3.ensures.ok in
    let e4 = further c.args.out.now (((examples ++ follow_example) ++ which_example) ++ audit_example) c.extend-3.new.self make_example c.extend-4.new.self e3 c.in_ok-extend-4.ensures.ok in
    let last = append_assoc ((examples ++ follow_example) ++ which_example) audit_example make_example in
    let third = append_assoc (examples ++ follow_example) which_example (audit_example ++ make_example) in
    let second = append_assoc examples follow_example (which_example ++ (audit_example ++ make_example)) in
    e4 ∙ ap (λ l. c.args.out.now ++ l) (last ∙ third ∙ second)
