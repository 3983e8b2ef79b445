use Rattle.std.proofs.Common.{◌≡◌, ◌++◌}
use Rattle.std.specs.Prelude.{codes}
use Rattle.exchange_run.specs.Explain.{compact_example, example_line, recover_example, serve_example}
use Rattle.exchange_run.proofs.Appending.{further, nothing, stayed}
use Rattle.exchange_run.proofs.wrong_words.put_examples.Goals as goal

pub returns-in_err-extend-clause-front : goal.returns-in_err-extend-clause-front
returns-in_err-extend-clause-front c = nothing c.args.out.now c.extend.new.self c.in_err-extend.ensures.err

pub returns-in_err-extend-2-clause-front : goal.returns-in_err-extend-2-clause-front
returns-in_err-extend-2-clause-front c =
    let out = c.args.out.now in
    let e1 : c.extend.new.self ≡ out ++ codes "rtbx: no command is named\n" = c.in_ok-extend.ensures.ok in
    stayed out (codes "rtbx: no command is named\n") c.extend.new.self c.extend-2.new.self e1 c.in_err-extend-2.ensures.err

pub returns-in_err-extend-3-clause-front : goal.returns-in_err-extend-3-clause-front
returns-in_err-extend-3-clause-front c =
    let out = c.args.out.now in
    let e1 : c.extend.new.self ≡ out ++ codes "rtbx: no command is named\n" = c.in_ok-extend.ensures.ok in
    let e2 = further out (codes "rtbx: no command is named\n") c.extend.new.self example_line c.extend-2.new.self e1 c.in_ok-extend-2.ensures.ok in
    stayed out (codes "rtbx: no command is named\n" ++ example_line) c.extend-2.new.self c.extend-3.new.self e2 c.in_err-extend-3.ensures.err

pub returns-in_err-extend-4-clause-front : goal.returns-in_err-extend-4-clause-front
returns-in_err-extend-4-clause-front c =
    let out = c.args.out.now in
    let e1 : c.extend.new.self ≡ out ++ codes "rtbx: no command is named\n" = c.in_ok-extend.ensures.ok in
    let e2 = further out (codes "rtbx: no command is named\n") c.extend.new.self example_line c.extend-2.new.self e1 c.in_ok-extend-2.ensures.ok in
    let e3 = further out (codes "rtbx: no command is named\n" ++ example_line) c.extend-2.new.self serve_example c.extend-3.new.self e2 c.in_ok-extend-3.ensures.ok in
    stayed out (codes "rtbx: no command is named\n" ++ example_line ++ serve_example) c.extend-3.new.self c.extend-4.new.self e3 c.in_err-extend-4.ensures.err

pub returns-in_err-extend-5-clause-front : goal.returns-in_err-extend-5-clause-front
returns-in_err-extend-5-clause-front c =
    let out = c.args.out.now in
    let e1 : c.extend.new.self ≡ out ++ codes "rtbx: no command is named\n" = c.in_ok-extend.ensures.ok in
    let e2 = further out (codes "rtbx: no command is named\n") c.extend.new.self example_line c.extend-2.new.self e1 c.in_ok-extend-2.ensures.ok in
    let e3 = further out (codes "rtbx: no command is named\n" ++ example_line) c.extend-2.new.self serve_example c.extend-3.new.self e2 c.in_ok-extend-3.ensures.ok in
    let e4 = further out (codes "rtbx: no command is named\n" ++ example_line ++ serve_example) c.extend-3.new.self recover_example c.extend-4.new.self e3 c.in_ok-extend-4.ensures.ok in
    stayed out (codes "rtbx: no command is named\n" ++ example_line ++ serve_example ++ recover_example) c.extend-4.new.self c.extend-5.new.self e4 c.in_err-extend-5.ensures.err

pub returns-clause-front : goal.returns-clause-front
returns-clause-front c =
    let out = c.args.out.now in
    let e1 : c.extend.new.self ≡ out ++ codes "rtbx: no command is named\n" = c.in_ok-extend.ensures.ok in
    let e2 = further out (codes "rtbx: no command is named\n") c.extend.new.self example_line c.extend-2.new.self e1 c.in_ok-extend-2.ensures.ok in
    let e3 = further out (codes "rtbx: no command is named\n" ++ example_line) c.extend-2.new.self serve_example c.extend-3.new.self e2 c.in_ok-extend-3.ensures.ok in
    let e4 = further out (codes "rtbx: no command is named\n" ++ example_line ++ serve_example) c.extend-3.new.self recover_example c.extend-4.new.self e3 c.in_ok-extend-4.ensures.ok in
    let e5 = further out (codes "rtbx: no command is named\n" ++ example_line ++ serve_example ++ recover_example) c.extend-4.new.self compact_example c.extend-5.new.self e4 c.in_ok-extend-5.ensures.ok in
    (codes "rtbx: no command is named\n" ++ example_line ++ serve_example ++ recover_example ++ compact_example, e5)

pub returns-clause-ok : goal.returns-clause-ok
returns-clause-ok c =
    let out = c.args.out.now in
    let e1 : c.extend.new.self ≡ out ++ codes "rtbx: no command is named\n" = c.in_ok-extend.ensures.ok in
    let e2 = further out (codes "rtbx: no command is named\n") c.extend.new.self example_line c.extend-2.new.self e1 c.in_ok-extend-2.ensures.ok in
    let e3 = further out (codes "rtbx: no command is named\n" ++ example_line) c.extend-2.new.self serve_example c.extend-3.new.self e2 c.in_ok-extend-3.ensures.ok in
    let e4 = further out (codes "rtbx: no command is named\n" ++ example_line ++ serve_example) c.extend-3.new.self recover_example c.extend-4.new.self e3 c.in_ok-extend-4.ensures.ok in
    let e5 = further out (codes "rtbx: no command is named\n" ++ example_line ++ serve_example ++ recover_example) c.extend-4.new.self compact_example c.extend-5.new.self e4 c.in_ok-extend-5.ensures.ok in
    e5
