use Rattle.std.proofs.Common.{◌≡◌, ◌∙◌, ap}
use Rattle.std.proofs.lemmas.Result.{IfOk-weaker}
use Rattle.top_match.specs.Certificate.{marks_of}
use Rattle.top_match.specs.Top.{top_list}
use Rattle.which_read.specs.Judged.{judged}
use Rattle.which_read.specs.Request.{Request}
use Rattle.which_read.specs.declared.request.Judged.{Judged}
use Rattle.which_run.specs.Texts.{best_text}
use Rattle.which_run.proofs.answer.answer_text.Goals as goal

pub returns : goal.returns
returns c =
    IfOk-weaker c.best_text.result (λ t. t ≡ best_text c.as_slice.result.now c.as_slice-2.result.now)
    (λ t. (r : Request) → c.args.asked ≡ judged r → t ≡ best_text (top_list r.expressions r.assignment r.n) (marks_of r.expressions r.assignment (top_list r.expressions r.assignment r.n)))
    (λ t is r given.
    let es = r.expressions in
    let a = r.assignment in
    let reasons = ap (λ (q : Judged). q.reasons) given in
    let best = c.in_ok-best.ensures es a reasons ∙ ap (top_list es a) (ap (λ (q : Judged). q.n) given) in
    let marks = c.marks_from-marks.ensures es a reasons in
    is ∙ ap (λ b. best_text b c.as_slice-2.result.now) c.as_slice.ensures
    ∙ ap (best_text c.in_ok-best.best) (c.as_slice-2.ensures ∙ marks)
    ∙ ap (λ b. best_text b (marks_of es a b)) best)
    c.best_text.ensures
