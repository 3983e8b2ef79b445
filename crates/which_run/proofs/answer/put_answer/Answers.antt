use Rattle.std.proofs.Common.{◌≡◌, ◌∙◌, ap, false, map, List, [], ◌∷◌}
use Rattle.std.specs.Prelude.{codes}
use Rattle.json_out.specs.declared.places.Place.TheVariants.{Object}
use Rattle.json_out.specs.Inside.{in_object}
use Rattle.json_out.specs.Texts.{Member, array_text}
use Rattle.json_out.specs.Writer.{begin, blank, is_whole, put_name, put_value}
use Rattle.json_out.proofs.Objects.{closes, members_are}
use Rattle.which_run.specs.Texts.{best_text, mark_text, scored_text}
use Rattle.which_run.proofs.answer.put_answer.Goals as goal

pub returns-clause-whole : goal.returns-clause-whole
returns-clause-whole c =
    let top : Member = (codes "top", array_text (map scored_text c.args.best.now)) in
    let proof : Member = (codes "proof", array_text (map mark_text c.args.marks.now)) in
    let all : List Member = top ∷ proof ∷ [] in
    let best = c.in_ok-put_best.ensures ∙ ap (λ v. put_value v top.1) (c.in_ok-name.ensures.ok ∙ ap (λ v. put_name v (codes "top")) (c.in_ok-obj.ensures.ok ∙ ap (λ v. begin v (Object false false)) c.requires)) in
    let is : c.put_marks.new.writer ≡ in_object blank all =
    c.in_ok-put_marks.ensures ∙ ap (λ v. put_value v proof.1) (c.in_ok-name-2.ensures.ok ∙ ap (λ v. put_name v (codes "proof")) best) ∙ members_are blank [] all in
    ap is_whole c.in_ok-end.ensures.ok ∙ (closes c.put_marks.new.writer all is).1

pub returns-clause-text : goal.returns-clause-text
unfolding best_text
returns-clause-text c =
    let top : Member = (codes "top", array_text (map scored_text c.args.best.now)) in
    let proof : Member = (codes "proof", array_text (map mark_text c.args.marks.now)) in
    let all : List Member = top ∷ proof ∷ [] in
    let best = c.in_ok-put_best.ensures ∙ ap (λ v. put_value v top.1) (c.in_ok-name.ensures.ok ∙ ap (λ v. put_name v (codes "top")) (c.in_ok-obj.ensures.ok ∙ ap (λ v. begin v (Object false false)) c.requires)) in
    let is : c.put_marks.new.writer ≡ in_object blank all =
    c.in_ok-put_marks.ensures ∙ ap (λ v. put_value v proof.1) (c.in_ok-name-2.ensures.ok ∙ ap (λ v. put_name v (codes "proof")) best) ∙ members_are blank [] all in
    ap (λ v. v.text) c.in_ok-end.ensures.ok ∙ (closes c.put_marks.new.writer all is).2
