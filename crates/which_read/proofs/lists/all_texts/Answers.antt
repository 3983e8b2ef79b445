use Rattle.std.proofs.Common.{◌∙◌, [], map, ap, sym}
use Rattle.std.proofs.lemmas.List.{take_all}
use Rattle.std.proofs.lemmas.Result.{err_from_is_err_and}
use Rattle.exact_json.specs.View.{tree_of}
use Rattle.json_fields.specs.Fields.{as_text}
use Rattle.json_fields.specs.Items.{item_at, items_in}
use Rattle.json_fields.specs.declared.flaw.ListFlaw.{ListFlaw}
use Rattle.json_fields.proofs.Each.{no_faults_yet, read_first, read_still}
use Rattle.which_read.proofs.Texts.{texts_read}
use Rattle.which_read.proofs.lists.all_texts.Goals as goal

pub loop-place-init : goal.loop-place-init
loop-place-init c = no_faults_yet (item_at [] as_text)

pub returns-in_err-check_text : goal.returns-in_err-check_text
returns-in_err-check_text c =
    let p = err_from_is_err_and c.from_residual.result c.from_residual.ensures.1 in
    rw (p.1, p.2)
    (read_first ListFlaw.Memory (item_at [] as_text) tree_of c.args.values.now c.loop-place.place c.index-values-place.result _ c.loop-place-test.true c.index-values-place.is c.loop-place.invariant c.in_err-check_text.ensures)

pub loop-place-preserved : goal.loop-place-preserved
loop-place-preserved c =
    read_still (item_at [] as_text) tree_of c.args.values.now c.loop-place.place c.index-values-place.result c.loop-place-test.true c.index-values-place.is c.loop-place.invariant c.in_ok-check_text.ensures.0

pub returns : goal.returns
returns c =
    let vs = c.args.values.now in
    (ap (λ xs. (items_in [] as_text (map tree_of xs)).faults) (sym (take_all c.loop-place.place vs c.loop-place-test.false)) ∙ c.loop-place.invariant, c.new.ensures ∙ sym (texts_read vs))
