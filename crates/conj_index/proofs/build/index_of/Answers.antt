use Rattle.std.proofs.Common.{◌≡◌, ◌+◌, ◌∙◌, ap, arith, length}
use Rattle.std.proofs.lemmas.List.{length-map}
use Rattle.std.proofs.lemmas.Result.{IfOk-from_err}
use Rattle.target_expr.specs.Pairs.{size_of, sizes_of}
use Rattle.conj_index.specs.Campaigns.{expression_of}
use Rattle.conj_index.specs.Content.{conjunctions_of}
use Rattle.conj_index.specs.Growing.{AreFull, greatest, zero_of}
use Rattle.conj_index.proofs.Built.{full_parts, full_rise, index_stands}
use Rattle.conj_index.proofs.build.index_of.Goals as goal

pub finish_all-requires : goal.finish_all-requires
finish_all-requires g c =
    full_rise (conjunctions_of c.args.added.now) c.push_zero_list.new.parts.items
    (full_parts c.args.added.now c.in_ok-zeros.zeros.items c.enter_all.new.parts.items c.push_zero_list.new.parts.items c.in_ok-owners.ensures.kept
    (c.in_ok-zeros.ensures ∙ ap zero_of (c.as_slice.ensures.value ∙ c.in_ok-sizes.ensures)) c.in_ok-enter_all.ensures.grown c.in_ok-push_zero_list.ensures.zero)

pub returns-clause-content : goal.returns-clause-content
returns-clause-content g c =
    let full : AreFull (conjunctions_of c.args.added.now) c.push_zero_list.new.parts.items =
    full_parts c.args.added.now c.in_ok-zeros.zeros.items c.enter_all.new.parts.items c.push_zero_list.new.parts.items c.in_ok-owners.ensures.kept
    (c.in_ok-zeros.ensures ∙ ap zero_of (c.as_slice.ensures.value ∙ c.in_ok-sizes.ensures)) c.in_ok-enter_all.ensures.grown c.in_ok-push_zero_list.ensures.zero in
    let count : length c.push_zero_list.new.parts.items ≡ greatest (sizes_of (expression_of c.args.added.now)) + 1 =
    c.push_zero_list.ensures.count ∙ c.enter_all.ensures.count ∙ c.in_ok-growing.ensures.count
    ∙ ap (λ n. n + 1) (c.greatest.ensures ∙ ap greatest (c.as_slice-2.ensures.value ∙ c.in_ok-sizes.ensures)) in
    index_stands c.args.added.now (record { owners = c.in_ok-owners.owners; parts = c.in_ok-parts.parts }) c.push_zero_list.new.parts.items
    c.requires.rising c.in_ok-owners.ensures.kept c.in_ok-owners.ensures.owners count full c.in_ok-parts.ensures

pub zero_list-requires : goal.zero_list-requires
zero_list-requires g c =
    omega (arith, ap length (c.as_slice.ensures.value ∙ c.in_ok-sizes.ensures), length-map (expression_of c.args.added.now) size_of, c.requires.few)

pub enter_all-requires-clause-empty : goal.enter_all-requires-clause-empty
enter_all-requires-clause-empty g c = c.in_ok-growing.ensures.empty

pub enter_all-requires-clause-within : goal.enter_all-requires-clause-within
enter_all-requires-clause-within g c =
    omega (arith, c.in_ok-growing.ensures.count, c.greatest.ensures ∙ ap greatest (c.as_slice-2.ensures.value ∙ c.in_ok-sizes.ensures))

pub push_zero_list-requires : goal.push_zero_list-requires
push_zero_list-requires g c = omega (arith, c.enter_all.ensures.count, c.in_ok-growing.ensures.count)

pub returns-in_err-owners-clause-content : goal.returns-in_err-owners-clause-content
returns-in_err-owners-clause-content g c = IfOk-from_err c.from_residual.result _ c.from_residual.ensures.0

pub returns-in_err-sizes-clause-content : goal.returns-in_err-sizes-clause-content
returns-in_err-sizes-clause-content g c = IfOk-from_err c.from_residual-in_err-sizes.result _ c.from_residual-in_err-sizes.ensures.0

pub returns-in_err-zeros-clause-content : goal.returns-in_err-zeros-clause-content
returns-in_err-zeros-clause-content g c = IfOk-from_err c.from_residual-in_err-zeros.result _ c.from_residual-in_err-zeros.ensures.0

pub returns-in_err-growing-clause-content : goal.returns-in_err-growing-clause-content
returns-in_err-growing-clause-content g c = IfOk-from_err c.from_residual-in_err-growing.result _ c.from_residual-in_err-growing.ensures.0

pub returns-in_err-enter_all-clause-content : goal.returns-in_err-enter_all-clause-content
returns-in_err-enter_all-clause-content g c = IfOk-from_err c.from_residual-in_err-enter_all.result _ c.from_residual-in_err-enter_all.ensures.0

pub returns-in_err-push_zero_list-clause-content : goal.returns-in_err-push_zero_list-clause-content
returns-in_err-push_zero_list-clause-content g c = IfOk-from_err c.from_residual-in_err-push_zero_list.result _ c.from_residual-in_err-push_zero_list.ensures.0

pub returns-in_err-parts-clause-content : goal.returns-in_err-parts-clause-content
returns-in_err-parts-clause-content g c = IfOk-from_err c.from_residual-in_err-parts.result _ c.from_residual-in_err-parts.ensures.0
