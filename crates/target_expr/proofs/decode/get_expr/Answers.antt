use Rattle.std.proofs.Common.{sym, ◌∙◌, ap}
use Rattle.std.proofs.lemmas.Bool.{both_ways}
use Rattle.byte_fields.proofs.Codes.{read_narrow}
use Rattle.target_expr.specs.Bytes.{IsEncodable, expr_bytes}
use Rattle.target_expr.specs.Kept.{is_kept}
use Rattle.target_expr.specs.Loose.{IsLoose}
use Rattle.target_expr.proofs.Encoding.{conjunction_code, kept_loose, loose_code}
use Rattle.target_expr.proofs.decode.get_expr.Goals as goal

pub get_list-requires : goal.get_list-requires
get_list-requires c = record { code = conjunction_code }

pub returns-in_default-clause-value : goal.returns-in_default-clause-value
returns-in_default-clause-value c =
    let none = rw c.in_default.is at c.in_ok-found.ensures.value in
    λ e m kept a. none e m (kept_loose e kept) a

pub returns-else-is_kept-clause-value : goal.returns-else-is_kept-clause-value
returns-else-is_kept-clause-value c =
    let read = rw c.in-Some.is at c.in_ok-found.ensures.value in
    let refused = ap is_kept (sym c.as_slice.ensures) ∙ sym c.is_kept.ensures ∙ c.if-is_kept.false in
    read_narrow IsLoose expr_bytes loose_code IsEncodable kept_loose c.args.bytes.now c.args.place c.in-Some.all c.in-Some.next read (λ kept. both_ways (is_kept c.in-Some.all) refused kept)
