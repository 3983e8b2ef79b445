use Rattle.std.proofs.lemmas.Result.{err_from_is_err_and}
use Rattle.exact_json.specs.View.{tree_of}
use Rattle.campaign_read.proofs.Last.{IsCleanToAdm, at_adid, at_cap, at_crid}
use Rattle.campaign_read.proofs.parts.fill_parts.Goals as goal

pub returns-in_err-parts-11 : goal.returns-in_err-parts-11
returns-in_err-parts-11 c =
    let p = err_from_is_err_and c.from_residual-in_err-parts-11.result c.from_residual-in_err-parts-11.ensures.1 in
    let clean : IsCleanToAdm (tree_of c.args.body.now) = record {
      seat = c.in_ok-parts.ensures.0;
      adomain = c.in_ok-parts-2.ensures.0;
      cat = c.in_ok-parts-3.ensures.0;
      w = c.in_ok-parts-4.ensures.0;
      h = c.in_ok-parts-5.ensures.0;
      attr = c.in_ok-parts-6.ensures.0;
      secure = c.in_ok-parts-7.ensures.0;
      bid = c.in_ok-parts-8.ensures.0;
      deals = c.in_ok-parts-9.ensures.0;
      budget = c.in_ok-budget.ensures.0;
      adm = c.in_ok-parts-10.ensures.0;
    } in
    rw (p.1, p.2) (at_crid (tree_of c.args.body.now) _ clean c.in_err-parts-11.ensures)

pub returns-in_err-parts-12 : goal.returns-in_err-parts-12
returns-in_err-parts-12 c =
    let p = err_from_is_err_and c.from_residual-in_err-parts-12.result c.from_residual-in_err-parts-12.ensures.1 in
    let clean : IsCleanToAdm (tree_of c.args.body.now) = record {
      seat = c.in_ok-parts.ensures.0;
      adomain = c.in_ok-parts-2.ensures.0;
      cat = c.in_ok-parts-3.ensures.0;
      w = c.in_ok-parts-4.ensures.0;
      h = c.in_ok-parts-5.ensures.0;
      attr = c.in_ok-parts-6.ensures.0;
      secure = c.in_ok-parts-7.ensures.0;
      bid = c.in_ok-parts-8.ensures.0;
      deals = c.in_ok-parts-9.ensures.0;
      budget = c.in_ok-budget.ensures.0;
      adm = c.in_ok-parts-10.ensures.0;
    } in
    rw (p.1, p.2) (at_adid (tree_of c.args.body.now) _ clean c.in_ok-parts-11.ensures.0 c.in_err-parts-12.ensures)

pub returns-in_err-parts-13 : goal.returns-in_err-parts-13
returns-in_err-parts-13 c =
    let p = err_from_is_err_and c.from_residual-in_err-parts-13.result c.from_residual-in_err-parts-13.ensures.1 in
    let clean : IsCleanToAdm (tree_of c.args.body.now) = record {
      seat = c.in_ok-parts.ensures.0;
      adomain = c.in_ok-parts-2.ensures.0;
      cat = c.in_ok-parts-3.ensures.0;
      w = c.in_ok-parts-4.ensures.0;
      h = c.in_ok-parts-5.ensures.0;
      attr = c.in_ok-parts-6.ensures.0;
      secure = c.in_ok-parts-7.ensures.0;
      bid = c.in_ok-parts-8.ensures.0;
      deals = c.in_ok-parts-9.ensures.0;
      budget = c.in_ok-budget.ensures.0;
      adm = c.in_ok-parts-10.ensures.0;
    } in
    rw (p.1, p.2) (at_cap (tree_of c.args.body.now) _ clean c.in_ok-parts-11.ensures.0 c.in_ok-parts-12.ensures.0 c.in_err-parts-13.ensures)
