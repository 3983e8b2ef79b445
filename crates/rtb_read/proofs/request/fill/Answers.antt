use Rattle.std.proofs.lemmas.Result.{err_from_is_err_and}
use Rattle.exact_json.specs.View.{tree_of}
use Rattle.rtb_read.proofs.Last.{IsCleanToDevice, at_imps, at_user}
use Rattle.rtb_read.proofs.request.fill.Goals as goal

pub returns-in_err-fill_user : goal.returns-in_err-fill_user
returns-in_err-fill_user c =
    let p = err_from_is_err_and c.from_residual-in_err-fill_user.result c.from_residual-in_err-fill_user.ensures.1 in
    let clean : IsCleanToDevice (tree_of c.args.value.now) = record {
      id = c.in_ok-request.ensures.0;
      at = c.in_ok-request-2.ensures.0;
      test = c.in_ok-request-3.ensures.0;
      wseat = c.in_ok-request-4.ensures.0;
      bseat = c.in_ok-request-5.ensures.0;
      cur = c.in_ok-request-6.ensures.0;
      bcat = c.in_ok-request-7.ensures.0;
      badv = c.in_ok-request-8.ensures.0;
      site = c.in_ok-fill_site.ensures.0;
      app = c.in_ok-fill_app.ensures.0;
      device = c.in_ok-fill_device.ensures.0;
    } in
    rw (p.1, p.2) (at_user (tree_of c.args.value.now) _ clean c.in_err-fill_user.ensures)

pub returns-in_err-request-9 : goal.returns-in_err-request-9
returns-in_err-request-9 c =
    let p = err_from_is_err_and c.from_residual-in_err-request-9.result c.from_residual-in_err-request-9.ensures.1 in
    let clean : IsCleanToDevice (tree_of c.args.value.now) = record {
      id = c.in_ok-request.ensures.0;
      at = c.in_ok-request-2.ensures.0;
      test = c.in_ok-request-3.ensures.0;
      wseat = c.in_ok-request-4.ensures.0;
      bseat = c.in_ok-request-5.ensures.0;
      cur = c.in_ok-request-6.ensures.0;
      bcat = c.in_ok-request-7.ensures.0;
      badv = c.in_ok-request-8.ensures.0;
      site = c.in_ok-fill_site.ensures.0;
      app = c.in_ok-fill_app.ensures.0;
      device = c.in_ok-fill_device.ensures.0;
    } in
    rw (p.1, p.2) (at_imps (tree_of c.args.value.now) _ _ clean c.in_ok-fill_user.ensures.0 c.in_ok-request-2.ensures.1 c.in_err-request-9.ensures)
