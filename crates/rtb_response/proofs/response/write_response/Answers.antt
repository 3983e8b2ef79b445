use Rattle.std.proofs.Common.{◌≡◌, subst}
use Rattle.std.specs.Prelude.{OnOk}
use Rattle.std.specs.Option.{option_copied}
use Rattle.rtb_response.specs.Response.{response_text}
use Rattle.rtb_response.proofs.response.write_response.Goals as goal

pub returns : goal.returns
returns c =
    let text = response_text (option_copied c.args.public) c.args.keys.now c.args.request.now in
    let put = c.put_response-done in
    c.finished.ensures (text c.args.sold.now) (subst (λ sold. OnOk put.result (put.new.writer.text ≡ text sold)) c.as_slice.ensures put.ensures.text)
