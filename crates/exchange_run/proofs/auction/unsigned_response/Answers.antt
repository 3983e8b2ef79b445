use Rattle.std.proofs.Common.{◌≡◌, None, subst}
use Rattle.std.specs.Prelude.{IfOk}
use Rattle.address_keys.specs.declared.keys.Keys.{Keys}
use Rattle.rtb_response.specs.Response.{response_text}
use Rattle.exchange_run.proofs.auction.unsigned_response.Goals as goal

pub returns : goal.returns
returns c = subst (λ (keys : Keys). IfOk c.write_response-text.result (λ t. t ≡ response_text None keys c.args.request.now c.args.sold.now)) c.none-keys.ensures c.write_response-text.ensures
