use Rattle.std.proofs.Common.{◌≡◌, subst, true, Option}
use Rattle.std.specs.Prelude.{OnOk}
use Rattle.door_worker.specs.Answers.{IsPublished, is_edit}
use Rattle.door_worker.specs.Languages.{rtb}
use Rattle.door_worker.specs.Working.{IsTold}
use Rattle.rtb_types.specs.declared.request.BidRequest.{BidRequest}
use Rattle.door_worker.proofs.messages.tell.Goals as goal

pub returns-in-Ok-clause-told : goal.returns-in-Ok-clause-told
returns-in-Ok-clause-told g c =
    let t = c.publish_edit-seat.result.0 in
    record {
      told = subst (λ (q : Option BidRequest). IsTold q (rtb c.args.tools.now.public.now c.args.tools.now.keys.now) c.args.reply.now c.given_for.result) c.request_in.ensures c.given_for.ensures.told;
      goes = c.publish_edit-seat.ensures.goes;
      published = λ is. subst (λ r. OnOk r (is_edit c.args.command.now ≡ true → IsPublished 0 t.worker t.origin t.seen)) c.in-Ok.is c.publish_edit-seat.ensures.published;
    }
