-- Each answer to a reply can be written: its status has a reason, and a no-bid has no body.
use Rattle.std.proofs.Common.{refl, arith, ℕ, List, Option}
use Rattle.http_wire.specs.Answers.{IsWritable}
use Rattle.address_keys.specs.declared.keys.Keys.{Keys}
use Rattle.plain_exchange.specs.declared.commands.Reply.{Reply}
use Rattle.plain_exchange.specs.declared.commands.Reply.TheVariants as reply
use Rattle.rtb_response.specs.Replies.{answer, answer_of}
use Rattle.rtb_types.specs.declared.request.BidRequest.{BidRequest}

-- with a status that has a reason, and is neither 204 nor 405
at_200 : (body : List ℕ) → IsWritable (answer 200 body)
at_200 body = record { status = refl; allow = refl; no_content = λ e. absurd (omega (arith, e)); not_allowed = λ e. absurd (omega (arith, e)) }

at_201 : (body : List ℕ) → IsWritable (answer 201 body)
at_201 body = record { status = refl; allow = refl; no_content = λ e. absurd (omega (arith, e)); not_allowed = λ e. absurd (omega (arith, e)) }

at_404 : (body : List ℕ) → IsWritable (answer 404 body)
at_404 body = record { status = refl; allow = refl; no_content = λ e. absurd (omega (arith, e)); not_allowed = λ e. absurd (omega (arith, e)) }

at_409 : (body : List ℕ) → IsWritable (answer 409 body)
at_409 body = record { status = refl; allow = refl; no_content = λ e. absurd (omega (arith, e)); not_allowed = λ e. absurd (omega (arith, e)) }

at_410 : (body : List ℕ) → IsWritable (answer 410 body)
at_410 body = record { status = refl; allow = refl; no_content = λ e. absurd (omega (arith, e)); not_allowed = λ e. absurd (omega (arith, e)) }

at_503 : (body : List ℕ) → IsWritable (answer 503 body)
at_503 body = record { status = refl; allow = refl; no_content = λ e. absurd (omega (arith, e)); not_allowed = λ e. absurd (omega (arith, e)) }

pub answers_are_writable : (request : Option BidRequest) (public : Option (List ℕ)) (keys : Keys) (r : Reply) → IsWritable (answer_of request public keys r)
answers_are_writable request public keys reply.NoBid = record { status = refl; allow = refl; no_content = λ e. refl; not_allowed = λ e. refl }
answers_are_writable request public keys (reply.Sold sold) = at_200 _
answers_are_writable request public keys (reply.Added n) = at_201 _
answers_are_writable request public keys (reply.Changed n) = at_200 _
answers_are_writable request public keys (reply.Paused n) = at_200 _
answers_are_writable request public keys (reply.Resumed n) = at_200 _
answers_are_writable request public keys (reply.Reported n live bid budget totals) = at_200 _
answers_are_writable request public keys (reply.Billed sale) = at_200 _
answers_are_writable request public keys (reply.Lost sale) = at_200 _
answers_are_writable request public keys (reply.Trimmed sales forgotten) = at_200 _
answers_are_writable request public keys reply.NoSuchCampaign = at_404 _
answers_are_writable request public keys reply.NoSuchSale = at_404 _
answers_are_writable request public keys reply.WasLost = at_409 _
answers_are_writable request public keys reply.WasBilled = at_409 _
answers_are_writable request public keys reply.WasExpired = at_410 _
answers_are_writable request public keys reply.Forgotten = at_410 _
answers_are_writable request public keys (reply.BelowCommitted committed) = at_409 _
answers_are_writable request public keys (reply.Full limit) = at_503 _
