use Rattle.std.proofs.Common.{◌≡◌, ◌∙◌, ap, false, map, List, [], ◌∷◌}
use Rattle.std.specs.Prelude.{codes}
use Rattle.std.specs.Option.{option_copied}
use Rattle.json_out.specs.declared.places.Place.TheVariants.{Object}
use Rattle.json_out.specs.Texts.{Member, array_text}
use Rattle.json_out.specs.Inside.{in_object, put_member}
use Rattle.json_out.specs.Writer.{begin, blank, is_whole, put_name, put_value}
use Rattle.json_out.proofs.Objects.{closes, members_are}
use Rattle.rtb_response.specs.Response.{seat_text, seats_of, text_member}
use Rattle.rtb_response.proofs.response.put_response.Goals as goal

pub returns-clause-whole : goal.returns-clause-whole
returns-clause-whole c =
    let public = option_copied c.args.public in
    let keys = c.args.keys.now in
    let r = c.args.request.now in
    let sold = c.args.sold.now in
    let id : Member = text_member (codes "id") r.id in
    let cur : Member = text_member (codes "cur") (codes "USD") in
    let value = array_text (map (seat_text public keys r sold) (seats_of sold)) in
    let all : List Member = id ∷ (codes "seatbid", value) ∷ cur ∷ [] in
    let first = c.in_ok-put_text.ensures.ok ∙ ap (λ t. put_member c.obj.new.self (text_member (codes "id") t)) c.as_bytes.ensures.value
    ∙ ap (λ v. put_member v id) (c.in_ok-obj.ensures.ok ∙ ap (λ v. begin v (Object false false)) c.requires) in
    let named = c.in_ok-name.ensures.ok ∙ ap (λ v. put_name v (codes "seatbid")) first in
    let seated = c.in_ok-put_seats.ensures ∙ ap (λ v. put_value v value) named in
    let is : c.put_text-2.new.self ≡ in_object blank all =
    c.in_ok-put_text-2.ensures.ok ∙ ap (λ v. put_member v cur) seated ∙ members_are blank [] all in
    ap is_whole c.in_ok-end.ensures.ok ∙ (closes c.put_text-2.new.self all is).1

pub returns-clause-text : goal.returns-clause-text
returns-clause-text c =
    let public = option_copied c.args.public in
    let keys = c.args.keys.now in
    let r = c.args.request.now in
    let sold = c.args.sold.now in
    let id : Member = text_member (codes "id") r.id in
    let cur : Member = text_member (codes "cur") (codes "USD") in
    let value = array_text (map (seat_text public keys r sold) (seats_of sold)) in
    let all : List Member = id ∷ (codes "seatbid", value) ∷ cur ∷ [] in
    let first = c.in_ok-put_text.ensures.ok ∙ ap (λ t. put_member c.obj.new.self (text_member (codes "id") t)) c.as_bytes.ensures.value
    ∙ ap (λ v. put_member v id) (c.in_ok-obj.ensures.ok ∙ ap (λ v. begin v (Object false false)) c.requires) in
    let named = c.in_ok-name.ensures.ok ∙ ap (λ v. put_name v (codes "seatbid")) first in
    let seated = c.in_ok-put_seats.ensures ∙ ap (λ v. put_value v value) named in
    let is : c.put_text-2.new.self ≡ in_object blank all =
    c.in_ok-put_text-2.ensures.ok ∙ ap (λ v. put_member v cur) seated ∙ members_are blank [] all in
    ap (λ v. v.text) c.in_ok-end.ensures.ok ∙ (closes c.put_text-2.new.self all is).2
