use Rattle.std.proofs.Common.{◌≡◌, ◌≤◌, ◌∙◌, map, ap, subst, sym, take}
use Rattle.std.specs.List.{prefix_len}
use Rattle.json_out.proofs.Plain.{at_most_16, plain_of_16, stays, without}
use Rattle.json_out.proofs.lanes.plain_front.Goals as goal

pub returns : goal.returns
returns c =
    let bytes = c.args.bytes.now in
    let is : c.first_below_32.result ≡ prefix_len stays (map (without 92) (map (without 34) (take 16 bytes))) =
    c.first_below_32.ensures ∙ ap (prefix_len stays) (c.without-lanes-2.ensures ∙ ap (map (without 92)) c.without-lanes.ensures) in
    let bound = subst (λ n. n ≤ 16) (sym is) (at_most_16 bytes c.requires) in
    record { bound = bound; plain = plain_of_16 bytes c.first_below_32.result bound is }
