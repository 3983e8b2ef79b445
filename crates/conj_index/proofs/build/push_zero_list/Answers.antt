use Rattle.std.proofs.Common.{◌∙◌, ap, map, refl}
use Rattle.std.proofs.lemmas.List.{map_push}
use Rattle.conj_index.proofs.Entering.{zero_pushed}
use Rattle.conj_index.proofs.build.push_zero_list.Goals as goal

pub returns-clause-zero : goal.returns-clause-zero
returns-clause-zero c =
    zero_pushed c.args.parts.now.items c.index_mut.result.now (record { keys = c.index_mut.result.now.keys; lists = c.push.new.self }) c.args.zeros.items
    c.requires c.index_mut.ensures.value refl
    (ap (map (λ l. l.items)) c.in_ok-push.ensures.items ∙ map_push (λ l. l.items) c.index_mut.result.now.lists.items c.args.zeros)
