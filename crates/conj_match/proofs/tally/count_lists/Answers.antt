use Rattle.std.proofs.Common.{◌<◌, ◌∙◌, length, arith}
use Rattle.conj_match.specs.Matching.{lists_at}
use Rattle.conj_match.specs.Tally.{all_in}
use Rattle.conj_match.proofs.Marks.{blank_marks, lists_length, swept, taken_blank, taken_hits, tallied_blank}
use Rattle.conj_match.proofs.tally.count_lists.Goals as goal

pub returns-then-is_dense-clause-blank : goal.returns-then-is_dense-clause-blank
returns-then-is_dense-clause-blank g c = blank_marks c.fill.new.self (length c.mark_lists.new.marks) (c.fill.ensures.after (λ y h. h))

pub returns-then-is_dense-clause-found : goal.returns-then-is_dense-clause-found
returns-then-is_dense-clause-found g c =
    let lists = lists_at c.args.lists.now c.args.chosen.now in
    let few : length lists < 128 = omega (arith, lists_length c.args.lists.now c.args.chosen.now, c.requires.few) in
    let tallied = c.mark_lists.ensures.marks (tallied_blank c.args.marks.now c.requires.blank) in
    swept c.mark_lists.new.marks c.args.hits.now c.sweep.new.hits lists c.args.k few c.mark_lists.ensures.rising tallied (c.mark_lists.ensures.len ∙ c.requires.len) c.sweep.ensures.hits

pub returns-else-is_dense-clause-blank : goal.returns-else-is_dense-clause-blank
returns-else-is_dense-clause-blank g c =
    let lists = lists_at c.args.lists.now c.args.chosen.now in
    let tallied = c.mark_lists.ensures.marks (tallied_blank c.args.marks.now c.requires.blank) in
    taken_blank c.args.k c.mark_lists.new.marks c.args.hits.now c.take_lists.new.marks c.take_lists.new.hits (all_in lists) c.take_lists.ensures.marks_len tallied c.take_lists.ensures.taken

pub returns-else-is_dense-clause-found : goal.returns-else-is_dense-clause-found
returns-else-is_dense-clause-found g c =
    let lists = lists_at c.args.lists.now c.args.chosen.now in
    let few : length lists < 128 = omega (arith, lists_length c.args.lists.now c.args.chosen.now, c.requires.few) in
    let tallied = c.mark_lists.ensures.marks (tallied_blank c.args.marks.now c.requires.blank) in
    taken_hits c.args.k c.mark_lists.new.marks c.args.hits.now c.take_lists.new.marks c.take_lists.new.hits lists c.requires.some few c.mark_lists.ensures.rising (c.mark_lists.ensures.len ∙ c.requires.len) tallied c.take_lists.ensures.taken
