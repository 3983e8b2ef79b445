use Rattle.journal_file.proofs.GateLemmas.{first_bytes}
use Rattle.std.proofs.Common.{arith, sym, take}
use Rattle.std.proofs.lemmas.List.{length-take, take_all}
use Rattle.std.proofs.lemmas.Result.{IfOk-from_err}
use Rattle.journal_file.proofs.Shown.{shown_none, shown_one, was_first}
use Rattle.compaction.proofs.header.read_header.Goals as goal

pub returns-clause-begins : goal.returns-clause-begins
returns-clause-begins g c = λ told. c.header_of.ensures _ (first_bytes 10 _ _ c.in_ok-n.n (c.in_ok-n.ensures.count told) (c.in_ok-n.ensures.bytes told))

pub returns-in_err-n-clause-shows : goal.returns-in_err-n-clause-shows
returns-in_err-n-clause-shows g c = shown_none _ _ c.in_err-n.ensures.silent (IfOk-from_err c.from_residual.result _ c.from_residual.ensures.0)

pub returns-clause-shows : goal.returns-clause-shows
returns-clause-shows g c =
    let head = take c.in_ok-n.n c.read.new.out in
    shown_one _ _ _ c.in_ok-n.ensures.shows (head, was_first _ _, c.header_of.ensures head (sym (take_all 10 head (omega (arith, length-take c.in_ok-n.n c.read.new.out, c.read.auto.out)))))
