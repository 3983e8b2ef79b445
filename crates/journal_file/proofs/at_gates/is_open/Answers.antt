use Rattle.std.proofs.Common.{◌∙◌, ap, drop, sym}
use Rattle.journal_file.specs.Gates.{begins_open}
use Rattle.journal_file.proofs.GateLemmas.{first_bytes, open_whole, shut_whole}
use Rattle.std.proofs.Common.{arith}
use Rattle.std.proofs.lemmas.List.{length-take}
use Rattle.journal_file.proofs.Shown.{gate_failed, gate_shown, shown_none, shown_one}
use Rattle.journal_file.proofs.at_gates.is_open.Goals as goal

pub returns-clause-open : goal.returns-clause-open
returns-clause-open g c = λ told is.
    let bytes = drop c.args.gate (g.D.Disk.store c.args.disk.now).reads in
    open_whole bytes (ap begins_open (sym (first_bytes 1 bytes _ c.in_ok-n.n (c.in_ok-n.ensures.count told) (c.in_ok-n.ensures.bytes told))) ∙ sym c.is_one.ensures ∙ cc is)

pub returns-clause-shut : goal.returns-clause-shut
returns-clause-shut g c = λ told is.
    let bytes = drop c.args.gate (g.D.Disk.store c.args.disk.now).reads in
    shut_whole bytes (ap begins_open (sym (first_bytes 1 bytes _ c.in_ok-n.n (c.in_ok-n.ensures.count told) (c.in_ok-n.ensures.bytes told))) ∙ sym c.is_one.ensures ∙ cc is)

pub returns-in_err-n-clause-shows : goal.returns-in_err-n-clause-shows
returns-in_err-n-clause-shows g c = shown_none _ _ c.in_err-n.ensures.silent (gate_failed c.args.gate c.from_residual.result c.from_residual.ensures.0)

pub returns-clause-shows : goal.returns-clause-shows
returns-clause-shows g c =
    shown_one _ _ _ c.in_ok-n.ensures.shows (gate_shown c.args.gate _ c.is_one.result c.is_one.ensures (omega (arith, length-take c.in_ok-n.n c.read.new.out, c.read.auto.out)))
