use Rattle.std.proofs.Common.{List, ℕ, drop, subst}
use Rattle.journal_file.specs.Sizes.{IsSizeAt}
use Rattle.journal_file.proofs.GateLemmas.{first_bytes, size_whole}
use Rattle.std.proofs.Common.{arith}
use Rattle.std.proofs.lemmas.List.{length-take}
use Rattle.journal_file.proofs.Shown.{number_failed, number_shown, shown_none, shown_one}
use Rattle.journal_file.proofs.at_gates.size_at.Goals as goal

pub returns-clause-size : goal.returns-clause-size
returns-clause-size g c = λ told.
    let bytes = drop c.args.place (g.D.Disk.store c.args.disk.now).reads in
    size_whole bytes c.size_of.result
    (subst (λ (b : List ℕ). IsSizeAt b c.size_of.result) (first_bytes 8 bytes _ c.in_ok-n.n (c.in_ok-n.ensures.count told) (c.in_ok-n.ensures.bytes told)) c.size_of.ensures)

pub returns-in_err-n-clause-shows : goal.returns-in_err-n-clause-shows
returns-in_err-n-clause-shows g c = shown_none _ _ c.in_err-n.ensures.silent (number_failed c.args.place c.from_residual.result c.from_residual.ensures.0)

pub returns-clause-shows : goal.returns-clause-shows
returns-clause-shows g c =
    shown_one _ _ _ c.in_ok-n.ensures.shows (number_shown c.args.place _ c.size_of.result (omega (arith, length-take c.in_ok-n.n c.read.new.out, c.read.auto.out)) c.size_of.ensures)
