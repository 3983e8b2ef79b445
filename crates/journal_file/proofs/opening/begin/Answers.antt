use Rattle.std.proofs.Common.{◌≡◌, ◌∙◌, ap, inl, inr, length, take, true, Result, Ok, Err}
use Rattle.std.specs.Prelude.{OnErr}
use Rattle.rtb_disk.specs.Stores.{Store}
use Rattle.journal_file.proofs.GateLemmas.{first_bytes}
use Rattle.journal_file.proofs.opening.begin.Goals as goal

on_err : {T E : Type 0} (r : Result T E) (A : Type 0) → A → OnErr r A
on_err (Ok x) A a = tt
on_err (Err x) A a = a

pub returns-in_err-sync-clause-left : goal.returns-in_err-sync-clause-left
returns-in_err-sync-clause-left g c = λ told. on_err c.from_residual.result _ (inl (c.in_err-sync.ensures.failed told))

pub returns-in_err-size-clause-left : goal.returns-in_err-size-clause-left
returns-in_err-size-clause-left g c = λ told. on_err c.from_residual-in_err-size.result _ (inr (c.in_err-size.ensures.same ∙ c.in_ok-sync.ensures.done told))

pub returns-in_err-n-clause-left : goal.returns-in_err-n-clause-left
returns-in_err-n-clause-left g c = λ told.
    on_err c.from_residual-in_err-n.result _ (inr (c.in_err-n.ensures.same ∙ c.in_ok-size.ensures.same ∙ c.in_ok-sync.ensures.done told))

pub returns-clause-opening : goal.returns-clause-opening
returns-clause-opening g c = λ told.
    let s = g.D.Disk.store c.args.disk.now in
    let told1 : (g.D.Disk.store c.sync.new.self).told ≡ true = c.in_ok-sync.ensures.told ∙ told in
    let synced = c.in_ok-sync.ensures.done told in
    let told2 = ap (λ (x : Store). x.told) c.in_ok-size.ensures.same ∙ told1 in
    let read = first_bytes 9 _ _ c.in_ok-n.n (c.in_ok-n.ensures.count told2) (c.in_ok-n.ensures.bytes told2) in
    let head = read ∙ ap (λ (x : Store). take 9 x.reads) (c.in_ok-size.ensures.same ∙ synced) in
    let size = c.in_ok-size.ensures.value told1 ∙ ap (λ (x : Store). length x.reads) synced in
    c.opening_of-opening.ensures.opening s.reads head size

pub returns-clause-inside : goal.returns-clause-inside
returns-clause-inside g c = c.opening_of-opening.ensures.inside
