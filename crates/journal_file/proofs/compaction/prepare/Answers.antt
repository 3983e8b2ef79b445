use Rattle.std.proofs.Common.{◌≡◌, ◌⊎◌, ◌∙◌, ap, sym, subst, inl, inr, length, true, arith}
use Rattle.rtb_disk.specs.Stores.{Always, Store, settled}
use Rattle.journal_file.specs.Unfinished.{IsUnfinished}
use Rattle.journal_file.proofs.CompactLemmas.{always_looked, only_read, whatever}
use Rattle.std.proofs.Common.{take, Result, Ok, Err}
use Rattle.std.specs.Prelude.{MatchResult}
use Rattle.std.specs.Result.{IsErr}
use Rattle.std.proofs.lemmas.Bool.{false≢true}
use Rattle.journal_file.proofs.GateLemmas.{first_bytes}
use Rattle.journal_file.proofs.compaction.prepare.Goals as goal

only_err : {T E : Type 0} (r : Result T E) (P Q : Type 0) → IsErr r → Q → MatchResult r (λ _. P) (λ _. Q)
only_err (Ok x) P Q e q = absurd (false≢true e)
only_err (Err x) P Q e q = q

pub returns-in_err-size-clause-any_moment : goal.returns-in_err-size-clause-any_moment
returns-in_err-size-clause-any_moment g c = λ told un.
    let s = g.D.Disk.store c.args.disk.now in
    let t = g.D.Disk.store c.length.new.self in
    let here : Always IsUnfinished (settled s) t = always_looked s t (c.in_err-size.ensures.same ∙ c.in_ok-sync.ensures.done told) un in
    whatever c.from_residual-in_err-size.result (Always IsUnfinished (settled s) t) ((t ≡ s) ⊎ Always IsUnfinished (settled s) t) here (inr here)

pub returns-in_err-n-clause-any_moment : goal.returns-in_err-n-clause-any_moment
returns-in_err-n-clause-any_moment g c = λ told un.
    let s = g.D.Disk.store c.args.disk.now in
    let t = g.D.Disk.store c.read.new.self in
    let here : Always IsUnfinished (settled s) t = always_looked s t (c.in_err-n.ensures.same ∙ c.in_ok-size.ensures.same ∙ c.in_ok-sync.ensures.done told) un in
    whatever c.from_residual-in_err-n.result (Always IsUnfinished (settled s) t) ((t ≡ s) ⊎ Always IsUnfinished (settled s) t) here (inr here)

pub returns-in_err-clear-clause-any_moment : goal.returns-in_err-clear-clause-any_moment
returns-in_err-clear-clause-any_moment g c = λ told un.
    let s = g.D.Disk.store c.args.disk.now in
    let t = g.D.Disk.store c.read.new.self in
    let u = g.D.Disk.store c.clear.new.disk in
    let e : t ≡ settled s = c.in_ok-n.ensures.same ∙ c.in_ok-size.ensures.same ∙ c.in_ok-sync.ensures.done told in
    let run : Always IsUnfinished t u = c.in_err-clear.ensures.any_moment (ap (λ (x : Store). x.told) e ∙ told) (only_read s t e) (subst (λ (x : Store). IsUnfinished x.reads) (sym e) un) in
    let here : Always IsUnfinished (settled s) u = subst (λ (x : Store). Always IsUnfinished x u) e run in
    whatever c.from_residual-in_err-clear.result (Always IsUnfinished (settled s) u) ((u ≡ s) ⊎ Always IsUnfinished (settled s) u) here (inr here)

pub returns-then-is_unfinished-clause-any_moment : goal.returns-then-is_unfinished-clause-any_moment
returns-then-is_unfinished-clause-any_moment g c = λ told un.
    let s = g.D.Disk.store c.args.disk.now in
    let t = g.D.Disk.store c.read.new.self in
    let u = g.D.Disk.store c.clear.new.disk in
    let e : t ≡ settled s = c.in_ok-n.ensures.same ∙ c.in_ok-size.ensures.same ∙ c.in_ok-sync.ensures.done told in
    let run : Always IsUnfinished t u = c.in_ok-clear.ensures.any_moment (ap (λ (x : Store). x.told) e ∙ told) (only_read s t e) (subst (λ (x : Store). IsUnfinished x.reads) (sym e) un) in
    subst (λ (x : Store). Always IsUnfinished x u) e run

pub returns-clause-any_moment : goal.returns-clause-any_moment
returns-clause-any_moment g c = λ told un.
    always_looked (g.D.Disk.store c.args.disk.now) (g.D.Disk.store c.read.new.self) (c.in_ok-n.ensures.same ∙ c.in_ok-size.ensures.same ∙ c.in_ok-sync.ensures.done told) un

pub clear-requires : goal.clear-requires
clear-requires g c = record {
  size = λ told3.
      let told1 = sym (ap (λ (x : Store). x.told) (c.in_ok-n.ensures.same ∙ c.in_ok-size.ensures.same)) ∙ told3 in
      c.in_ok-size.ensures.value told1 ∙ sym (ap (λ (x : Store). length x.reads) (c.in_ok-n.ensures.same ∙ c.in_ok-size.ensures.same));
}

pub returns-in_err-sync-clause-any_moment : goal.returns-in_err-sync-clause-any_moment
returns-in_err-sync-clause-any_moment g c = λ told un. only_err c.from_residual.result _ _ c.from_residual.ensures.0 (inl (c.in_err-sync.ensures.failed told))

pub returns-then-is_unfinished-clause-accepted : goal.returns-then-is_unfinished-clause-accepted
returns-then-is_unfinished-clause-accepted g c = λ told.
    let s = g.D.Disk.store c.args.disk.now in
    let told1 : (g.D.Disk.store c.sync.new.self).told ≡ true = c.in_ok-sync.ensures.told ∙ told in
    let synced = c.in_ok-sync.ensures.done told in
    let told2 = ap (λ (x : Store). x.told) c.in_ok-size.ensures.same ∙ told1 in
    let read = first_bytes 9 _ _ c.in_ok-n.n (c.in_ok-n.ensures.count told2) (c.in_ok-n.ensures.bytes told2) in
    let head = read ∙ ap (λ (x : Store). take 9 x.reads) (c.in_ok-size.ensures.same ∙ synced) in
    let size = c.in_ok-size.ensures.value told1 ∙ ap (λ (x : Store). length x.reads) synced in
    c.if-is_unfinished.ensures s.reads head size

pub returns-then-is_unfinished-clause-begun : goal.returns-then-is_unfinished-clause-begun
returns-then-is_unfinished-clause-begun g c = λ told taken.
    c.in_ok-clear.ensures.begun (ap (λ (x : Store). x.told) (c.in_ok-n.ensures.same ∙ c.in_ok-size.ensures.same) ∙ c.in_ok-sync.ensures.told ∙ told)

pub returns-then-is_unfinished-clause-long : goal.returns-then-is_unfinished-clause-long
returns-then-is_unfinished-clause-long g c = λ told taken.
    omega (arith, ap length (c.in_ok-clear.ensures.begun (sym c.in_ok-clear.ensures.told ∙ told)).0)

pub returns-clause-accepted : goal.returns-clause-accepted
returns-clause-accepted g c = λ told.
    let s = g.D.Disk.store c.args.disk.now in
    let told1 : (g.D.Disk.store c.sync.new.self).told ≡ true = c.in_ok-sync.ensures.told ∙ told in
    let synced = c.in_ok-sync.ensures.done told in
    let told2 = ap (λ (x : Store). x.told) c.in_ok-size.ensures.same ∙ told1 in
    let read = first_bytes 9 _ _ c.in_ok-n.n (c.in_ok-n.ensures.count told2) (c.in_ok-n.ensures.bytes told2) in
    let head = read ∙ ap (λ (x : Store). take 9 x.reads) (c.in_ok-size.ensures.same ∙ synced) in
    let size = c.in_ok-size.ensures.value told1 ∙ ap (λ (x : Store). length x.reads) synced in
    c.if-is_unfinished.ensures s.reads head size

pub returns-clause-refused : goal.returns-clause-refused
returns-clause-refused g c = λ told taken. c.in_ok-n.ensures.same ∙ c.in_ok-size.ensures.same ∙ c.in_ok-sync.ensures.done told

pub returns-in_err-sync-clause-others : goal.returns-in_err-sync-clause-others
returns-in_err-sync-clause-others g c = λ told no. inl (c.in_err-sync.ensures.failed told)

pub returns-in_err-size-clause-others : goal.returns-in_err-size-clause-others
returns-in_err-size-clause-others g c = λ told no. inr (c.in_err-size.ensures.same ∙ c.in_ok-sync.ensures.done told)

pub returns-in_err-n-clause-others : goal.returns-in_err-n-clause-others
returns-in_err-n-clause-others g c = λ told no. inr (c.in_err-n.ensures.same ∙ c.in_ok-size.ensures.same ∙ c.in_ok-sync.ensures.done told)

pub returns-in_err-clear-clause-others : goal.returns-in_err-clear-clause-others
returns-in_err-clear-clause-others g c = λ told no.
    let s = g.D.Disk.store c.args.disk.now in
    let told1 : (g.D.Disk.store c.sync.new.self).told ≡ true = c.in_ok-sync.ensures.told ∙ told in
    let synced = c.in_ok-sync.ensures.done told in
    let told2 = ap (λ (x : Store). x.told) c.in_ok-size.ensures.same ∙ told1 in
    let read = first_bytes 9 _ _ c.in_ok-n.n (c.in_ok-n.ensures.count told2) (c.in_ok-n.ensures.bytes told2) in
    let head = read ∙ ap (λ (x : Store). take 9 x.reads) (c.in_ok-size.ensures.same ∙ synced) in
    let size = c.in_ok-size.ensures.value told1 ∙ ap (λ (x : Store). length x.reads) synced in
    absurd (no (c.if-is_unfinished.ensures s.reads head size))

pub returns-then-is_unfinished-clause-others : goal.returns-then-is_unfinished-clause-others
returns-then-is_unfinished-clause-others g c = λ told no.
    let s = g.D.Disk.store c.args.disk.now in
    let told1 : (g.D.Disk.store c.sync.new.self).told ≡ true = c.in_ok-sync.ensures.told ∙ told in
    let synced = c.in_ok-sync.ensures.done told in
    let told2 = ap (λ (x : Store). x.told) c.in_ok-size.ensures.same ∙ told1 in
    let read = first_bytes 9 _ _ c.in_ok-n.n (c.in_ok-n.ensures.count told2) (c.in_ok-n.ensures.bytes told2) in
    let head = read ∙ ap (λ (x : Store). take 9 x.reads) (c.in_ok-size.ensures.same ∙ synced) in
    let size = c.in_ok-size.ensures.value told1 ∙ ap (λ (x : Store). length x.reads) synced in
    absurd (no (c.if-is_unfinished.ensures s.reads head size))

pub returns-clause-others : goal.returns-clause-others
returns-clause-others g c = λ told no. inr (c.in_ok-n.ensures.same ∙ c.in_ok-size.ensures.same ∙ c.in_ok-sync.ensures.done told)
