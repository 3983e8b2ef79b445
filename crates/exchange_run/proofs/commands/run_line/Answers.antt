use Rattle.std.proofs.Common.{◌∙◌, ap, inl, subst, sym}
use Rattle.std.proofs.lemmas.Bool.{false≢true}
use Rattle.exchange_run.specs.Plan.{Plans}
use Rattle.exchange_run.specs.Run.{Shows, is_audit}
use Rattle.exchange_run.proofs.Apart.{apart}
use Rattle.run_commands.specs.Make.{RunsMake}
use Rattle.exchange_run.proofs.commands.run_line.Goals as goal

pub returns-in-Serve-clause-runs : goal.returns-in-Serve-clause-runs
returns-in-Serve-clause-runs g c = rw c.in-Serve.is (record { one_disk = c.serve.ensures.other; no_last = c.serve.ensures.last; serves = c.serve.ensures.serves })

pub returns-in-Recover-clause-runs : goal.returns-in-Recover-clause-runs
returns-in-Recover-clause-runs g c =
    let h = c.recover.ensures in
    rw c.in-Recover.is (inl (record { doors_left = h.others; keys_left = h.keys; no_doors = h.doors; one_disk = h.other; no_last = h.last; no_past = h.past; recovers = h.recovers }))

pub returns-in-Compact-clause-runs : goal.returns-in-Compact-clause-runs
returns-in-Compact-clause-runs g c =
    let h = c.compact.ensures in
    rw c.in-Compact.is (inl (record { doors_left = h.others; keys_left = h.keys; no_doors = h.doors; no_past = h.past; compacts = h.compacts }))

pub returns-in-Follow-clause-runs : goal.returns-in-Follow-clause-runs
returns-in-Follow-clause-runs g c =
    let h = c.follow.ensures in
    rw c.in-Follow.is (inl (record { one_disk = h.other; no_last = h.last; no_past = h.past; follows = h.follows }))

pub returns-in-Help-clause-runs : goal.returns-in-Help-clause-runs
returns-in-Help-clause-runs g c =
    let h = c.without_world-in-Help.ensures in
    rw c.in-Help.is (record {
      apart = apart _ _ _ _ _ _ h.doors h.disk h.other h.last h.past;
      shown = subst (λ code. Shows (g.K.Sink.written c.args.sink.now) (g.K.Sink.written c.show.new.sink) code) (sym (h.status ∙ c.code-in-Help.ensures)) c.show.ensures.shows;
    })

pub returns-in-Version-clause-runs : goal.returns-in-Version-clause-runs
returns-in-Version-clause-runs g c =
    let h = c.without_world-in-Version.ensures in
    rw c.in-Version.is (record {
      apart = apart _ _ _ _ _ _ h.doors h.disk h.other h.last h.past;
      shown = subst (λ code. Shows (g.K.Sink.written c.args.sink.now) (g.K.Sink.written c.show-in-Version.new.sink) code) (sym (h.status ∙ c.code-in-Version.ensures)) c.show-in-Version.ensures.shows;
    })

pub returns-in-Which-clause-runs : goal.returns-in-Which-clause-runs
returns-in-Which-clause-runs g c =
    let h = c.without_world-in-Which.ensures in
    let r = c.run_which in
    let s = g.S.Source in
    rw c.in-Which.is (record {
      apart = apart _ _ _ _ _ _ h.doors h.disk h.other h.last h.past;
      plans = subst (λ code. Plans (s.left c.args.source.now) (s.left r.new.source) (s.faults c.args.source.now) (s.faults r.new.source) (g.K.Sink.written c.args.sink.now) (g.K.Sink.written r.new.sink) code) (sym h.status) r.ensures.plans;
    })

pub returns-in-Audit-clause-runs : goal.returns-in-Audit-clause-runs
returns-in-Audit-clause-runs g c =
    let h = c.audit.ensures in
    rw c.in-Audit.is (record { no_doors = h.doors; one_disk = h.other; no_last = h.last; no_past = h.past; audits = h.audits })

pub returns-in-Audit-clause-unread : goal.returns-in-Audit-clause-unread
returns-in-Audit-clause-unread g c = λ best trace. absurd (false≢true (sym trace ∙ ap is_audit c.in-Audit.is))

pub returns-in-Make-clause-runs : goal.returns-in-Make-clause-runs
returns-in-Make-clause-runs g c =
    let h = c.without_world.ensures in
    rw c.in-Make.is (record {
      apart = apart _ _ _ _ _ _ h.doors h.disk h.other h.last h.past;
      makes = subst (λ code. RunsMake c.in-Make.options (g.K.Sink.written c.args.sink.now) (g.K.Sink.written c.make-status.new.sink) code) (sym (h.status ∙ c.code.ensures)) c.make-status.ensures.makes;
    })
