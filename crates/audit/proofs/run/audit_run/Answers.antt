use Rattle.audit.proofs.Auditing.{audits_by, first_by}
use Rattle.audit.proofs.run.audit_run.Goals as goal

pub returns-clause-audits : goal.returns-clause-audits
returns-clause-audits g c =
    let r = c.read_journal-disk in
    let j = c.judge-said in
    audits_by c.args.keys.now (g.D.Disk.store c.args.disk) (g.I.Source.left c.args.source.now) (g.I.Source.left j.new.source) r.result.1 j.result r.ensures.opened j.ensures.says j.ensures.unread

pub returns-clause-first : goal.returns-clause-first
returns-clause-first g c =
    let j = c.judge-said in
    first_by c.args.keys.now c.args.source.now j.new.source (g.I.Source.left c.args.source.now) (g.I.Source.left j.new.source) c.read_journal-disk.result.1 j.result j.ensures.says j.ensures.first
