use Rattle.std.proofs.Common.{Ok, subst, sym}
use Rattle.audit.proofs.Coming.{stands}
use Rattle.audit.proofs.Judging.{before_of, ends_legal, ends_torn}
use Rattle.audit.specs.Standing.{Said}
use Rattle.audit.specs.declared.verdict.Verdict.{Verdict}
use Rattle.trace.proofs.Reading.{entry_code}
use Rattle.audit.proofs.entries.Audit.step.Goals as goal

pub next-requires : goal.next-requires
next-requires g c = record { code = entry_code }

pub returns-in-Item-clause-says : goal.returns-in-Item-clause-says
returns-in-Item-clause-says g c = λ s left st.
    let found = rw c.in-Item.is at c.in_ok-entry.ensures.next in
    let now = g.S.Source.left c.next.new.source in
    c.judge-judged.ensures.says s left now (before_of c.args.keys.now s left (g.S.Source.left c.args.source.now) now c.args.self.now c.next.new.self c.in-Item.entry c.in-Item.size st found)

pub returns-in-Item-clause-cause : goal.returns-in-Item-clause-cause
returns-in-Item-clause-cause g c =
    stands _ (g.S.Source.faults c.args.source.now) (g.S.Source.faults c.next.new.source) (c.in_ok-entry.ensures.cause.2 (λ e. absurd (cc e))) c.judge-judged.ensures.no_source

pub returns-in-End-clause-says : goal.returns-in-End-clause-says
returns-in-End-clause-says g c = λ s left st.
    let found = rw c.in-End.is at c.in_ok-entry.ensures.next in
    let now = g.S.Source.left c.next.new.source in
    subst (λ (v : Verdict). Said c.args.keys.now s left now (Ok v)) (sym c.legal.ensures) (ends_legal c.args.keys.now s left (g.S.Source.left c.args.source.now) now c.args.self.now c.next.new.self c.requires.few st found)

pub returns-in-Torn-clause-says : goal.returns-in-Torn-clause-says
returns-in-Torn-clause-says g c = λ s left st.
    let found = rw c.in-Torn.is at c.in_ok-entry.ensures.next in
    ends_torn c.args.keys.now s left (g.S.Source.left c.args.source.now) (g.S.Source.left c.next.new.source) c.args.self.now c.next.new.self c.requires.few st found
