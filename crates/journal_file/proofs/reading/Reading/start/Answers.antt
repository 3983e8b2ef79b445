use Rattle.std.proofs.Common.{◌≡◌, ◌∙◌, ◌++◌, ap, sym, subst, refl, inl, List, ℕ}
use Rattle.rtb_disk.specs.Stores.{Store, EachImage}
use Rattle.journal_file.specs.Openings.{HasHeader, IsOpening}
use Rattle.journal_file.specs.Blocks.{journal_names}
use Rattle.journal_file.specs.declared.opening.Opening.{Opening}
use Rattle.journal_file.proofs.GateLemmas.{first_end, first_front}
use Rattle.journal_file.proofs.reading.Reading.start.Goals as goal

pub returns-in-Ok-default-Journal-clause-start : goal.returns-in-Ok-default-Journal-clause-start
returns-in-Ok-default-Journal-clause-start g c = λ told.
    let known = c.in-Ok-default-Journal.ensures in
    let old = g.D.Disk.store c.args.disk in
    let e = known.synced told in
    let begins : HasHeader journal_names old.reads = subst (λ (o : Opening). IsOpening o old.reads) c.in-Ok-default-Journal.field-0-1-is (known.opening told) in
    let same = ap (λ (s : Store). s.reads) e in (
      same,
      inl (record {
        told = known.told ∙ told;
        found = refl;
        end = first_end;
        name = begins.name;
        named = begins.named;
        rest = begins.rest;
        file = same ∙ begins.file ∙ ap (λ (l : List ℕ). l ++ begins.rest) (first_front begins.name);
        only = subst (λ (s : Store). EachImage (λ i. i ≡ s.reads) s.now) (sym e) (λ i is. is);
      }),
    )
