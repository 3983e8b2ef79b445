use Rattle.std.proofs.Common.{◌≡◌, ◌∙◌, ap, sym, subst, refl, ℕ, ◌∷◌, drop}
use Rattle.std.specs.Prelude.{Option, Some, None, Ok, Err}
use Rattle.rtb_disk.specs.Stores.{EachImage, Store}
use Rattle.journal_file.specs.Blocks.{HasBlocks}
use Rattle.journal_file.specs.Damage.{IsBlockAt}
use Rattle.journal_file.specs.Gates.{has_gate}
use Rattle.journal_file.specs.declared.faults.JournalFault.{JournalFault}
use Rattle.journal_file.specs.declared.faults.JournalFault.TheVariants as fault
use Rattle.journal_file.proofs.GateLemmas.{at_damage, at_shut, next_end, one_more}
use Rattle.journal_file.proofs.reading.Reading.next_of_blocks.Goals as goal

pub returns-in-Ok-Some-clause-next : goal.returns-in-Ok-Some-clause-next
returns-in-Ok-Some-clause-next g c = λ names payloads r.
    let self = c.args.self.now in
    let image = (g.D.Disk.store self.disk).reads in
    let same = c.in-Ok-Some.ensures.same in
    let found : IsBlockAt self.gate (drop self.gate image) c.args.out.now c.block_ahead.new.out (Ok (Some c.in-Ok-Some.next)) =
    subst (λ (o : Option ℕ). IsBlockAt self.gate (drop self.gate image) c.args.out.now c.block_ahead.new.out (Ok o)) c.in-Ok-Some.field-0-is (c.in-Ok-Some.ensures.block r.told) in (
      found.0,
      r.end,
      found.3,
      record {
        told = ap (λ (s : Store). s.told) same ∙ r.told;
        found = r.found;
        end = next_end names r.name payloads image r.rest self.gate r.named r.end r.file found.0 c.in-Ok-Some.next found.2;
        name = r.name;
        named = r.named;
        rest = found.1.gate ∷ found.1.rest;
        file = ap (λ (s : Store). s.reads) same ∙ one_more names r.name payloads image r.rest self.gate r.named r.end r.file found.0 found.1;
        only = subst (λ (s : Store). EachImage (λ i. i ≡ s.reads) s.now) (sym same) r.only;
      },
    )

pub returns-in-Ok-None-clause-next : goal.returns-in-Ok-None-clause-next
returns-in-Ok-None-clause-next g c = λ names payloads r.
    let self = c.args.self.now in
    let image = (g.D.Disk.store self.disk).reads in
    let same = c.in-Ok-None.ensures.same in
    let found : IsBlockAt self.gate (drop self.gate image) c.args.out.now c.block_ahead.new.out (Ok None) =
    subst (λ (o : Option ℕ). IsBlockAt self.gate (drop self.gate image) c.args.out.now c.block_ahead.new.out (Ok o)) c.in-Ok-None.field-0-is (c.in-Ok-None.ensures.block r.told) in (
      found.1,
      record {
        told = ap (λ (s : Store). s.told) same ∙ r.told;
        found = refl;
        end = r.end;
        file = subst (λ (s : Store). HasBlocks names payloads s.reads) (sym same) (at_shut names r.name payloads image r.rest self.gate r.named r.end r.file (self.inside (ap has_gate r.found) r.told) found.0);
        only = subst (λ (s : Store). EachImage (λ i. i ≡ s.reads) s.now) (sym same) r.only;
      },
    )

pub returns-in-Err-Damaged-clause-next : goal.returns-in-Err-Damaged-clause-next
returns-in-Err-Damaged-clause-next g c = λ names payloads r.
    let self = c.args.self.now in
    let image = (g.D.Disk.store self.disk).reads in
    let found : IsBlockAt self.gate (drop self.gate image) c.args.out.now c.block_ahead.new.out (Err (fault.Damaged c.in-Err-Damaged.field-0-0)) =
    subst (λ (e : JournalFault). IsBlockAt self.gate (drop self.gate image) c.args.out.now c.block_ahead.new.out (Err e)) c.in-Err-Damaged.field-0-is (c.in-Err-Damaged.ensures.block r.told) in
    (found.2, r.end, at_damage names r.name payloads image r.rest self.gate r.named r.end r.file found.0)
