-- A run that ends as usage is one of words that are of no command.
use Rattle.std.proofs.Common.{◌≡◌, ◌∙◌, ℕ, List, [], Option, None, Some, Bool, true, false, ap, arith, inl, inr, refl, sym, Result, Ok, Err}
use Rattle.std.specs.Prelude.{MatchBool}
use Rattle.address_keys.specs.declared.keys.Keys.{Keys}
use Rattle.audit.specs.declared.verdict.AuditFault.{AuditFault}
use Rattle.audit.specs.declared.verdict.AuditFault.TheVariants as unsaid
use Rattle.audit.specs.declared.verdict.Verdict.{Verdict}
use Rattle.audit.specs.declared.verdict.Verdict.TheVariants as verdict
use Rattle.compaction.specs.declared.fault.CompactionFault.{CompactionFault}
use Rattle.compaction.specs.declared.fault.CompactionFault.TheVariants as compaction
use Rattle.journal_file.specs.declared.faults.JournalFault.{JournalFault}
use Rattle.journal_file.specs.declared.faults.JournalFault.TheVariants as journal
use Rattle.link_door.specs.declared.asked.Asked.{Asked}
use Rattle.link_door.specs.declared.door.Door.{Ghosts as DoorGhosts}
use Rattle.link_door.specs.declared.link.Link.{Ghosts as LinkGhosts}
use Rattle.link_door.specs.declared.world.World.{Ghosts as WorldGhosts}
use Rattle.link_door.specs.declared.world.WorldFault.{WorldFault}
use Rattle.link_door.specs.declared.world.WorldFault.TheVariants as world
use Rattle.rtb_disk.specs.Stores.{Store}
use Rattle.rtb_disk.specs.declared.disk.Disk.{Ghosts as DiskGhosts}
use Rattle.rtb_io.specs.Statuses.{code_of}
use Rattle.rtb_num.specs.declared.streams.Failed.{Failed}
use Rattle.rtb_io.specs.declared.status.Status.{Status}
use Rattle.rtb_io.specs.declared.status.Status.TheVariants as status
use Rattle.run_commands.specs.Audit as audit
use Rattle.run_commands.specs.Beside as beside
use Rattle.run_commands.specs.Compact as compact
use Rattle.run_commands.specs.Endings.{Ends, cut_off, whole}
use Rattle.run_commands.specs.Follow as follow
use Rattle.run_commands.specs.Journals.{EndsAt}
use Rattle.run_commands.specs.Make as make
use Rattle.run_commands.specs.Recover as recover
use Rattle.run_commands.specs.Serve as serve
use Rattle.run_words.specs.declared.audit.AuditOptions.{AuditOptions}
use Rattle.run_words.specs.declared.compact.CompactOptions.{CompactOptions}
use Rattle.run_words.specs.declared.follow.FollowOptions.{FollowOptions}
use Rattle.run_words.specs.declared.make.MakeOptions.{MakeOptions}
use Rattle.run_words.specs.declared.serve.ServeOptions.{ServeOptions}
use Rattle.worker_pool.specs.Pools.{History}
use Rattle.worker_pool.specs.declared.pool.PoolEnd.{PoolEnd}
use Rattle.worker_pool.specs.declared.pool.PoolEnd.TheVariants as ending
use Rattle.run_words.specs.declared.commands.CommandLine.{CommandLine}
use Rattle.run_words.specs.declared.commands.CommandLine.TheVariants as line
use Rattle.exchange_run.specs.Lines.{IsOfAsked, IsOfLine}
use Rattle.exchange_run.specs.Plan as plan
use Rattle.exchange_run.specs.Run as run

-- what ends with another number, or with that of a sink that failed, does not end as usage
no_usage : (end : Status) (text : List ℕ) (w w' : Option (List ℕ)) (code : ℕ) → Ends end text w w' code → (code_of end ≡ 2 → ⊥) → code ≡ 2 → ⊥
no_usage end text w w' code (whole is went) another e = another (sym is ∙ e)
no_usage end text w w' code (cut_off is went) another e = omega (arith, is, e)

no_usage_at : (f : JournalFault) (w w' : Option (List ℕ)) (code : ℕ) → EndsAt f w w' code → code ≡ 2 → ⊥
no_usage_at journal.DiskFailed w w' code h e = no_usage status.JournalFailed _ w w' code h (λ n. omega (arith, n)) e
no_usage_at (journal.Damaged at) w w' code (inl h) e = no_usage status.Damaged _ w w' code h (λ n. omega (arith, n)) e
no_usage_at (journal.Damaged at) w w' code (inr h) e = no_usage status.Memory _ w w' code h (λ n. omega (arith, n)) e
no_usage_at journal.Memory w w' code h e = no_usage status.Memory _ w w' code h (λ n. omega (arith, n)) e

-- ---- serve

no_usage_without : (f : WorldFault) (w w' : Option (List ℕ)) (code : ℕ) → serve.EndsWithoutDoors f w w' code → code ≡ 2 → ⊥
no_usage_without world.Failed w w' code h e = no_usage status.NoDoor _ w w' code h (λ n. omega (arith, n)) e
no_usage_without world.Memory w w' code h e = no_usage status.Memory _ w w' code h (λ n. omega (arith, n)) e

no_usage_behind : (end : PoolEnd) (w w' : Option (List ℕ)) (code : ℕ) → serve.EndsBehind end w w' code → code ≡ 2 → ⊥
no_usage_behind ending.Served w w' code h e = omega (arith, h.0, e)
no_usage_behind ending.DoorFailed w w' code h e = no_usage status.DoorFailed _ w w' code h (λ n. omega (arith, n)) e
no_usage_behind ending.LastWriteFailed w w' code h e = no_usage status.LastWriteFailed _ w w' code h (λ n. omega (arith, n)) e
no_usage_behind ending.Memory w w' code h e = no_usage status.Memory _ w w' code h (λ n. omega (arith, n)) e

module _ {World Disk Door Link : Type 0} (W : WorldGhosts World Door Disk Link) (G : DiskGhosts Disk) (H : DoorGhosts Door Link) (K : LinkGhosts Link) (options : ServeOptions) where
  no_usage_announced : (keys : Keys) (disk disk' : Disk) (doors doors' : List Door) (past : History) (w w' : Option (List ℕ)) (code : ℕ) → serve.Announces G H K options keys disk disk' doors doors' past w w' code → code ≡ 2 → ⊥
  no_usage_announced keys disk disk' doors doors' past w w' code (serve.unannounced idle same is went) e = omega (arith, is, e)
  no_usage_announced keys disk disk' doors doors' past w w' code (serve.served ran) e = no_usage_behind ran.end ran.announced w' code ran.ends e

  no_usage_with : (keys : Keys) (v v' : World) (w w' : Option (List ℕ)) (code : ℕ) (doors' : List Door) (back : Option Disk) (past : Option History) → serve.ServesWith W G H K options keys v v' w w' code doors' back past → code ≡ 2 → ⊥
  no_usage_with keys v v' w w' code doors' back past (serve.no_disk a b c d ends) e = no_usage status.NoDisk _ w w' code ends (λ n. omega (arith, n)) e
  no_usage_with keys v v' w w' code doors' back past (serve.not_opened disk disk' a fault b c d f ends) e = no_usage_at fault w w' code ends e
  no_usage_with keys v v' w w' code doors' back past (serve.no_doors disk disk' history between a fault b c d f g ends) e = no_usage_without fault w w' code ends e
  no_usage_with keys v v' w w' code doors' back past (serve.opened disk disk' history between doors a b announces c d) e = no_usage_announced keys disk disk' doors doors' history w w' code announces e

  no_usage_serving : (v v' : World) (w w' : Option (List ℕ)) (code : ℕ) (doors' : List Door) (back : Option Disk) (past : Option History) → serve.Serves W G H K options v v' w w' code doors' back past → code ≡ 2 → ⊥
  no_usage_serving v v' w w' code doors' back past (serve.starved a b c d ends) e = no_usage status.Memory _ w w' code ends (λ n. omega (arith, n)) e
  no_usage_serving v v' w w' code doors' back past (serve.no_key a b c d ends) e = no_usage status.NoKey _ w w' code ends (λ n. omega (arith, n)) e
  no_usage_serving v v' w w' code doors' back past (serve.keyed keys between gives with_keys) e = no_usage_with keys between v' w w' code doors' back past with_keys e

-- ---- follow

no_usage_followed : (done : Result (Unit {0}) Failed) (w w' : Option (List ℕ)) (code : ℕ) → follow.EndsFollowed done w w' code → code ≡ 2 → ⊥
no_usage_followed (Ok u) w w' code h e = omega (arith, h.0, e)
no_usage_followed (Err f) w w' code h e = no_usage status.DoorFailed _ w w' code h (λ n. omega (arith, n)) e

module _ {World Disk Door Link : Type 0} (W : WorldGhosts World Door Disk Link) (G : DiskGhosts Disk) (H : DoorGhosts Door Link) (K : LinkGhosts Link) (options : FollowOptions) where
  no_usage_reported : (disk disk' : Disk) (door door' : Door) (w w' : Option (List ℕ)) (code : ℕ) → follow.Reports G H K disk disk' door door' w w' code → code ≡ 2 → ⊥
  no_usage_reported disk disk' door door' w w' code (follow.untold a b is went) e = omega (arith, is, e)
  no_usage_reported disk disk' door door' w w' code (follow.told ran) e = no_usage_followed ran.done ran.announced w' code ran.ends e

  no_usage_following : (v v' : World) (w w' : Option (List ℕ)) (code : ℕ) (doors' : List Door) (back : Option Disk) → follow.Follows W G H K options v v' w w' code doors' back → code ≡ 2 → ⊥
  no_usage_following v v' w w' code doors' back (follow.no_disk a b c ends) e = no_usage status.NoDisk _ w w' code ends (λ n. omega (arith, n)) e
  no_usage_following v v' w w' code doors' back (follow.no_door disk between a fault b c d ends) e = no_usage_without fault w w' code ends e
  no_usage_following v v' w w' code doors' back (follow.followed disk disk' between door door' a b reports c d) e = no_usage_reported disk disk' door door' w w' code reports e

-- ---- audit

no_usage_numbered : (end : Status) (text : List ℕ) (w w' : Option (List ℕ)) (code : ℕ) → audit.EndsNumbered end text w w' code → (code_of end ≡ 2 → ⊥) → code ≡ 2 → ⊥
no_usage_numbered end text w w' code (inl h) another e = no_usage end text w w' code h another e
no_usage_numbered end text w w' code (inr h) another e = no_usage status.Memory _ w w' code h (λ n. omega (arith, n)) e

no_usage_judged : (said : Result Verdict AuditFault) (w w' : Option (List ℕ)) (code : ℕ) → audit.EndsAudited said w w' code → code ≡ 2 → ⊥
no_usage_judged (Ok (verdict.Legal entries passed)) w w' code h e = no_usage_numbered status.Done _ w w' code h (λ n. omega (arith, n)) e
no_usage_judged (Ok (verdict.Illegal at)) w w' code h e = no_usage_numbered status.Refused _ w w' code h (λ n. omega (arith, n)) e
no_usage_judged (Err unsaid.DiskFailed) w w' code h e = no_usage status.JournalFailed _ w w' code h (λ n. omega (arith, n)) e
no_usage_judged (Err (unsaid.Damaged at)) w w' code h e = no_usage_numbered status.Damaged _ w w' code h (λ n. omega (arith, n)) e
no_usage_judged (Err unsaid.SourceFailed) w w' code h e = no_usage status.NotRead _ w w' code h (λ n. omega (arith, n)) e
no_usage_judged (Err (unsaid.Torn at)) w w' code h e = no_usage_numbered status.TraceTorn _ w w' code h (λ n. omega (arith, n)) e
no_usage_judged (Err unsaid.TooLong) w w' code h e = no_usage status.TraceTooLong _ w w' code h (λ n. omega (arith, n)) e
no_usage_judged (Err unsaid.Memory) w w' code h e = no_usage status.Memory _ w w' code h (λ n. omega (arith, n)) e

module _ {World Disk Door Link : Type 0} (W : WorldGhosts World Door Disk Link) (G : DiskGhosts Disk) where
  no_usage_audited : (path : List ℕ) (keys : Keys) (v v' : World) (l l' : Option (List ℕ)) (f f' : ℕ) (w w' : Option (List ℕ)) (code : ℕ) (back : Option Disk) → audit.RunsAuditWith W G path keys v v' l l' f f' w w' code back → code ≡ 2 → ⊥
  no_usage_audited path keys v v' l l' f f' w w' code back (audit.no_disk a b c d ends) e = no_usage status.NoDisk _ w w' code ends (λ n. omega (arith, n)) e
  no_usage_audited path keys v v' l l' f f' w w' code back (audit.audited disk disk' a b judged) e = no_usage_judged judged.said w w' code judged.ends e

  no_usage_auditing : (o : AuditOptions) (v v' : World) (l l' : Option (List ℕ)) (f f' : ℕ) (w w' : Option (List ℕ)) (code : ℕ) (back : Option Disk) → audit.RunsAudit W G o v v' l l' f f' w w' code back → code ≡ 2 → ⊥
  no_usage_auditing o v v' l l' f f' w w' code back (audit.starved a b c d ends) e = no_usage status.Memory _ w w' code ends (λ n. omega (arith, n)) e
  no_usage_auditing o v v' l l' f f' w w' code back (audit.no_key a b c d ends) e = no_usage status.NoKey _ w w' code ends (λ n. omega (arith, n)) e
  no_usage_auditing o v v' l l' f f' w w' code back (audit.keyed keys between gives with_keys) e = no_usage_audited o.journal keys between v' l l' f f' w w' code back with_keys e

-- ---- make

no_usage_made : (options : MakeOptions) (w w' : Option (List ℕ)) (code : ℕ) → make.RunsMake options w w' code → code ≡ 2 → ⊥
no_usage_made options w w' code (inl (made, is, ends)) e = no_usage status.Done _ w w' code ends (λ n. omega (arith, n)) e
no_usage_made options w w' code (inr ends) e = no_usage status.Memory _ w w' code ends (λ n. omega (arith, n)) e

-- ---- recover and compact

no_usage_told : (store : Store) (f f' : ℕ) (w w' : Option (List ℕ)) (code : ℕ) → recover.Tells store f f' w w' code → code ≡ 2 → ⊥
no_usage_told store f f' w w' code (recover.counted line tells same ends) e = no_usage status.Done line w w' code ends (λ n. omega (arith, n)) e
no_usage_told store f f' w w' code (recover.faulty fault cause ends) e = no_usage_at fault w w' code ends e

no_usage_compacted : (r : Result (Unit {0}) CompactionFault) (line : List ℕ) (w w' : Option (List ℕ)) (code : ℕ) → compact.EndsCompacted r line w w' code → code ≡ 2 → ⊥
no_usage_compacted (Ok u) line w w' code h e = no_usage status.Done line w w' code h (λ n. omega (arith, n)) e
no_usage_compacted (Err (compaction.NotRead fault)) line w w' code h e = no_usage_at fault w w' code h e
no_usage_compacted (Err compaction.NotEmpty) line w w' code h e = no_usage status.NotEmpty _ w w' code h (λ n. omega (arith, n)) e
no_usage_compacted (Err compaction.WriteFailed) line w w' code h e = no_usage status.WriteFailed _ w w' code h (λ n. omega (arith, n)) e
no_usage_compacted (Err compaction.Memory) line w w' code h e = no_usage status.Memory _ w w' code h (λ n. omega (arith, n)) e

module _ {Disk : Type 0} (G : DiskGhosts Disk) where
  no_usage_recovering : (path : List ℕ) (a a' : List Asked) (l l' : Option (List Disk)) (c c' : ℕ) (w w' : Option (List ℕ)) (code : ℕ) (back : Option Disk) → recover.Recovers G path a a' l l' c c' w w' code back → code ≡ 2 → ⊥
  no_usage_recovering path a a' l l' c c' w w' code back (recover.no_disk p q r s ends) e = no_usage status.NoDisk _ w w' code ends (λ n. omega (arith, n)) e
  no_usage_recovering path a a' l l' c c' w w' code back (recover.read disk disk' p q r s t tells) e = no_usage_told (G.store disk) (G.faults disk) (G.faults disk') w w' code tells e

  no_usage_compacting : (o : CompactOptions) (a a' : List Asked) (l l' : Option (List Disk)) (c c' : ℕ) (w w' : Option (List ℕ)) (code : ℕ) (back other : Option Disk)
      → compact.RunsCompact G o a a' l l' c c' w w' code back other → code ≡ 2 → ⊥
  no_usage_compacting o a a' l l' c c' w w' code back other (compact.no_journal p q r s t ends) e = no_usage status.NoDisk _ w w' code ends (λ n. omega (arith, n)) e
  no_usage_compacting o a a' l l' c c' w w' code back other (compact.no_file from p q r s t ends) e = no_usage status.NoDisk _ w w' code ends (λ n. omega (arith, n)) e
  no_usage_compacting o a a' l l' c c' w w' code back other (compact.compacted from from' into into' p q r s t there done) e = no_usage_compacted done.done done.line w w' code done.ends e

module _ {World Door Disk Link : Type 0} (W : WorldGhosts World Door Disk Link) (G : DiskGhosts Disk) (o : CompactOptions) where
  no_usage_written : (v v' : World) (from from' into into' : Disk) (w w' : Option (List ℕ)) (code : ℕ) (last : Option Disk) → beside.EndsBehind W G o v v' from from' into into' w w' code last → code ≡ 2 → ⊥
  no_usage_written v v' from from' into into' w w' code last (beside.untold p q is front r) e = omega (arith, is, e)
  no_usage_written v v' from from' into into' w w' code last (beside.broken a p q r fault s ends) e = no_usage_compacted (Err fault) [] a w' code ends e
  no_usage_written v v' from from' into into' w w' code last (beside.not_freed a p q r s ends) e = no_usage status.NoDisk _ a w' code ends (λ n. omega (arith, n)) e
  no_usage_written v v' from from' into into' w w' code last (beside.freed a p d d' q r line done s ends) e = no_usage_compacted done line a w' code ends e

  no_usage_beside : (v v' : World) (w w' : Option (List ℕ)) (code : ℕ) (back other last : Option Disk) → beside.RunsBeside W G o v v' w w' code back other last → code ≡ 2 → ⊥
  no_usage_beside v v' w w' code back other last (beside.no_journal p q r s ends) e = no_usage status.NoDisk _ w w' code ends (λ n. omega (arith, n)) e
  no_usage_beside v v' w w' code back other last (beside.no_file from between p q r s t ends) e = no_usage status.NoDisk _ w w' code ends (λ n. omega (arith, n)) e
  no_usage_beside v v' w w' code back other last (beside.not_begun from from' into into' between p q r s t fault n ends) e = no_usage_compacted (Err fault) [] w w' code ends e
  no_usage_beside v v' w w' code back other last (beside.begun from from' into into' between opened p q r s ends) e = no_usage_written opened v' from from' into into' w w' code last ends e

-- in both forms
no_usage_either : (b : Bool) (A B : Type 0) (code : ℕ) → (A → code ≡ 2 → ⊥) → (B → code ≡ 2 → ⊥) → MatchBool b A B → code ≡ 2 → ⊥
no_usage_either true A B code a b h e = a h e
no_usage_either false A B code a b h e = b h e

-- ---- the run

no_usage_shown : (w w' : Option (List ℕ)) (code : ℕ) → run.Shows w w' code → code ≡ 2 → ⊥
no_usage_shown w w' code (inl told) e = no_usage status.Done told.0 w w' code told.1 (λ n. omega (arith, n)) e
no_usage_shown w w' code (inr ends) e = no_usage status.Memory _ w w' code ends (λ n. omega (arith, n)) e

no_usage_answered : (refused : Bool) → code_of (plan.status_of refused) ≡ 2 → ⊥
no_usage_answered true e = omega (arith, e)
no_usage_answered false e = omega (arith, e)

no_usage_of : (l l' : Option (List ℕ)) (f f' : ℕ) (end : Status) (text : List ℕ) → plan.IsPlan l l' f f' end text → code_of end ≡ 2 → ⊥
no_usage_of l l' f f' end text (plan.answered bytes came same refused line is) e = no_usage_answered refused (ap code_of (sym is) ∙ e)
no_usage_of l l' f f' end text (plan.not_read rose is text_is) e = let ten : 10 ≡ 2 = ap code_of (sym is) ∙ e in omega (arith, ten)
no_usage_of l l' f f' end text (plan.short_of_memory same is text_is) e = let nine : 9 ≡ 2 = ap code_of (sym is) ∙ e in omega (arith, nine)

no_usage_planned : (l l' : Option (List ℕ)) (f f' : ℕ) (w w' : Option (List ℕ)) (code : ℕ) → plan.Plans l l' f f' w w' code → code ≡ 2 → ⊥
no_usage_planned l l' f f' w w' code plans e = no_usage plans.end plans.text w w' code plans.went (no_usage_of l l' f f' plans.end plans.text plans.plan) e

module _ {World Disk Door Link : Type 0} (W : WorldGhosts World Door Disk Link) (G : DiskGhosts Disk) (H : DoorGhosts Door Link) (K : LinkGhosts Link) (v v' : World) (l l' : Option (List ℕ)) (f f' : ℕ)
    (w w' : Option (List ℕ)) (code : ℕ) (back : run.Back Door Disk) where
  no_usage_starved : run.IsStarved v v' back w w' code → code ≡ 2 → ⊥
  no_usage_starved starved e = no_usage status.Memory _ w w' code starved.ends (λ n. omega (arith, n)) e

  no_usage_line : (asked : CommandLine) → IsOfLine W G H K v v' l l' f f' w w' code back asked → code ≡ 2 → ⊥
  no_usage_line (line.Serve options) its e = no_usage_serving W G H K options v v' w w' code back.doors back.disk back.past its.serves e
  no_usage_line (line.Recover options) (inl its) e = no_usage_recovering G options.journal _ _ _ _ _ _ w w' code back.disk its.recovers e
  no_usage_line (line.Recover options) (inr starved) e = no_usage_starved starved e
  no_usage_line (line.Compact options) (inl its) e = no_usage_either options.beside _ _ code
      (λ h. no_usage_beside W G options v v' w w' code back.disk back.other back.last h)
      (λ h. no_usage_compacting G options (W.asked v) (W.asked v') (W.disks_left v) (W.disks_left v') (W.faults v) (W.faults v') w w' code back.disk back.other h.0) its.compacts e
  no_usage_line (line.Compact options) (inr starved) e = no_usage_starved starved e
  no_usage_line (line.Follow options) (inl its) e = no_usage_following W G H K options v v' w w' code back.doors back.disk its.follows e
  no_usage_line (line.Follow options) (inr starved) e = no_usage_starved starved e
  no_usage_line line.Which its e = no_usage_planned l l' f f' w w' code its.plans e
  no_usage_line (line.Audit options) its e = no_usage_auditing W G options v v' l l' f f' w w' code back.disk its.audits e
  no_usage_line (line.Make options) its e = no_usage_made options w w' code its.makes e
  no_usage_line (line.Help topic) its e = no_usage_shown w w' code its.shown e
  no_usage_line line.Version its e = no_usage_shown w w' code its.shown e

  pub named : (o : Option run.Asked) → IsOfAsked W G H K v v' l l' f f' w w' code back o → code ≡ 2 → o ≡ None
  named None its e = refl
  named (Some (run.sale campaigns)) its e = absurd its
  named (Some (run.other asked)) its e = absurd (no_usage_line asked its e)
