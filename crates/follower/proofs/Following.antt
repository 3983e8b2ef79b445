-- What messages come to, one after the other.
use Rattle.std.proofs.Common.{◌≡◌, inl, inr, ℕ, ◌+◌, List, [], ◌∷◌, ◌++◌, drop, cond, true, false, refl, sym, ◌∙◌, ap, subst, arith}
use Rattle.std.specs.Prelude.{◌⊎◌, Result, Err, Some}
use Rattle.std.proofs.lemmas.List.Sums.{sum_by-append}
use Rattle.follower.specs.Doors.{Follows, is_store_failed, store_failed}
use Rattle.follower.specs.Following.{CatchesUp, IsWithin}
use Rattle.follower.specs.Reporting.{AsksFor, IsAnswer, IsPlain, IsReport, change, not_found, nothing, read_only, report, starved}
use Rattle.follower.specs.declared.follower.Follower.{Follower}
use Rattle.follower.proofs.Standing.{goes_none, goes_then}
use Rattle.http_wire.specs.declared.answer.Answer.{Answer}
use Rattle.http_wire.specs.declared.message.Message.{Message}
use Rattle.journal_file.specs.declared.faults.JournalFault.{JournalFault}
use Rattle.journal_file.specs.declared.faults.JournalFault.TheVariants as fault
use Rattle.rtb_disk.specs.Stores.{Store}
use Rattle.rtb_disk.specs.declared.disk.Disk.{Ghosts}
use Rattle.session.specs.declared.service.Given.{Given}
use Rattle.session.specs.declared.service.Given.TheVariants as given
use Rattle.session.specs.Talk.{Talks, Turn}

counted : (l m : List Turn) → store_failed (l ++ m) ≡ store_failed l + store_failed m
counted l m = sum_by-append _ l m

count_is : (turn : Turn) (g : Given) → turn.given ≡ g → store_failed (turn ∷ []) ≡ cond (is_store_failed g) 1 0
count_is turn g is = omega (arith, ap {B = ℕ} (λ (x : Given). cond (is_store_failed x) 1 0) is)

-- a report, or want of memory before the journal was read
pub reported_or_starved : {D : Type 0} (G : Ghosts D) (n : ℕ) (message : Message) (gave : Given) (old new : Follower D) → AsksFor message (Some n) → IsReport G n old new gave ⊎ ((gave ≡ given.Memory) × (new ≡ old)) → IsAnswer G old message gave new
reported_or_starved G n message gave old new asks (inl r) = report n asks r
reported_or_starved G n message gave old new asks (inr (is, same)) = starved is same

module _ {D : Type 0} (G : Ghosts D) where
  pub follows_none : (f : Follower D) → Follows G [] f f
  follows_none f = record { goes = goes_none f; within = λ told w. w; same = refl; failed = omega arith; rose = omega arith }

  pub follows_then : (l m : List Turn) (f g h : Follower D) → Follows G l f g → Follows G m g h → Follows G (l ++ m) f h
  follows_then l m f g h a b = record {
    goes = goes_then f g h a.goes b.goes;
    within = λ told w. (subst (λ (store : Store). store.told ≡ true → IsWithin store.reads g → IsWithin store.reads h) a.same b.within) told (a.within told w);
    same = b.same ∙ a.same;
    failed = omega (arith, a.failed, b.failed, a.rose, b.rose, counted l m);
    rose = omega (arith, a.rose, b.rose);
  }

  -- a catching up of which no failure was told
  quiet : (turn : Turn) (f g : Follower D) (r : Result ℕ JournalFault) → CatchesUp G f g r → store_failed (turn ∷ []) ≡ 0 → Follows G (turn ∷ []) f g
  quiet turn f g r c none = record { goes = c.goes; within = c.within; same = c.same; failed = omega (arith, none, c.cause.0); rose = c.cause.0 }

  failed : (turn : Turn) (f g : Follower D) → CatchesUp G f g (Err fault.DiskFailed) → store_failed (turn ∷ []) ≡ 1 → Follows G (turn ∷ []) f g
  failed turn f g c one = record { goes = c.goes; within = c.within; same = c.same; failed = omega (arith, one, c.cause.1 refl); rose = c.cause.0 }

  unread : (turn : Turn) (f g : Follower D) → g ≡ f → store_failed (turn ∷ []) ≡ 0 → Follows G (turn ∷ []) f g
  unread turn f g same none = subst (λ (x : Follower D). Follows G (turn ∷ []) f x) (sym same) (record { goes = goes_none f; within = λ told w. w; same = refl; failed = omega (arith, none); rose = omega arith })

  of_report : (turn : Turn) (n : ℕ) (f f' : Follower D) (g : Given) → turn.given ≡ g → IsReport G n f f' g → Follows G (turn ∷ []) f f'
  of_report turn n f f' (given.Text answer true) is r = absurd r
  of_report turn n f f' (given.Text answer false) is (inl (c, a)) = quiet turn f f' _ c (count_is turn (given.Text answer false) is)
  of_report turn n f f' (given.Text answer false) is (inr (at, c, a)) = quiet turn f f' _ c (count_is turn (given.Text answer false) is)
  of_report turn n f f' given.StoreFailed is c = failed turn f f' c (count_is turn given.StoreFailed is)
  of_report turn n f f' given.Memory is (inl c) = quiet turn f f' _ c (count_is turn given.Memory is)
  of_report turn n f f' given.Memory is (inr c) = quiet turn f f' _ c (count_is turn given.Memory is)
  of_report turn n f f' given.MemoryLate is r = absurd r

  of_plain : (turn : Turn) (plain : Answer) (f f' : Follower D) (g : Given) → turn.given ≡ g → IsPlain G plain f f' g → Follows G (turn ∷ []) f f'
  of_plain turn plain f f' (given.Text answer true) is p = absurd p
  of_plain turn plain f f' (given.Text answer false) is (a, same) = unread turn f f' same (count_is turn (given.Text answer false) is)
  of_plain turn plain f f' given.StoreFailed is p = absurd p
  of_plain turn plain f f' given.Memory is same = unread turn f f' same (count_is turn given.Memory is)
  of_plain turn plain f f' given.MemoryLate is p = absurd p

  of_answer : (turn : Turn) (f f' : Follower D) → IsAnswer G f turn.message turn.given f' → Follows G (turn ∷ []) f f'
  of_answer turn f f' (report n asks r) = of_report turn n f f' turn.given refl r
  of_answer turn f f' (nothing get asks p) = of_plain turn not_found f f' turn.given refl p
  of_answer turn f f' (change other p) = of_plain turn read_only f f' turn.given refl p
  of_answer turn f f' (starved is same) = unread turn f f' same (count_is turn given.Memory is)

  pub of_talks : (k : ℕ) (f g : Follower D) (bytes rest : List ℕ) (turns : List Turn) → Talks (IsAnswer G) k f bytes turns g rest → Follows G turns f g
  of_talks k f g bytes rest [] talk = subst (λ (x : Follower D). Follows G [] f x) (sym talk.0) (follows_none f)
  of_talks k f g bytes rest (turn ∷ turns) (mid, used, decides, answers, text, more) =
      follows_then (turn ∷ []) turns f mid g (of_answer turn f mid answers) (of_talks (k + 1) mid g (drop used bytes) rest turns more)
