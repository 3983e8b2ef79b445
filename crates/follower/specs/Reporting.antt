-- What a follower answers to a message.
use Rattle.std.specs.Prelude.{◌≡◌, ◌⊎◌, ℕ, true, false, List, [], ◌∷◌, ◌++◌, Option, Some, None, Ok, Err, codes}
use Rattle.std.specs.Option.{option_map_or}
use Rattle.address_keys.specs.Tokens.{no_keys}
use Rattle.command_read.specs.Commands.{IsCommandOf}
use Rattle.follower.specs.Following.{CatchesUp, count_in, report_of, state_in}
use Rattle.follower.specs.declared.follower.FollowReport.{FollowReport}
use Rattle.follower.specs.declared.follower.Follower.{Follower}
use Rattle.http_wire.specs.declared.answer.Answer.{Answer}
use Rattle.http_wire.specs.declared.message.Message.{Message}
use Rattle.journal_file.specs.declared.faults.JournalFault.TheVariants as fault
use Rattle.json_out.specs.Texts.{Member}
use Rattle.plain_exchange.specs.declared.commands.Act.TheVariants as act
use Rattle.plain_exchange.specs.declared.commands.Command.TheVariants as command
use Rattle.plain_exchange.specs.declared.commands.Look.TheVariants as look
use Rattle.plain_exchange.specs.State.{Campaign, State, campaign_at}
use Rattle.rtb_disk.specs.declared.disk.Disk.{Ghosts}
use Rattle.rtb_response.specs.Replies.{error_answer, number_member, object_answer, report_members}
use Rattle.rtb_response.specs.Response.{text_member}
use Rattle.session.specs.declared.service.Given.{Given}
use Rattle.session.specs.declared.service.Given.TheVariants as given

-- ---- answers

-- a report, and behind how many effects it was made
abbrev pub followed_members : ℕ → FollowReport → ℕ → List Member
followed_members n r effects = report_members n r.live r.bid r.budget r.totals ++ number_member (codes "effects") effects ∷ []

-- RFC 9110, section 15.5.5: no such campaign
abbrev pub found_answer : State → ℕ → ℕ → Answer
found_answer s n effects = option_map_or (λ (c : Campaign). object_answer 200 (followed_members n (report_of s n c) effects)) (campaign_at s n) (error_answer 404 (codes "no-such-campaign") [])

abbrev pub not_found : Answer
not_found = error_answer 404 (codes "not-found") []

-- section 15.5.10
abbrev pub read_only : Answer
read_only = error_answer 409 (codes "read-only") []

-- section 15.6.1: the journal is damaged at the place
abbrev pub damaged_members : ℕ → List Member
damaged_members at = text_member (codes "error") (codes "damaged") ∷ number_member (codes "at") at ∷ []

abbrev pub damaged_at : ℕ → Answer
damaged_at at = object_answer 500 (damaged_members at)

-- ---- messages

-- the message asks for the report of campaign n, or of none
abbrev pub AsksFor : Message → Option ℕ → Type 0
AsksFor message (Some n) = IsCommandOf no_keys message (Ok (command.Act (act.Look (look.Report n))))
AsksFor message None = (n : ℕ) → IsCommandOf no_keys message (Ok (command.Act (act.Look (look.Report n)))) → ⊥

module _ {D : Type 0} (G : Ghosts D) where
  -- The report of campaign n: the follower caught up first, and where it could not that is answered. A disk that failed and
  -- damage are told as that, and never as want of memory, which is told of a catching up that ended by it and of a report.
  abbrev pub IsReport : ℕ → Follower D → Follower D → Given → Type 0
  IsReport n old new (given.Text answer true) = ⊥
  IsReport n old new (given.Text answer false) =
      (CatchesUp G old new (Ok (count_in new)) × (answer ≡ found_answer (state_in new) n (count_in new)))
      ⊎ ((at : ℕ) × CatchesUp G old new (Err (fault.Damaged at)) × (answer ≡ damaged_at at))
  IsReport n old new given.StoreFailed = CatchesUp G old new (Err fault.DiskFailed)
  IsReport n old new given.Memory = CatchesUp G old new (Ok (count_in new)) ⊎ CatchesUp G old new (Err fault.Memory)
  IsReport n old new given.MemoryLate = ⊥

  -- This answer, or want of memory for it; nothing was read.
  abbrev pub IsPlain : Answer → Follower D → Follower D → Given → Type 0
  IsPlain plain old new (given.Text answer true) = ⊥
  IsPlain plain old new (given.Text answer false) = (answer ≡ plain) × (new ≡ old)
  IsPlain plain old new given.StoreFailed = ⊥
  IsPlain plain old new given.Memory = new ≡ old
  IsPlain plain old new given.MemoryLate = ⊥

  -- By what the message asks for, as an exchange reads it (RFC 9110, section 9.3.1): the report of a campaign, another
  -- thing by `GET`, or a change. Where memory is refused before that is known, nothing was read of the journal.
  pub data IsAnswer (old : Follower D) (message : Message) (gave : Given) (new : Follower D) : Type 0 where
    report : (n : ℕ) → AsksFor message (Some n) → IsReport n old new gave → IsAnswer old message gave new
    nothing : message.method ≡ codes "GET" → AsksFor message None → IsPlain not_found old new gave → IsAnswer old message gave new
    change : (message.method ≡ codes "GET" → ⊥) → IsPlain read_only old new gave → IsAnswer old message gave new
    starved : gave ≡ given.Memory → new ≡ old → IsAnswer old message gave new
