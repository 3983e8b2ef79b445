-- What `which` answers, and what a whole run of it does.
use Rattle.std.specs.Prelude.{◌≡◌, ℕ, ◌<◌, ◌⊎◌, List, [], ◌∷◌, ◌++◌, length, Bool, if◌then◌else◌, Option}
use Rattle.std.specs.Io.KnownBytes.{Consumes, IsAtEnd}
use Rattle.rtb_base.specs.Faults.{Rose}
use Rattle.rtb_io.specs.declared.status.Status.{Status}
use Rattle.rtb_io.specs.declared.status.Status.TheVariants as status
use Rattle.run_commands.specs.Endings.{Ends, line_of}
use Rattle.which_run.specs.Answers.{IsReply, longest}
use Rattle.which_run.specs.declared.reply.Reply.{Reply}

-- all was read, or more than the longest input
pub record WasReadWhole (left left' : Option (List ℕ)) (bytes : List ℕ) : Type 0 where
  pub came : Consumes left left' bytes
  pub whole : IsAtEnd left' ⊎ (longest < length bytes)

-- the reply to the bytes, and a line feed
pub record IsLine (bytes : List ℕ) (refused : Bool) (text : List ℕ) : Type 0 where
  pub reply : Reply
  pub is_reply : IsReply bytes reply
  pub refused_is : refused ≡ reply.refused
  pub text_is : text ≡ reply.text ++ 10 ∷ []

abbrev pub status_of : Bool → Status
status_of refused = if refused then status.Refused else status.Done

-- What a run comes to, before it is written: how it ends, and with which text. The input was read, and this is the
-- reply to it; or the source failed; or memory was refused.
pub data IsPlan (left left' : Option (List ℕ)) (faults faults' : ℕ) (end : Status) (text : List ℕ) : Type 0 where
  answered : (bytes : List ℕ) → WasReadWhole left left' bytes → faults' ≡ faults → (refused : Bool) → IsLine bytes refused text → end ≡ status_of refused → IsPlan left left' faults faults' end text
  not_read : Rose faults faults' → end ≡ status.NotRead → text ≡ line_of end → IsPlan left left' faults faults' end text
  short_of_memory : faults' ≡ faults → end ≡ status.Memory → text ≡ line_of end → IsPlan left left' faults faults' end text

-- that was written, or a front of it where the sink failed
pub record Plans (left left' : Option (List ℕ)) (faults faults' : ℕ) (written written' : Option (List ℕ)) (code : ℕ) : Type 0 where
  pub end : Status
  pub text : List ℕ
  pub plan : IsPlan left left' faults faults' end text
  pub went : Ends end text written written' code
