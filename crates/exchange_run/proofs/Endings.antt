-- Which status has the number of a sink that failed, and how lines are put together.
use Rattle.std.proofs.Common.{◌≡◌, ◌≢◌, ◌⊎◌, inl, inr, sym, ℕ, ◌<◌, List, [], ◌∷◌, ◌++◌, length, ap, ◌∙◌, append_assoc, refl, arith}
use Rattle.rtb_io.specs.Statuses.{code_of}
use Rattle.rtb_io.specs.declared.status.Status.{Status}
use Rattle.rtb_io.specs.declared.status.Status.TheVariants.{Done, Refused, Usage, NoDoor, NoDisk, JournalFailed, Damaged, NotWritten, DoorFailed, Memory, NotRead, LastWriteFailed, NotEmpty, WriteFailed, TraceTorn, TraceTooLong, NoKey}

pub not_written : (s : Status) → code_of s ≡ code_of NotWritten → s ≡ NotWritten
not_written Done e = cc
not_written Refused e = cc
not_written Usage e = cc
not_written NotWritten e = refl
not_written NoDoor e = cc
not_written NoDisk e = cc
not_written JournalFailed e = cc
not_written Damaged e = cc
not_written DoorFailed e = cc
not_written Memory e = cc
not_written NotRead e = cc
not_written LastWriteFailed e = cc
not_written NotEmpty e = cc
not_written WriteFailed e = cc
not_written TraceTorn e = cc
not_written TraceTooLong e = cc
not_written NoKey e = cc

pub in_four : (o a b c d : List ℕ) → (((o ++ a) ++ b) ++ c) ++ d ≡ o ++ (((a ++ b) ++ c) ++ d)
in_four o a b c d =
    ap (λ l. (l ++ c) ++ d) (append_assoc o a b) ∙ ap (λ l. l ++ d) (append_assoc o (a ++ b) c) ∙ append_assoc o ((a ++ b) ++ c) d

pub no_words : (words : List (List ℕ)) → length words < 1 → words ≡ []
no_words [] h = refl
no_words (w ∷ words) h = absurd (omega (arith, h))

pub usage : (s : Status) → code_of s ≡ code_of Usage → s ≡ Usage
usage Done e = cc
usage Refused e = cc
usage Usage e = refl
usage NotWritten e = cc
usage NoDoor e = cc
usage NoDisk e = cc
usage JournalFailed e = cc
usage Damaged e = cc
usage DoorFailed e = cc
usage Memory e = cc
usage NotRead e = cc
usage LastWriteFailed e = cc
usage NotEmpty e = cc
usage WriteFailed e = cc
usage TraceTorn e = cc
usage TraceTooLong e = cc
usage NoKey e = cc

pub not_read : (s : Status) → code_of s ≡ code_of NotRead → s ≡ NotRead
not_read Done e = cc
not_read Refused e = cc
not_read Usage e = cc
not_read NotWritten e = cc
not_read NoDoor e = cc
not_read NoDisk e = cc
not_read JournalFailed e = cc
not_read Damaged e = cc
not_read DoorFailed e = cc
not_read Memory e = cc
not_read NotRead e = refl
not_read LastWriteFailed e = cc
not_read NotEmpty e = cc
not_read WriteFailed e = cc
not_read TraceTorn e = cc
not_read TraceTooLong e = cc
not_read NoKey e = cc

-- a reply is neither
pub no_usage : (s t : Status) → (t ≡ Done) ⊎ (t ≡ Refused) → s ≡ t → s ≡ Usage → ⊥
no_usage s t (inl d) e u = let f : Done ≡ Usage = sym d ∙ sym e ∙ u in cc
no_usage s t (inr d) e u = let f : Refused ≡ Usage = sym d ∙ sym e ∙ u in cc

pub no_input : (s t : Status) → (t ≡ Done) ⊎ (t ≡ Refused) → s ≡ t → s ≡ NotRead → ⊥
no_input s t (inl d) e u = let f : Done ≡ NotRead = sym d ∙ sym e ∙ u in cc
no_input s t (inr d) e u = let f : Refused ≡ NotRead = sym d ∙ sym e ∙ u in cc

-- nor is one of them a sink that failed
pub other : (s : Status) → (s ≡ Usage) ⊎ (s ≡ NotRead) → s ≢ NotWritten
other s (inl u) e = let f : Usage ≡ NotWritten = sym u ∙ e in cc
other s (inr u) e = let f : NotRead ≡ NotWritten = sym u ∙ e in cc
