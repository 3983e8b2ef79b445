-- A journal's disk and keys, as a world gives them or not.
use Rattle.std.proofs.Common.{◌≡◌, ◌∙◌, List, [], ◌∷◌, ℕ, Bool, true, Option, None, Some, Result, Ok, Err, refl, subst, sym}
use Rattle.std.specs.Prelude.{IfOk, IsSome, MatchResult}
use Rattle.address_keys.specs.Tokens.{key_of}
use Rattle.link_door.specs.Worlds.{Asks, HandsOut}
use Rattle.link_door.specs.declared.world.World.{Ghosts}
use Rattle.rtb_base.specs.Faults.{CountsErrors}
use Rattle.rtb_disk.specs.declared.disk.Disk.{Ghosts as DiskGhosts}
use Rattle.run_commands.specs.Given.{Gives, GivesJournal, GivesKey, GivesNoJournal, GivesNoKey, GivesNone, GivesText, IsThere, journal_asked, unfit}

pub gives_journal : {World Door Disk Link E : Type 0} (W : Ghosts World Door Disk Link) (G : DiskGhosts Disk) (existing asked : Bool) (path : List ℕ) (w w' : World) (r : Result Disk E)
    → existing ≡ asked → Asks (W.asked w) (W.asked w') (journal_asked asked path) r
    → MatchResult r (λ disk. HandsOut (W.disks_left w) (W.disks_left w') (disk ∷ [])) (λ _. W.disks_left w' ≡ W.disks_left w)
    → W.doors_left w' ≡ W.doors_left w → W.keys_left w' ≡ W.keys_left w → CountsErrors (W.faults w) (W.faults w') r → (asked ≡ true → IfOk r (λ disk. IsThere (G.store disk)))
    → MatchResult r (GivesJournal W G existing path w w') (λ _. GivesNoJournal W existing path w w')
gives_journal W G existing asked path w w' (Ok disk) is asks disks doors keys cause there = record {
  gives = subst (λ (b : Bool). Gives W (journal_asked b path) w w' disk) (sym is) (record { asked = asks; disks = disks; doors = doors; keys = keys; faults = cause });
  there = λ e. there (sym is ∙ e);
}
gives_journal W G existing asked path w w' (Err e) is asks disks doors keys cause there =
    subst (λ (b : Bool). GivesNone W (journal_asked b path) w w') (sym is) (record { asked = asks; disks = disks; doors = doors; keys = keys; faults = cause.1 })

-- the text of a key, by whether it is one
pub gives_key : {World Door Disk Link E : Type 0} (W : Ghosts World Door Disk Link) (path : List ℕ) (w w' : World) (text : List ℕ) (r : Result (Option (List ℕ)) E) → GivesText W path w w' text
    → MatchResult r (λ k. (key_of text ≡ k) × IsSome k) (λ _. key_of text ≡ None) → MatchResult r (GivesKey W (Some path) w w') (λ _. GivesNoKey W path w w')
gives_key W path w w' text (Ok k) gives is = (text, gives, is.0, is.1)
gives_key W path w w' text (Err e) gives none = unfit text gives none

-- the same of a name that is given
pub gives_named : {World Door Disk Link E : Type 0} (W : Ghosts World Door Disk Link) (path : Option (List ℕ)) (name : List ℕ) (w w' : World) (r : Result (Option (List ℕ)) E) → path ≡ Some name
    → MatchResult r (GivesKey W (Some name) w w') (λ _. GivesNoKey W name w w') → MatchResult r (GivesKey W path w w') (λ _. (n : List ℕ) × (path ≡ Some n) × GivesNoKey W n w w')
gives_named W path name w w' (Ok k) is h = subst (λ (p : Option (List ℕ)). GivesKey W p w w' k) (sym is) h
gives_named W path name w w' (Err e) is h = (name, is, h)

pub gives_unnamed : {World Door Disk Link : Type 0} (W : Ghosts World Door Disk Link) (path : Option (List ℕ)) (w : World) → path ≡ None → GivesKey W path w w None
gives_unnamed W path w is = subst (λ (p : Option (List ℕ)). GivesKey W p w w None) (sym is) (refl, refl)
