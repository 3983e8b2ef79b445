-- What a run comes to, by the command that its words ask for.
use Rattle.std.proofs.Common.{◌≡◌, ◌∙◌, ◌⊎◌, inl, inr, ℕ, List, [], Option, None, Some, true, false, refl, ap, sym, subst, arith}
use Rattle.std.specs.Prelude.{IsSome, if◌then◌else◌, option_map}
use Rattle.std.specs.Io.KnownBytes.{Appends}
use Rattle.std.proofs.lemmas.Bool.{false≢true}
use Rattle.link_door.specs.declared.door.Door.{Ghosts as DoorGhosts}
use Rattle.link_door.specs.declared.link.Link.{Ghosts as LinkGhosts}
use Rattle.link_door.specs.declared.world.World.{Ghosts as WorldGhosts}
use Rattle.rtb_disk.specs.declared.disk.Disk.{Ghosts as DiskGhosts}
use Rattle.rtb_io.specs.Fronts.{AppendsFront}
use Rattle.rtb_io.specs.Statuses.{code_of}
use Rattle.rtb_io.specs.declared.status.Status.{Status}
use Rattle.rtb_io.specs.declared.status.Status.TheVariants as status
use Rattle.run_commands.specs.Audit as audit
use Rattle.run_commands.specs.Endings.{EndsBy, cut_off, line_of, whole}
use Rattle.run_commands.specs.Serve as serve
use Rattle.run_words.specs.CommandLines.{command_line}
use Rattle.run_words.specs.declared.commands.CommandLine.{CommandLine}
use Rattle.run_words.specs.declared.commands.CommandLine.TheVariants as line
use Rattle.run_words.specs.declared.fault.WordsFault.{WordsFault}
use Rattle.run_words.specs.declared.fault.WordsFault.TheVariants as fault
use Rattle.exchange_run.specs.Answer as answer
use Rattle.exchange_run.specs.Lines.{IsOfAsked, IsOfLine, IsOfWords}
use Rattle.exchange_run.specs.Plan.{short_of_memory}
use Rattle.exchange_run.specs.Run.{Asked, Back, IsApart, IsQuestion, IsShown, IsUnnamed, Tries, names_try, other, sale, words_of}
use Rattle.exchange_run.specs.Words.{Campaign, command_of}
use Rattle.exchange_run.proofs.Asking.{no_line_of_try}

-- ---- `try`

nothing_sold : (o : Option (List Campaign)) → option_map sale o ≡ None → o ≡ None
nothing_sold None e = refl
nothing_sold (Some campaigns) e = absurd (cc e)

-- words that name `try` and are of no command have no campaigns
no_campaigns : (words : List (List ℕ)) → names_try words ≡ true → words_of words ≡ None → command_of words ≡ None
no_campaigns words is_try none = nothing_sold (command_of words) (sym (ap (λ b. if b then option_map sale (command_of words) else option_map other (command_line words)) is_try) ∙ none)

none_some : (o : Option (List Campaign)) → IsSome o → o ≡ None → ⊥
none_some None h e = cc h
none_some (Some campaigns) h e = cc e

-- what is written then
usage_text : (words : List (List ℕ)) (left left' : Option (List ℕ)) (f f' : ℕ) (end : Status) (text : List ℕ) → answer.IsOutcome words left left' f f' end text → command_of words ≡ None → text ≡ line_of status.Usage
usage_text words left left' f f' end text (answer.unnamed asks_none same is told) none = told ∙ ap line_of is
usage_text words left left' f f' end text (answer.replied bytes came same replies) none = absurd (cc (none, replies.are_named))
usage_text words left left' f f' end text (answer.unread some rose is told) none = absurd (none_some (command_of words) some none)
usage_text words left left' f f' end text (answer.starved some same is told) none = absurd (none_some (command_of words) some none)

usage_ends : (words : List (List ℕ)) (left left' : Option (List ℕ)) (f f' : ℕ) (written written' : Option (List ℕ)) (code : ℕ) → Tries words left left' f f' written written' code → command_of words ≡ None
    → (code ≡ code_of status.Usage) ⊎ (code ≡ code_of status.NotWritten) → EndsBy status.Usage written written' code
usage_ends words left left' f f' written written' code tries none (inl two) =
    let told = tries.told (λ seven. omega (arith, two, seven)) in
    whole two (subst (Appends written written') (usage_text words left left' f f' told.end told.text told.outcome none) told.went)
usage_ends words left left' f f' written written' code tries none (inr seven) =
    let told = tries.half_told seven in
    cut_off seven (subst (AppendsFront written written') (usage_text words left left' f f' told.end told.text told.outcome none) told.went)

-- ---- any command

-- words that do not name `try` ask for no sale
no_sale : (words : List (List ℕ)) (campaigns : List Campaign) → names_try words ≡ false → words_of words ≡ Some (sale campaigns) → ⊥
no_sale words campaigns no_try is = by (command_line words) (sym (ap (λ b. if b then option_map sale (command_of words) else option_map other (command_line words)) no_try) ∙ is)
  where
    by : (o : Option CommandLine) → option_map other o ≡ Some (sale campaigns) → ⊥
    by None e = cc e
    by (Some l) e = cc e

module _ {World Disk Door Link : Type 0} (W : WorldGhosts World Door Disk Link) (G : DiskGhosts Disk) (H : DoorGhosts Door Link) (K : LinkGhosts Link) (w w' : World) (left left' : Option (List ℕ)) (f f' : ℕ)
    (written written' : Option (List ℕ)) (code : ℕ) (back : Back Door Disk) where
  abbrev OfLine : CommandLine → Type 0
  OfLine l = IsOfLine W G H K w w' left left' f f' written written' code back l

  abbrev OfAsked : Option Asked → Type 0
  OfAsked o = IsOfAsked W G H K w w' left left' f f' written written' code back o

  -- memory was short for the words
  starved_line : (l : CommandLine) → IsApart w w' back → left' ≡ left → f' ≡ f → EndsBy status.Memory written written' code → OfLine l
  starved_line (line.Serve options) apart same count ends =
      let n = apart.none in
      record {
        one_disk = ap (λ (b : Back Door Disk). b.other) n;
        no_last = ap (λ (b : Back Door Disk). b.last) n;
        serves = serve.starved apart.world (ap (λ (b : Back Door Disk). b.doors) n) (ap (λ (b : Back Door Disk). b.disk) n) (ap (λ (b : Back Door Disk). b.past) n) ends;
      }
  starved_line (line.Recover options) apart same count ends = inr (record { apart = apart; ends = ends })
  starved_line (line.Compact options) apart same count ends = inr (record { apart = apart; ends = ends })
  starved_line (line.Follow options) apart same count ends = inr (record { apart = apart; ends = ends })
  starved_line line.Which apart same count ends = record {
    apart = apart;
    plans = record { end = status.Memory; text = line_of status.Memory; plan = short_of_memory count refl refl; went = ends };
  }
  starved_line (line.Audit options) apart same count ends =
      let n = apart.none in
      record {
        no_doors = ap (λ (b : Back Door Disk). b.doors) n;
        one_disk = ap (λ (b : Back Door Disk). b.other) n;
        no_last = ap (λ (b : Back Door Disk). b.last) n;
        no_past = ap (λ (b : Back Door Disk). b.past) n;
        audits = audit.starved apart.world same count (ap (λ (b : Back Door Disk). b.disk) n) ends;
      }
  starved_line (line.Make options) apart same count ends = record { apart = apart; makes = inr ends }
  starved_line (line.Help topic) apart same count ends = record { apart = apart; shown = inr ends }
  starved_line line.Version apart same count ends = record { apart = apart; shown = inr ends }

  starved_asked : (o : Option Asked) → ((campaigns : List Campaign) → o ≡ Some (sale campaigns) → ⊥) → IsApart w w' back → left' ≡ left → f' ≡ f → EndsBy status.Memory written written' code → OfAsked o
  starved_asked None no_sales apart same count ends = record { apart = apart; ends = inr ends }
  starved_asked (Some (sale campaigns)) no_sales apart same count ends = no_sales campaigns refl
  starved_asked (Some (other l)) no_sales apart same count ends = starved_line l apart same count ends

  -- words that are of no command, or that memory was wanting for
  pub refused : (words : List (List ℕ)) (g : WordsFault) (s : Status) → names_try words ≡ false → (g ≡ fault.Usage → command_line words ≡ None) → (g ≡ fault.Usage → s ≡ status.Usage) → (g ≡ fault.Memory → s ≡ status.Memory)
      → IsApart w w' back → left' ≡ left → f' ≡ f → EndsBy s written written' code → OfAsked (words_of words)
  refused words fault.Usage s no_try none usage memory apart same count ends =
      let of_none : words_of words ≡ None = ap (λ b. if b then option_map sale (command_of words) else option_map other (command_line words)) no_try ∙ ap (option_map other) (none refl) in
      let its : IsUnnamed w w' written written' code back = record { apart = apart; ends = inl (subst (λ (x : Status). EndsBy x written written' code) (usage refl) ends) } in
      subst (λ (o : Option Asked). OfAsked o) (sym of_none) its
  refused words fault.Memory s no_try none usage memory apart same count ends =
      starved_asked (words_of words) (λ campaigns is. no_sale words campaigns no_try is) apart same count (subst (λ (x : Status). EndsBy x written written' code) (memory refl) ends)

  -- a text was shown
  shown_line : (asked : CommandLine) → IsQuestion asked → OfLine asked → IsShown w w' written written' code back
  shown_line (line.Serve options) q of_line = absurd q
  shown_line (line.Recover options) q of_line = absurd q
  shown_line (line.Compact options) q of_line = absurd q
  shown_line (line.Follow options) q of_line = absurd q
  shown_line line.Which q of_line = absurd q
  shown_line (line.Audit options) q of_line = absurd q
  shown_line (line.Make options) q of_line = absurd q
  shown_line (line.Help topic) q of_line = of_line
  shown_line line.Version q of_line = of_line

  -- so there is a clause for each command
  pub of_asked : (words : List (List ℕ)) → names_try words ≡ false → OfAsked (words_of words) → IsOfWords W G H K w w' left left' f f' written written' code back words
  of_asked words no_try its = record {
    tries = λ is_try. absurd (false≢true (sym no_try ∙ is_try));
    serves = λ options is. subst (λ (o : Option Asked). OfAsked o) is its;
    recovers = λ options is. subst (λ (o : Option Asked). OfAsked o) is its;
    compacts = λ options is. subst (λ (o : Option Asked). OfAsked o) is its;
    follows = λ options is. subst (λ (o : Option Asked). OfAsked o) is its;
    plans = λ is. subst (λ (o : Option Asked). OfAsked o) is its;
    audits = λ options is. subst (λ (o : Option Asked). OfAsked o) is its;
    makes = λ options is. subst (λ (o : Option Asked). OfAsked o) is its;
    shows = λ asked question is. shown_line asked question (subst (λ (o : Option Asked). OfAsked o) is its);
    unnamed = λ none. subst (λ (o : Option Asked). OfAsked o) none its;
  }

  pub of_try : (words : List (List ℕ)) → names_try words ≡ true → IsApart w w' back → Tries words left left' f f' written written' code → (command_of words ≡ None → (code ≡ code_of status.Usage) ⊎ (code ≡ code_of status.NotWritten))
      → IsOfWords W G H K w w' left left' f f' written written' code back words
  of_try words is_try apart its usage = record {
    tries = λ _. record { apart = apart; tries = its };
    serves = λ options is. no_line_of_try words (line.Serve options) is_try is;
    recovers = λ options is. no_line_of_try words (line.Recover options) is_try is;
    compacts = λ options is. no_line_of_try words (line.Compact options) is_try is;
    follows = λ options is. no_line_of_try words (line.Follow options) is_try is;
    plans = λ is. no_line_of_try words line.Which is_try is;
    audits = λ options is. no_line_of_try words (line.Audit options) is_try is;
    makes = λ options is. no_line_of_try words (line.Make options) is_try is;
    shows = λ asked question is. no_line_of_try words asked is_try is;
    unnamed = λ none. record {
      apart = apart;
      ends = inl (usage_ends words left left' f f' written written' code its (no_campaigns words is_try none) (usage (no_campaigns words is_try none)));
    };
  }
