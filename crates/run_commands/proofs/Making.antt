-- How `make` ends.
use Rattle.std.proofs.Common.{◌≡◌, ℕ, [], Bool, List, Option, ap, false, inl, inr, refl, subst, true}
use Rattle.std.specs.Prelude.{if◌then◌else◌}
use Rattle.made_run.specs.Runs.{IsCounted, IsMade, counts_line}
use Rattle.made_run.specs.declared.run.Made.{Made}
use Rattle.rtb_io.specs.declared.status.Status.TheVariants as status
use Rattle.run_commands.specs.Audit.{EndsNumbered}
use Rattle.run_commands.specs.Endings.{Ends}
use Rattle.run_commands.specs.Make.{RunsMake, text_of}
use Rattle.run_words.specs.declared.make.MakeOptions.{MakeOptions}

-- the line of the counts says nothing of the trace
same_text : (b : Bool) (n : ℕ) (made whole : Made) → b ≡ false → made ≡ record whole { trace = [] } → (if b then made.trace else counts_line n made) ≡ (if b then whole.trace else counts_line n whole)
same_text true n made whole is same = absurd (cc is)
same_text false n made whole is same = ap (counts_line n) same

pub made_ends : (options : MakeOptions) (made : Made) (w w' : Option (List ℕ)) (code : ℕ) → (options.trace ≡ true → IsMade options.start options.requests made)
    → (options.trace ≡ false → IsCounted options.start options.requests made) → EndsNumbered status.Done (text_of options made) w w' code → RunsMake options w w' code
made_ends options made w w' code traced counted (inr short) = inr short
made_ends options made w w' code traced counted (inl ends) = by_trace options.trace refl
  where
    by_trace : (b : Bool) → options.trace ≡ b → RunsMake options w w' code
    by_trace true is = inl (made, traced is, ends)
    by_trace false is =
        let (whole, run, same) = counted is in
        inl (whole, run, subst (λ (t : List ℕ). Ends status.Done t w w' code) (same_text options.trace options.requests made whole is same) ends)
