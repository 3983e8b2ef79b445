-- The command `make`.
use Rattle.std.specs.Prelude.{◌⊎◌, ℕ, List, Option, if◌then◌else◌}
use Rattle.made_run.specs.Runs.{IsMade, counts_line}
use Rattle.made_run.specs.declared.run.Made.{Made}
use Rattle.rtb_io.specs.declared.status.Status.TheVariants as status
use Rattle.run_commands.specs.Endings.{Ends, EndsBy}
use Rattle.run_words.specs.declared.make.MakeOptions.{MakeOptions}

-- the trace of the run, and nothing else, where it is wanted, and else the line of its counts
abbrev pub text_of : MakeOptions → Made → List ℕ
text_of options made = if options.trace then made.trace else counts_line options.requests made

-- What the command comes to: the run was made, and its text is written; or memory was wanting for it.
abbrev pub RunsMake : MakeOptions → Option (List ℕ) → Option (List ℕ) → ℕ → Type 0
RunsMake options written written' code =
    ((made : Made) × IsMade options.start options.requests made × Ends status.Done (text_of options made) written written' code)
    ⊎ EndsBy status.Memory written written' code
