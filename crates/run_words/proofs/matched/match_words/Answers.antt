use Rattle.std.proofs.Common.{ℕ, Bor, List, map}
use Rattle.clap.specs.Words.{app_of}
use Rattle.run_words.proofs.Given.{gives, gives_none, is_simple_app}
use Rattle.run_words.proofs.matched.match_words.Goals as goal

abbrev texts : List (Bor (List ℕ)) → List (List ℕ)
texts words = map (λ (s : Bor (List ℕ)). s.now) words

pub returns-in-Ok : goal.returns-in-Ok
returns-in-Ok c = gives (app_of c.args.command) (texts c.args.words.now) _ (c.in-Ok.ensures.kinds c.requires.simple) (c.in-Ok.ensures.matches (is_simple_app (app_of c.args.command) c.requires.simple)).0

pub returns-in-Err : goal.returns-in-Err
returns-in-Err c = λ e. gives_none (app_of c.args.command) (texts c.args.words.now) c.in-Err.error (c.in-Err.ensures.kinds c.requires.simple) (c.fault.ensures e)
