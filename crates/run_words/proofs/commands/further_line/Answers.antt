use Rattle.std.proofs.Common.{◌≡◌, ℕ, Bool, true, false, List, sym, ap, subst, ◌∙◌}
use Rattle.std.specs.Prelude.{MatchResult, Option, Some, None, codes}
use Rattle.std.specs.Str.{bytes_eq}
use Rattle.std.proofs.lemmas.Bool.{cond-true, cond-false}
use Rattle.run_words.specs.declared.commands.CommandLine.{CommandLine}
use Rattle.run_words.specs.declared.fault.WordsFault.TheVariants.{Usage}
use Rattle.run_words.proofs.commands.further_line.Goals as goal

-- What a test of the word's bytes says of the word.
tested : (b : Bool) (bytes text name word : List ℕ) → b ≡ bytes_eq bytes text → bytes ≡ name → text ≡ word → bytes_eq name word ≡ b
tested b bytes text name word e p q = ap (λ x. bytes_eq x word) (sym p) ∙ ap (λ x. bytes_eq bytes x) (sym q) ∙ sym e

pub returns-then-eq : goal.returns-then-eq
returns-then-eq c =
    let is_follow = tested true _ _ c.args.name.now (codes "follow") c.if-eq.ensures c.as_bytes.ensures.value c.as_slice.ensures in
    subst (λ (x : Option CommandLine). MatchResult c.follow_line.result (λ l. x ≡ Some l) (λ f. f ≡ Usage → x ≡ None)) (sym (cond-true _ _ _ is_follow)) c.follow_line.ensures

pub returns : goal.returns
returns c =
    let is_follow = tested false _ _ c.args.name.now (codes "follow") c.if-eq.ensures c.as_bytes.ensures.value c.as_slice.ensures in
    subst (λ (x : Option CommandLine). MatchResult c.last_line.result (λ l. x ≡ Some l) (λ f. f ≡ Usage → x ≡ None)) (sym (cond-false _ _ _ is_follow)) c.last_line.ensures
