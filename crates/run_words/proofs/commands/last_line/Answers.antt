use Rattle.std.proofs.Common.{◌≡◌, ℕ, Bool, true, false, List, sym, ap, subst, ◌∙◌}
use Rattle.std.specs.Prelude.{MatchResult, Option, Some, None, codes}
use Rattle.std.specs.Str.{bytes_eq}
use Rattle.std.proofs.lemmas.Bool.{cond-true, cond-false}
use Rattle.run_words.specs.declared.commands.CommandLine.{CommandLine}
use Rattle.run_words.specs.declared.fault.WordsFault.TheVariants.{Usage}
use Rattle.run_words.proofs.commands.last_line.Goals as goal

-- What a test of the word's bytes says of the word.
tested : (b : Bool) (bytes text name word : List ℕ) → b ≡ bytes_eq bytes text → bytes ≡ name → text ≡ word → bytes_eq name word ≡ b
tested b bytes text name word e p q = ap (λ x. bytes_eq x word) (sym p) ∙ ap (λ x. bytes_eq bytes x) (sym q) ∙ sym e

pub returns-then-eq : goal.returns-then-eq
returns-then-eq c =
    let is_which = tested true _ _ c.args.name.now (codes "which") c.if-eq.ensures c.as_bytes.ensures.value c.as_slice.ensures in
    subst (λ (x : Option CommandLine). MatchResult c.which_line.result (λ l. x ≡ Some l) (λ f. f ≡ Usage → x ≡ None)) (sym (cond-true _ _ _ is_which)) c.which_line.ensures

pub returns-then-eq-2 : goal.returns-then-eq-2
returns-then-eq-2 c =
    let is_which = tested false _ _ c.args.name.now (codes "which") c.if-eq.ensures c.as_bytes.ensures.value c.as_slice.ensures in
    let is_audit = tested true _ _ c.args.name.now (codes "audit") c.if-eq-2.ensures c.as_bytes-2.ensures.value c.as_slice-2.ensures in
    let line = cond-false _ _ _ is_which ∙ cond-true _ _ _ is_audit in
    subst (λ (x : Option CommandLine). MatchResult c.audit_line.result (λ l. x ≡ Some l) (λ f. f ≡ Usage → x ≡ None)) (sym line) c.audit_line.ensures

pub returns-then-eq-3 : goal.returns-then-eq-3
returns-then-eq-3 c =
    let is_which = tested false _ _ c.args.name.now (codes "which") c.if-eq.ensures c.as_bytes.ensures.value c.as_slice.ensures in
    let is_audit = tested false _ _ c.args.name.now (codes "audit") c.if-eq-2.ensures c.as_bytes-2.ensures.value c.as_slice-2.ensures in
    let is_make = tested true _ _ c.args.name.now (codes "make") c.if-eq-3.ensures c.as_bytes-3.ensures.value c.as_slice-3.ensures in
    let line = cond-false _ _ _ is_which ∙ cond-false _ _ _ is_audit ∙ cond-true _ _ _ is_make in
    subst (λ (x : Option CommandLine). MatchResult c.make_line.result (λ l. x ≡ Some l) (λ f. f ≡ Usage → x ≡ None)) (sym line) c.make_line.ensures

pub returns : goal.returns
returns c =
    let is_which = tested false _ _ c.args.name.now (codes "which") c.if-eq.ensures c.as_bytes.ensures.value c.as_slice.ensures in
    let is_audit = tested false _ _ c.args.name.now (codes "audit") c.if-eq-2.ensures c.as_bytes-2.ensures.value c.as_slice-2.ensures in
    let is_make = tested false _ _ c.args.name.now (codes "make") c.if-eq-3.ensures c.as_bytes-3.ensures.value c.as_slice-3.ensures in
    let line = cond-false _ _ _ is_which ∙ cond-false _ _ _ is_audit ∙ cond-false _ _ _ is_make in
    subst (λ (x : Option CommandLine). MatchResult c.question.result (λ l. x ≡ Some l) (λ f. f ≡ Usage → x ≡ None)) (sym line) c.question.ensures
