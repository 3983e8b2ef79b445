use Rattle.std.proofs.Common.{◌≡◌, ℕ, ◌≤◌, ◌-◌, Bool, true, false, List, [], ◌∷◌, length, get_or, take, drop, sym, ap, subst, ◌∙◌, arith}
use Rattle.std.specs.Prelude.{MatchResult, Option, Some, None, codes}
use Rattle.std.specs.Str.{bytes_eq}
use Rattle.std.proofs.lemmas.Bool.{cond-true, cond-false}
use Rattle.std.proofs.lemmas.List.{take_all}
use Rattle.run_words.specs.CommandLines.{command_line, compact_line, further_line, recover_line, serve_line}
use Rattle.run_words.specs.declared.commands.CommandLine.{CommandLine}
use Rattle.run_words.specs.declared.fault.WordsFault.TheVariants.{Usage}
use Rattle.run_words.proofs.commands.command_line.Goals as goal

-- Words that have a first one.
begun : (words : List (List ℕ)) (name : List ℕ) → 1 ≤ length words → name ≡ get_or words 0 name → words ≡ name ∷ take (length words - 1) (drop 1 words)
begun [] name some e = absurd (omega arith)
begun (word ∷ words) name some e =
    ap (λ w. w ∷ words) (sym e) ∙ ap (λ ws. name ∷ ws) (sym (take_all (length (word ∷ words) - 1) words (omega arith)))

-- What a test of the first word's bytes says of the word.
tested : (b : Bool) (bytes text name word : List ℕ) → b ≡ bytes_eq bytes text → bytes ≡ name → text ≡ word → bytes_eq name word ≡ b
tested b bytes text name word e p q = ap (λ x. bytes_eq x word) (sym p) ∙ ap (λ x. bytes_eq bytes x) (sym q) ∙ sym e

pub returns-then-eq : goal.returns-then-eq
returns-then-eq c =
    let words = c.args.words.now in
    let rest = take (length words - 1) (drop 1 words) in
    let e = begun words c.name-item.result c.in-len1-up.len_at_least c.name-item.is in
    let is_serve = tested true _ _ c.name-item.result (codes "serve") c.if-eq.ensures c.as_bytes.ensures.value c.as_slice.ensures in
    let line = ap command_line e ∙ cond-true _ _ _ is_serve ∙ ap (λ ws. serve_line ws rest) (sym e) in
    subst (λ (x : Option CommandLine). MatchResult c.serve_line.result (λ l. x ≡ Some l) (λ f. f ≡ Usage → x ≡ None)) (sym line) c.serve_line.ensures

pub returns-then-eq-2 : goal.returns-then-eq-2
returns-then-eq-2 c =
    let words = c.args.words.now in
    let rest = take (length words - 1) (drop 1 words) in
    let e = begun words c.name-item.result c.in-len1-up.len_at_least c.name-item.is in
    let is_serve = tested false _ _ c.name-item.result (codes "serve") c.if-eq.ensures c.as_bytes.ensures.value c.as_slice.ensures in
    let is_recover = tested true _ _ c.name-item.result (codes "recover") c.if-eq-2.ensures c.as_bytes-in-len1-up.ensures.value c.as_slice-in-len1-up.ensures in
    let line = ap command_line e ∙ cond-false _ _ _ is_serve ∙ cond-true _ _ _ is_recover ∙ ap (λ ws. recover_line ws rest) (sym e) in
    subst (λ (x : Option CommandLine). MatchResult c.recover_line.result (λ l. x ≡ Some l) (λ f. f ≡ Usage → x ≡ None)) (sym line) c.recover_line.ensures

pub returns-then-eq-3 : goal.returns-then-eq-3
returns-then-eq-3 c =
    let words = c.args.words.now in
    let rest = take (length words - 1) (drop 1 words) in
    let e = begun words c.name-item.result c.in-len1-up.len_at_least c.name-item.is in
    let is_serve = tested false _ _ c.name-item.result (codes "serve") c.if-eq.ensures c.as_bytes.ensures.value c.as_slice.ensures in
    let is_recover = tested false _ _ c.name-item.result (codes "recover") c.if-eq-2.ensures c.as_bytes-in-len1-up.ensures.value c.as_slice-in-len1-up.ensures in
    let is_compact = tested true _ _ c.name-item.result (codes "compact") c.if-eq-3.ensures c.as_bytes-in-len1-up-2.ensures.value c.as_slice-in-len1-up-2.ensures in
    let line = ap command_line e ∙ cond-false _ _ _ is_serve ∙ cond-false _ _ _ is_recover ∙ cond-true _ _ _ is_compact ∙ ap (λ ws. compact_line ws rest) (sym e) in
    subst (λ (x : Option CommandLine). MatchResult c.compact_line.result (λ l. x ≡ Some l) (λ f. f ≡ Usage → x ≡ None)) (sym line) c.compact_line.ensures

pub returns-then-eq-4 : goal.returns-then-eq-4
returns-then-eq-4 c =
    let e = begun c.args.words.now c.name-item.result c.in-len1-up.len_at_least c.name-item.is in
    let is_serve = tested false _ _ c.name-item.result (codes "serve") c.if-eq.ensures c.as_bytes.ensures.value c.as_slice.ensures in
    let is_recover = tested false _ _ c.name-item.result (codes "recover") c.if-eq-2.ensures c.as_bytes-in-len1-up.ensures.value c.as_slice-in-len1-up.ensures in
    let is_compact = tested false _ _ c.name-item.result (codes "compact") c.if-eq-3.ensures c.as_bytes-in-len1-up-2.ensures.value c.as_slice-in-len1-up-2.ensures in
    let is_try = tested true _ _ c.name-item.result (codes "try") c.if-eq-4.ensures c.as_bytes-in-len1-up-3.ensures.value c.as_slice-in-len1-up-3.ensures in
    let line = ap command_line e ∙ cond-false _ _ _ is_serve ∙ cond-false _ _ _ is_recover ∙ cond-false _ _ _ is_compact ∙ cond-true _ _ _ is_try in
    subst (λ (x : Option CommandLine). MatchResult c.question.result (λ l. x ≡ Some l) (λ f. f ≡ Usage → x ≡ None)) (sym line) c.question.ensures

pub returns-else-eq-4 : goal.returns-else-eq-4
returns-else-eq-4 c =
    let words = c.args.words.now in
    let rest = take (length words - 1) (drop 1 words) in
    let e = begun words c.name-item.result c.in-len1-up.len_at_least c.name-item.is in
    let is_serve = tested false _ _ c.name-item.result (codes "serve") c.if-eq.ensures c.as_bytes.ensures.value c.as_slice.ensures in
    let is_recover = tested false _ _ c.name-item.result (codes "recover") c.if-eq-2.ensures c.as_bytes-in-len1-up.ensures.value c.as_slice-in-len1-up.ensures in
    let is_compact = tested false _ _ c.name-item.result (codes "compact") c.if-eq-3.ensures c.as_bytes-in-len1-up-2.ensures.value c.as_slice-in-len1-up-2.ensures in
    let is_try = tested false _ _ c.name-item.result (codes "try") c.if-eq-4.ensures c.as_bytes-in-len1-up-3.ensures.value c.as_slice-in-len1-up-3.ensures in
    let line = ap command_line e ∙ cond-false _ _ _ is_serve ∙ cond-false _ _ _ is_recover ∙ cond-false _ _ _ is_compact ∙ cond-false _ _ _ is_try ∙ ap (λ ws. further_line ws c.name-item.result rest) (sym e) in
    subst (λ (x : Option CommandLine). MatchResult c.further_line.result (λ l. x ≡ Some l) (λ f. f ≡ Usage → x ≡ None)) (sym line) c.further_line.ensures
