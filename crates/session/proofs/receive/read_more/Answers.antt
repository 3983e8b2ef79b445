use Rattle.std.proofs.Common.{rules, ◌≡◌, ℕ, ◌∙◌, sym, ap, List, ◌++◌, append_assoc}
use Rattle.std.specs.Prelude.{Option, Some, None}
use Rattle.std.specs.Io.KnownBytes.{Consumes, Keeps}
use Rattle.session.specs.Receives.{Grows}
use Rattle.session.proofs.receive.read_more.Goals as goal

-- What came first, and then more.
both_came : (left middle now : Option (List ℕ)) (first more : List ℕ) → Consumes left middle first → Consumes middle now more → Consumes left now (first ++ more)
both_came None middle now first more one two = tt
both_came (Some xs) None now first more one two = absurd one
both_came (Some xs) (Some ys) None first more one two = absurd two
both_came (Some xs) (Some ys) (Some zs) first more one two = one ∙ ap (λ l. first ++ l) two ∙ sym (append_assoc first more zs)

none_came : (left middle now : Option (List ℕ)) (first : List ℕ) → Consumes left middle first → Keeps middle now → Consumes left now first
none_came None middle now first one two = tt
none_came (Some xs) None now first one two = absurd one
none_came (Some xs) (Some ys) None first one two = absurd two
none_came (Some xs) (Some ys) (Some zs) first one two = one ∙ ap (λ l. first ++ l) (sym two)

grown : (left middle now : Option (List ℕ)) (held some all more : List ℕ) → Grows left middle held some → Consumes middle now more → all ≡ some ++ more → Grows left now held all
grown left middle now held some all more g came e = record {
  came = g.came ++ more;
  received = both_came left middle now g.came more g.received came;
  now_is = e ∙ ap (λ l. l ++ more) g.now_is ∙ append_assoc held g.came more;
}

same : (left middle now : Option (List ℕ)) (held some all : List ℕ) → Grows left middle held some → Keeps middle now → all ≡ some → Grows left now held all
same left middle now held some all g kept e = record {
  came = g.came;
  received = none_came left middle now g.came g.received kept;
  now_is = e ∙ g.now_is;
}

pub loop-input-preserved : goal.loop-input-preserved
loop-input-preserved g c = record {
  grows = grown _ _ _ _ _ _ c.in-Ok.ensures.ok.0 c.loop-input.invariant.grows c.in-Ok.ensures.ok.3 c.in-Ok.ensures.ok.2;
  sent = c.in-Ok.ensures.sent ∙ c.loop-input.invariant.sent;
  faults = c.in-Ok.ensures.cause ∙ c.loop-input.invariant.faults;
}

pub returns-in-Ok-eq0-clause-grows : goal.returns-in-Ok-eq0-clause-grows
returns-in-Ok-eq0-clause-grows g c =
    grown _ _ _ _ _ _ c.in-Ok-eq0.ensures.ok.0 c.loop-input.invariant.grows c.in-Ok-eq0.ensures.ok.3 c.in-Ok-eq0.ensures.ok.2

pub returns-in-Err-clause-grows : goal.returns-in-Err-clause-grows
returns-in-Err-clause-grows g c = same _ _ _ _ _ _ c.loop-input.invariant.grows c.in-Err.ensures.err.1 c.in-Err.ensures.err.0

pub returns-in-Err-clause-more : goal.returns-in-Err-clause-more
returns-in-Err-clause-more g c = search rules

pub returns-in-Err-clause-cause : goal.returns-in-Err-clause-cause
returns-in-Err-clause-cause g c = search rules
