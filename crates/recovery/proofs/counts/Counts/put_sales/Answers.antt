use Rattle.std.proofs.Common.{◌≡◌, ℕ, List, ◌++◌, ◌∙◌, ap, append_assoc}
use Rattle.recovery.proofs.counts.Counts.put_sales.Goals as goal

-- What was appended, and then more.
further : (old text middle more new : List ℕ) → middle ≡ old ++ text → new ≡ middle ++ more → new ≡ old ++ (text ++ more)
further old text middle more new p q = q ∙ ap (λ l. l ++ more) p ∙ append_assoc old text more

behind : (old middle new : List ℕ) → ((text : List ℕ) × (middle ≡ old ++ text)) → ((more : List ℕ) × (new ≡ middle ++ more)) → (more : List ℕ) × (new ≡ old ++ more)
behind old middle new p q = (p.0 ++ q.0, further old p.0 middle q.0 new p.1 q.1)

pub returns-in_err-put_count-clause-front : goal.returns-in_err-put_count-clause-front
returns-in_err-put_count-clause-front c = c.in_err-put_count.ensures.front

pub returns-in_err-put_count-2-clause-front : goal.returns-in_err-put_count-2-clause-front
returns-in_err-put_count-2-clause-front c = behind _ _ _ c.in_ok-put_count.ensures.front c.in_err-put_count-2.ensures.front

pub returns-in_err-put_count-3-clause-front : goal.returns-in_err-put_count-3-clause-front
returns-in_err-put_count-3-clause-front c =
    behind _ _ _ (behind _ _ _ c.in_ok-put_count.ensures.front c.in_ok-put_count-2.ensures.front) c.in_err-put_count-3.ensures.front

pub returns-in_err-put_count-4-clause-front : goal.returns-in_err-put_count-4-clause-front
returns-in_err-put_count-4-clause-front c =
    let two = behind _ _ _ c.in_ok-put_count.ensures.front c.in_ok-put_count-2.ensures.front in
    behind _ _ _ (behind _ _ _ two c.in_ok-put_count-3.ensures.front) c.in_err-put_count-4.ensures.front

pub returns-in_err-put_count-5-clause-front : goal.returns-in_err-put_count-5-clause-front
returns-in_err-put_count-5-clause-front c =
    let two = behind _ _ _ c.in_ok-put_count.ensures.front c.in_ok-put_count-2.ensures.front in
    let four = behind _ _ _ (behind _ _ _ two c.in_ok-put_count-3.ensures.front) c.in_ok-put_count-4.ensures.front in
    behind _ _ _ four c.in_err-put_count-5.ensures.front

pub returns-clause-front : goal.returns-clause-front
returns-clause-front c =
    let two = behind _ _ _ c.in_ok-put_count.ensures.front c.in_ok-put_count-2.ensures.front in
    let four = behind _ _ _ (behind _ _ _ two c.in_ok-put_count-3.ensures.front) c.in_ok-put_count-4.ensures.front in
    behind _ _ _ four c.in_ok-put_count-5.ensures.front

pub returns-clause-ok : goal.returns-clause-ok
returns-clause-ok c =
    let two = further c.args.out.now _ _ _ _ c.in_ok-put_count.ensures.ok c.in_ok-put_count-2.ensures.ok in
    let four = further c.args.out.now _ _ _ _ (further c.args.out.now _ _ _ _ two c.in_ok-put_count-3.ensures.ok) c.in_ok-put_count-4.ensures.ok in
    further c.args.out.now _ _ _ _ four c.in_ok-put_count-5.ensures.ok
