use Rattle.std.proofs.Common.{◌∙◌, ◌++◌, List, ℕ, ap}
use Rattle.std.specs.Prelude.{codes, decimal}
use Rattle.rtb_response.specs.Replies.{answer}
use Rattle.follower.proofs.answers.damaged_answer.Goals as goal

pub returns : goal.returns
returns c =
    let none = ap (λ (l : List ℕ). l ++ codes "{\"error\":\"damaged\",\"at\":" ++ decimal c.args.at ++ codes "}") c.requires.empty in
    ap (answer 500) (c.from_vec.ensures ∙ c.put_damaged.ensures ∙ none)
