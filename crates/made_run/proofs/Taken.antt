-- A message that was taken is the next one.
use Rattle.std.proofs.Common.{◌≡◌, ℕ, ◌+◌, List, [], ◌∷◌, ◌++◌, sym, ap, subst, ◌∙◌, append_assoc, append-nil}
use Rattle.http_wire.specs.declared.message.Message.{Message}
use Rattle.loadgen.specs.Draws.{behind_campaign, behind_request}
use Rattle.made_run.specs.Runs.{behind_campaigns, campaign_post, campaigns_from, posted, request_post, requests_from}
use Rattle.made_run.specs.Standing.{IsSoFar}
use Rattle.made_run.specs.declared.gathering.Gathering.{Gathering}
use Rattle.made_run.proofs.Posts.{behind_requests, campaigns_on, drawn_on, no_campaigns, request_at, requests_on, sought_on}

pub campaign_taken : (x k drawn : ℕ) (m : Message) (g : Gathering) → drawn ≡ behind_campaigns x k → m ≡ campaign_post drawn → IsSoFar (campaigns_from x k ++ (0, m) ∷ []) g → IsSoFar (campaigns_from x (k + 1)) g
campaign_taken x k drawn m g at is far =
    let next : m ≡ campaign_post (behind_campaigns x k) = is ∙ ap campaign_post at in
    subst (λ (l : List (ℕ × Message)). IsSoFar l g) (sym (campaigns_on x k)) (subst (λ (n : Message). IsSoFar (campaigns_from x k ++ (0, n) ∷ []) g) next far)

pub campaign_drawn : (x k drawn new : ℕ) → drawn ≡ behind_campaigns x k → new ≡ behind_campaign drawn → new ≡ behind_campaigns x (k + 1)
campaign_drawn x k drawn new at is = is ∙ ap behind_campaign at ∙ sym (drawn_on x k)

pub request_taken : (x k drawn : ℕ) (m : Message) (g : Gathering) (posts : List (ℕ × Message)) → drawn ≡ behind_requests x k → m ≡ request_post (k + 1) drawn → IsSoFar ((posts ++ requests_from x 1 k) ++ (k + 1, m) ∷ []) g
    → IsSoFar (posts ++ requests_from x 1 (k + 1)) g
request_taken x k drawn m g posts at is far =
    let next : m ≡ request_post (k + 1) (behind_requests x k) = is ∙ ap (request_post (k + 1)) at in
    let one = subst (λ (n : Message). IsSoFar ((posts ++ requests_from x 1 k) ++ (k + 1, n) ∷ []) g) next far in
    let all = append_assoc posts (requests_from x 1 k) (request_at (k + 1) (behind_requests x k) ∷ []) ∙ ap (λ (l : List (ℕ × Message)). posts ++ l) (sym (requests_on x k)) in
    subst (λ (l : List (ℕ × Message)). IsSoFar l g) all one

pub request_drawn : (x k drawn new : ℕ) → drawn ≡ behind_requests x k → new ≡ behind_request drawn → new ≡ behind_requests x (k + 1)
request_drawn x k drawn new at is = is ∙ ap behind_request at ∙ sym (sought_on x k)

pub none_requested : (x : ℕ) (g : Gathering) (posts : List (ℕ × Message)) → IsSoFar posts g → IsSoFar (posts ++ requests_from x 1 0) g
none_requested x g posts far = subst (λ (l : List (ℕ × Message)). IsSoFar l g) (sym (append-nil posts)) far

pub none_taken : (x : ℕ) (g : Gathering) → IsSoFar [] g → IsSoFar (campaigns_from x 0) g
none_taken x g far = subst (λ (l : List (ℕ × Message)). IsSoFar l g) (sym (no_campaigns x)) far

-- the requests stand behind the campaigns
pub all_posted : (start n x drawn : ℕ) (g : Gathering) → x ≡ start → drawn ≡ behind_campaigns x 100 → IsSoFar (campaigns_from x 100 ++ requests_from drawn 1 n) g → IsSoFar (posted start n) g
unfolding posted
all_posted start n x drawn g from at far =
    let one = subst (λ (d : ℕ). IsSoFar (campaigns_from x 100 ++ requests_from d 1 n) g) at far in
    subst (λ (y : ℕ). IsSoFar (campaigns_from y 100 ++ requests_from (behind_campaigns y 100) 1 n) g) from one
