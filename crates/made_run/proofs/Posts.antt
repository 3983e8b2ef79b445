-- One message more.
use Rattle.std.proofs.Common.{◌≡◌, ℕ, zero, suc, ◌+◌, List, [], ◌∷◌, ◌++◌, refl, ap, sym, ◌∙◌, arith}
use Rattle.std.specs.Prelude.{codes}
use Rattle.http_wire.specs.declared.message.Message.{Message}
use Rattle.loadgen.specs.Draws.{behind_campaign, behind_request, request_draws}
use Rattle.loadgen.specs.Texts.{request_text}
use Rattle.made_run.specs.Runs.{behind_campaigns, campaign_post, campaigns_from, post, request_post, requests_from}
use Rattle.made_run.specs.Standing.{IsPostTo}

one_on : (k : ℕ) → k + 1 ≡ suc k
one_on k = omega arith

-- ---- campaigns

campaigns_more : (x k : ℕ) → campaigns_from x (suc k) ≡ campaigns_from x k ++ (0, campaign_post (behind_campaigns x k)) ∷ []
unfolding campaigns_from behind_campaigns
campaigns_more x zero = refl
campaigns_more x (suc k) = ap (λ (l : List (ℕ × Message)). (0, campaign_post x) ∷ l) (campaigns_more (behind_campaign x) k)

pub campaigns_on : (x k : ℕ) → campaigns_from x (k + 1) ≡ campaigns_from x k ++ (0, campaign_post (behind_campaigns x k)) ∷ []
campaigns_on x k = ap (λ (n : ℕ). campaigns_from x n) (one_on k) ∙ campaigns_more x k

drawn_more : (x k : ℕ) → behind_campaigns x (suc k) ≡ behind_campaign (behind_campaigns x k)
unfolding behind_campaigns
drawn_more x zero = refl
drawn_more x (suc k) = drawn_more (behind_campaign x) k

pub drawn_on : (x k : ℕ) → behind_campaigns x (k + 1) ≡ behind_campaign (behind_campaigns x k)
drawn_on x k = ap (λ (n : ℕ). behind_campaigns x n) (one_on k) ∙ drawn_more x k

-- none yet
pub no_campaigns : (x : ℕ) → campaigns_from x 0 ≡ []
unfolding campaigns_from
no_campaigns x = refl

pub none_drawn : (x : ℕ) → x ≡ behind_campaigns x 0
unfolding behind_campaigns
none_drawn x = refl

-- ---- requests

-- the generator's state behind so many requests
abbrev pub behind_requests : ℕ → ℕ → ℕ
behind_requests x zero = x
behind_requests x (suc k) = behind_requests (behind_request x) k

-- the kth request from the state and the number on, counted from 0
abbrev pub request_at : ℕ → ℕ → ℕ × Message
request_at number x = (number, request_post number x)

requests_more : (x number k : ℕ) → requests_from x number (suc k) ≡ requests_from x number k ++ request_at (number + k) (behind_requests x k) ∷ []
requests_more x number zero = let same : number ≡ number + 0 = omega arith in ap (λ (m : ℕ). request_at m x ∷ []) same
requests_more x number (suc k) =
    let first : List (ℕ × Message) = requests_from (behind_request x) (number + 1) k in
    let same : number + 1 + k ≡ number + suc k = omega arith in
    ap (λ (l : List (ℕ × Message)). request_at number x ∷ l) (requests_more (behind_request x) (number + 1) k)
    ∙ ap (λ (m : ℕ). request_at number x ∷ (first ++ request_at m (behind_requests (behind_request x) k) ∷ [])) same

pub requests_on : (x k : ℕ) → requests_from x 1 (k + 1) ≡ requests_from x 1 k ++ request_at (k + 1) (behind_requests x k) ∷ []
requests_on x k =
    let same : 1 + k ≡ k + 1 = omega arith in
    ap (λ (n : ℕ). requests_from x 1 n) (one_on k) ∙ requests_more x 1 k ∙ ap (λ (m : ℕ). requests_from x 1 k ++ request_at m (behind_requests x k) ∷ []) same

sought_more : (x k : ℕ) → behind_requests x (suc k) ≡ behind_request (behind_requests x k)
sought_more x zero = refl
sought_more x (suc k) = sought_more (behind_request x) k

pub sought_on : (x k : ℕ) → behind_requests x (k + 1) ≡ behind_request (behind_requests x k)
sought_on x k = ap (λ (n : ℕ). behind_requests x n) (one_on k) ∙ sought_more x k

-- ---- a request in the place of another

-- a post has its own body
pub has_body : (target body : List ℕ) (m : Message) → m ≡ post target body → IsPostTo target m
has_body target body m is = is ∙ sym (ap (λ (n : Message). post target n.body) is)

-- or another one
pub with_body : (target body : List ℕ) (m : Message) → IsPostTo target m → record m { body = body } ≡ post target body
with_body target body m is = ap (λ (n : Message). record n { body = body }) is

pub with_request : (number x : ℕ) (body : List ℕ) (m : Message) → IsPostTo (codes "/openrtb2/auction") m → body ≡ request_text number (request_draws x) → record m { body = body } ≡ request_post number x
unfolding request_post
with_request number x body m is drawn = with_body (codes "/openrtb2/auction") body m is ∙ ap (λ (b : List ℕ). post (codes "/openrtb2/auction") b) drawn
