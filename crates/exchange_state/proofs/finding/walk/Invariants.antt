use Rattle.std.proofs.Common.{◌≡◌, Some, drop, slice_get}
use Rattle.conj_index.specs.Campaigns.{DoRise}
use Rattle.exchange_state.proofs.Walks.{IsWalked, trues}
use Rattle.index_versions.specs.Versions.{campaigns_of}
use Rattle.rtb_types.specs.declared.request.Imp.{Imp}
use Rattle.exchange_state.proofs.finding.walk.Given as goal

-- the campaigns and the numbers that are left, and the candidates so far
abbrev pub invariant-loop-number : goal.invariant-loop-number
invariant-loop-number l = (i : Imp) → slice_get l.asked.imps l.imp ≡ Some i → DoRise (campaigns_of l.live) → l.numbers ≡ trues l.asked i l.live → IsWalked l.asked i l.live l.rest (drop l.number-index l.numbers) l.offers.items
