-- What may go to another thread, and what threads may share.
use denote.RattleType.{RattleType}
use denote.Ref.{NamedLft}
use denote.Param.Send.{IsSend, IsSync, sendable}
use Rattle.std.proofs.Crossing.{crosses}
use Rattle.address_keys.proofs.key.Key.TheSendSync as key
use Rattle.address_keys.specs.contracts.keys.Keys as keys
use Rattle.auction_core.specs.contracts.exchange.Core as core
use Rattle.budget_book.proofs.account.Account.TheSendSync as account
use Rattle.budget_book.proofs.dues.Due.TheSendSync as due
use Rattle.budget_book.proofs.sales.SaleRow.TheSendSync as sale
use Rattle.campaign_store.proofs.table.Table.TheSendSync as table
use Rattle.exchange_shared.proofs.landing.Landings.TheSendSync as landings
use Rattle.exchange_shared.proofs.worn.Worn.TheSendSync as worn
use Rattle.exchange_shared.specs.contracts.exchange.Exchange as exchange
use Rattle.exchange_state.specs.contracts.state.ExchangeState as state
use Rattle.hist_lock.proofs.lock.HistLock.TheSendSync as lock
use Rattle.index_versions.proofs.recent.Recent.TheSendSync as recent
use Rattle.index_versions.proofs.version.Version.TheSendSync as version
use Rattle.journal_file.proofs.journal.Journal.TheSendSync as journal
use Rattle.rtb_disk.specs.declared.disk.Disk.{Ghosts}
use Rattle.rtb_num.proofs.text.Txt.TheSendSync as txt
use Rattle.worker_pool.specs.contracts.jobs.Tools as tools

core_send : IsSend core.the_row
core_send = search (sendable, crosses, account.the_send, due.the_send, sale.the_send, table.the_send) depth 60 fits 5000

-- the state of an exchange, where its disk may
pub state_send : (D : RattleType) (g : Ghosts D.Denot) → IsSend D → IsSend (state.the_row D g)
state_send D g s = search (sendable, crosses, core_send, version.the_send, version.the_sync, recent.the_send, journal.the_send, txt.the_send) depth 30 fits 5000

exchange_sync : (D : RattleType) (g : Ghosts D.Denot) → IsSend D → IsSync (exchange.the_row D g)
exchange_sync D g s = search (sendable, state_send, lock.the_sync, landings.the_field_sync, worn.the_field_sync) depth 30 fits 5000

keys_sync : IsSync keys.the_row
keys_sync = search (sendable, key.the_sync) depth 30 fits 5000

-- what all workers are given
pub tools_sync : (κ : NamedLft) (D R P : RattleType) (g : Ghosts D.Denot) → IsSend D → IsSync R → IsSync P → IsSync (tools.the_row κ D R P g)
tools_sync κ D R P g d r p = search (sendable, exchange_sync, txt.the_sync, keys_sync) depth 40 fits 5000
