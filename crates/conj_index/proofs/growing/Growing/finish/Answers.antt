use Rattle.conj_index.proofs.Rising.{rising_lists}
use Rattle.conj_index.proofs.growing.Growing.finish.Goals as goal

pub posting_lists-requires : goal.posting_lists-requires
posting_lists-requires c = rising_lists (λ l. l.items) c.args.self.lists.items c.requires
