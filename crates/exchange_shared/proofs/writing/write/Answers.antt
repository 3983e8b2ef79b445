use Rattle.std.proofs.Common.{◌≡◌, [], ◌∷◌, ◌++◌, sym, subst, OnOk, OnErr}
use Rattle.exchange_shared.proofs.Errands.{tried}
use Rattle.journal_file.specs.Blocks.{journal_names}
use Rattle.journal_file.specs.Standing.{Broken, IsBeforeOrAfter, Keeps, store_of}
use Rattle.rtb_disk.specs.Stores.{Always}
use Rattle.exchange_shared.proofs.writing.write.Goals as goal

pub returns-then-errand : goal.returns-then-errand
returns-then-errand g c =
    let b : c.as_bytes.result.now ≡ c.args.errand.now.block = c.as_bytes.ensures.value in
    tried c.args.errand.now c.repair.new.self c.repair.result _ c.is_ok.ensures.value c.repair.ensures.broken c.repair.ensures.cause
    (λ p st. subst (λ k. OnOk c.repair.result (Keeps journal_names c.repair.new.self (p ++ k ∷ []))) b (c.repair.ensures.added journal_names p (subst (λ k. Broken journal_names c.args.errand.now.journal p k) (sym b) (st.1 c.if-errand.true))))
    (λ p st. subst (λ k. OnErr c.repair.result (Broken journal_names c.repair.new.self p k)) b (c.repair.ensures.stopped journal_names p (subst (λ k. Broken journal_names c.args.errand.now.journal p k) (sym b) (st.1 c.if-errand.true))))
    (λ p st. subst (λ k. Always (IsBeforeOrAfter journal_names p k) (store_of c.args.errand.now.journal) (store_of c.repair.new.self)) b
    (c.repair.ensures.any_moment journal_names p (subst (λ k. Broken journal_names c.args.errand.now.journal p k) (sym b) (st.1 c.if-errand.true))))

pub returns-else-errand : goal.returns-else-errand
returns-else-errand g c =
    let b : c.as_bytes-else-errand.result.now ≡ c.args.errand.now.block = c.as_bytes-else-errand.ensures.value in
    tried c.args.errand.now c.append.new.self c.append.result _ c.is_ok-else-errand.ensures.value c.append.ensures.broken c.append.ensures.cause
    (λ p st. subst (λ k. OnOk c.append.result (Keeps journal_names c.append.new.self (p ++ k ∷ []))) b (c.append.ensures.added journal_names p (st.0 c.if-errand.false)))
    (λ p st. subst (λ k. OnErr c.append.result (Broken journal_names c.append.new.self p k)) b (c.append.ensures.stopped journal_names p (st.0 c.if-errand.false)))
    (λ p st. subst (λ k. Always (IsBeforeOrAfter journal_names p k) (store_of c.args.errand.now.journal) (store_of c.append.new.self)) b (c.append.ensures.any_moment journal_names p (st.0 c.if-errand.false)))
