use Rattle.std.proofs.Common.{Result, Ok, Err, OnOk, ap}
use Rattle.json_out.proofs.Objects.{closes}
use Rattle.rtb_response.specs.Replies.{answer, object_answer, report_members}
use Rattle.rtb_response.proofs.reply.report_reply.Goals as goal

where_done : {A B E : Type 0} (r : Result (Unit {0}) E) → (A → B) → OnOk r A → OnOk r B
where_done (Ok x) f h = f h
where_done (Err e) f h = tt

pub closed-requires-clause-ends : goal.closed-requires-clause-ends
closed-requires-clause-ends c =
    let a = c.args in
    let put = c.put_report-done in
    where_done put.result (λ e. (closes put.new.writer (report_members a.n a.live a.bid a.budget a.totals.now) e).0) put.ensures

pub closed-requires-clause-whole : goal.closed-requires-clause-whole
closed-requires-clause-whole c =
    let a = c.args in
    let put = c.put_report-done in
    where_done put.result (λ e. (closes put.new.writer (report_members a.n a.live a.bid a.budget a.totals.now) e).1) put.ensures

pub returns : goal.returns
returns c =
    let a = c.args in
    let put = c.put_report-done in
    let all = report_members a.n a.live a.bid a.budget a.totals.now in
    c.closed.ensures (object_answer 200 all) (where_done put.result (λ e. ap (answer 200) (closes put.new.writer all e).2) put.ensures)
