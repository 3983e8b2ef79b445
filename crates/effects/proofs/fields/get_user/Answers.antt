use Rattle.std.proofs.Common.{length, ap, arith}
use Rattle.effects.proofs.PartCodes.{user_none, user_refused, user_taken}
use Rattle.effects.proofs.fields.get_user.Goals as goal

pub returns-in_default : goal.returns-in_default
returns-in_default c =
    let none = rw c.in_default.is at c.in_ok-user.ensures in
    user_none c.args.bytes.now c.args.place none

pub returns-then-is_empty : goal.returns-then-is_empty
returns-then-is_empty c =
    let read = rw c.in-Some.is at c.in_ok-user.ensures in
    user_refused c.args.bytes.now c.args.place c.in-Some.user c.in-Some.next read
    (λ u. omega (arith, u.0, ap length (c.is_empty.ensures.0 c.if-is_empty.true)))

pub returns-then-len-gt-LONGEST_USER : goal.returns-then-len-gt-LONGEST_USER
returns-then-len-gt-LONGEST_USER c =
    let read = rw c.in-Some.is at c.in_ok-user.ensures in
    user_refused c.args.bytes.now c.args.place c.in-Some.user c.in-Some.next read
    (λ u. omega (arith, u.1, c.len.ensures, c.if-len-gt-LONGEST_USER.true))

pub returns : goal.returns
returns c =
    let read = rw c.in-Some.is at c.in_ok-user.ensures in
    user_taken c.args.bytes.now c.args.place c.in-Some.user c.in-Some.next c.is_empty.result read c.is_empty.ensures c.if-is_empty.false (omega (arith, c.len.ensures, c.if-len-gt-LONGEST_USER.false))
