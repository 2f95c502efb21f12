use native.Mathlib.Omega.{arith}
use Rattle.linear_form.proofs.Added.{rowed-long, rowed-short, rowed-full, rowed-more}
use Rattle.linear_form.proofs.Rows.{kept-short, length-as}
use Rattle.linear_form.proofs.adding.add_row.Goals as goal

pub result_len-one-requires : goal.result_len-one-requires
result_len-one-requires c = let a = c.args in let p = c.requires in let e = c.kept_len-kept.ensures in let z = kept-short a.k.now a.s p.0 in (p.0, omega arith, p.1)

pub returns-then-one-gt-QUESTION : goal.returns-then-one-gt-QUESTION
returns-then-one-gt-QUESTION c = rowed-long c.requires.2 (length-as c.args.k.now c.args.s c.args.p c.kept_len-kept.ensures c.result_len-one.ensures) c.if-one-gt-QUESTION.true

pub returns-then-rest-p : goal.returns-then-rest-p
returns-then-rest-p c = rowed-short c.requires.2 (length-as c.args.k.now c.args.s c.args.p c.kept_len-kept.ensures c.result_len-one.ensures) c.if-rest-p.true

pub returns-then-out-to : goal.returns-then-out-to
returns-then-out-to c = rowed-full c.requires.2 (length-as c.args.k.now c.args.s c.args.p c.kept_len-kept.ensures c.result_len-one.ensures) c.if-out-to.true

pub write_row-requires : goal.write_row-requires
write_row-requires c = let f = c.requires.2 in let h = c.if-out-to.false in (c.if-rest-p.false, length-as c.args.k.now c.args.s c.args.p c.kept_len-kept.ensures c.result_len-one.ensures, c.if-one-gt-QUESTION.false, omega arith)

pub returns : goal.returns
returns c = let k = c.write_row.auto in let f = c.requires.2 in let h = c.if-out-to.false in
    rowed-more c.requires.2 (length-as c.args.k.now c.args.s c.args.p c.kept_len-kept.ensures c.result_len-one.ensures) c.if-rest-p.false (omega arith) (omega arith) c.write_row.ensures

pub kept_len-kept-requires : goal.kept_len-kept-requires
kept_len-kept-requires c = c.requires.0
