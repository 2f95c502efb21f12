-- Each part and each word has the room that the whole asks for.
use native.Mathlib.Omega.{arith}
use Rattle.linear_form.proofs.Rows.{front_length}
use Rattle.linear_form.proofs.Written.{front-wrote}
use Rattle.linear_form.proofs.adding.write_front.Goals as goal

pub copy-a-requires : goal.copy-a-requires
copy-a-requires c = let a = c.args in
    let l = front_length a.k.now a.s a.p in
    let u = c.requires in
    omega arith

pub put-b-requires : goal.put-b-requires
put-b-requires c = let a = c.args in
    let l = front_length a.k.now a.s a.p in
    let u = c.requires in
    let e0 = c.copy-a.ensures.end in
    let k0 = c.copy-a.auto in
    omega arith

pub copy-c-requires : goal.copy-c-requires
copy-c-requires c = let a = c.args in
    let l = front_length a.k.now a.s a.p in
    let u = c.requires in
    let e0 = c.copy-a.ensures.end in
    let k0 = c.copy-a.auto in
    let e1 = c.put-b.ensures.end in
    let k1 = c.put-b.auto in
    omega arith

pub put-d-requires : goal.put-d-requires
put-d-requires c = let a = c.args in
    let l = front_length a.k.now a.s a.p in
    let u = c.requires in
    let e0 = c.copy-a.ensures.end in
    let k0 = c.copy-a.auto in
    let e1 = c.put-b.ensures.end in
    let k1 = c.put-b.auto in
    let e2 = c.copy-c.ensures.end in
    let k2 = c.copy-c.auto in
    omega arith

pub copy-e-requires : goal.copy-e-requires
copy-e-requires c = let a = c.args in
    let l = front_length a.k.now a.s a.p in
    let u = c.requires in
    let e0 = c.copy-a.ensures.end in
    let k0 = c.copy-a.auto in
    let e1 = c.put-b.ensures.end in
    let k1 = c.put-b.auto in
    let e2 = c.copy-c.ensures.end in
    let k2 = c.copy-c.auto in
    let e3 = c.put-d.ensures.end in
    let k3 = c.put-d.auto in
    omega arith

pub put-f-requires : goal.put-f-requires
put-f-requires c = let a = c.args in
    let l = front_length a.k.now a.s a.p in
    let u = c.requires in
    let e0 = c.copy-a.ensures.end in
    let k0 = c.copy-a.auto in
    let e1 = c.put-b.ensures.end in
    let k1 = c.put-b.auto in
    let e2 = c.copy-c.ensures.end in
    let k2 = c.copy-c.auto in
    let e3 = c.put-d.ensures.end in
    let k3 = c.put-d.auto in
    let e4 = c.copy-e.ensures.end in
    let k4 = c.copy-e.auto in
    omega arith

pub copy-requires : goal.copy-requires
copy-requires c = let a = c.args in
    let l = front_length a.k.now a.s a.p in
    let u = c.requires in
    let e0 = c.copy-a.ensures.end in
    let k0 = c.copy-a.auto in
    let e1 = c.put-b.ensures.end in
    let k1 = c.put-b.auto in
    let e2 = c.copy-c.ensures.end in
    let k2 = c.copy-c.auto in
    let e3 = c.put-d.ensures.end in
    let k3 = c.put-d.auto in
    let e4 = c.copy-e.ensures.end in
    let k4 = c.copy-e.auto in
    let e5 = c.put-f.ensures.end in
    let k5 = c.put-f.auto in
    omega arith

pub returns : goal.returns
returns c = let a = c.args in front-wrote a.k.now a.s a.p c.copy-a.ensures c.put-b.ensures c.copy-c.ensures c.put-d.ensures c.copy-e.ensures c.put-f.ensures c.copy.ensures
