-- The runs of a result have the room that its length asks for.
use native.Mathlib.Omega.{arith}
use Prim.Native.Nat.{◌-◌}
use mathlib.Core.Path.{ap}
use lib.ListN.{length, length-drop}
use Rattle.linear_form.proofs.Written.{result-length, result-wrote, to_the_end}
use Rattle.linear_form.proofs.adding.write_row.Goals as goal

pub write_front-a-requires : goal.write_front-a-requires
write_front-a-requires c = let a = c.args in
    let l = result-length a.k.now a.s a.p in
    let z = c.write_frame.auto in
    let u = c.requires in
    omega arith

pub open_rest-b-requires : goal.open_rest-b-requires
open_rest-b-requires c = let a = c.args in
    let l = result-length a.k.now a.s a.p in
    let z = c.write_frame.auto in
    let u = c.requires in
    let x = c.write_front-a.ensures.end in
    let y = c.write_front-a.auto in
    omega arith

pub copy-e-requires : goal.copy-e-requires
copy-e-requires c = let a = c.args in
    let l = result-length a.k.now a.s a.p in
    let z = c.write_frame.auto in
    let u = c.requires in
    let x = c.write_front-a.ensures.end in
    let y = c.write_front-a.auto in
    let v = c.open_rest-b.ensures.end in
    let w = c.open_rest-b.auto in
    let r = ap length (to_the_end (length a.rest.now - a.p.words) a.rest.now) in
    let d = length-drop (length a.rest.now - a.p.words) a.rest.now in
    omega arith

pub copy-requires : goal.copy-requires
copy-requires c = let a = c.args in
    let l = result-length a.k.now a.s a.p in
    let z = c.write_frame.auto in
    let u = c.requires in
    let x = c.write_front-a.ensures.end in
    let y = c.write_front-a.auto in
    let v = c.open_rest-b.ensures.end in
    let w = c.open_rest-b.auto in
    let r = ap length (to_the_end (length a.rest.now - a.p.words) a.rest.now) in
    let d = length-drop (length a.rest.now - a.p.words) a.rest.now in
    let t = c.copy-e.ensures.end in
    let k = c.copy-e.auto in
    omega arith

pub returns : goal.returns
returns c = let a = c.args in result-wrote a.k.now a.s a.p a.rest.now a.out.now a.at c.requires.1 c.write_frame.ensures c.write_front-a.ensures c.open_rest-b.ensures c.copy-e.ensures c.copy.ensures
