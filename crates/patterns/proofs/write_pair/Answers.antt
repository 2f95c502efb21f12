-- `patterns::write_pair` meets its contract: the pieces are the pair's question.
use mathlib.Core.Path.{refl, sym}
use Rattle.word_bytes.specs.Bytes.{words_of}
use Rattle.word_bytes.proofs.Pairs.{length-words_of}
use Rattle.patterns.proofs.Pairing.{sums-fit, first-ready, second-ready, pair-written}
use native.Mathlib.Omega.{arith}
use Rattle.patterns.proofs.write_pair.Goals as goal

pub write_head-requires : goal.write_head-requires
write_head-requires c = let s = sums-fit c.args.word (words_of c.args.first.now) (words_of c.args.second.now) c.args.n c.args.m c.args.one.now c.args.other.now c.requires.noted.0 c.requires.noted.1 c.requires.second_value in let p = c.requires.second_bound.0 in let q = c.requires.second_bound.1 in (omega (arith, s.0), omega (arith, s.1), omega (arith, s.2), omega arith, omega arith)

pub write_apart-at-requires : goal.write_apart-at-requires
write_apart-at-requires c = let p = c.requires.second_bound.0 in let q = c.requires.second_bound.1 in record {
  ready = first-ready c.args.word (words_of c.args.first.now) (words_of c.args.second.now) c.args.n c.args.m c.args.one.now c.args.other.now c.requires.noted.0 c.requires.noted.1 c.requires.second_value;
  bytes_in_bounds = omega arith;
}

pub write_apart-requires : goal.write_apart-requires
write_apart-requires c = let p = c.requires.second_bound.0 in let q = c.requires.second_bound.1 in let e2 = c.write_apart-at.ensures.0 in record {
  ready = second-ready c.args.word (words_of c.args.first.now) (words_of c.args.second.now) c.args.n c.args.m c.args.one.now c.args.other.now c.requires.noted.0 c.requires.noted.1 c.requires.second_value;
  bytes_in_bounds = omega arith;
}

pub returns : goal.returns
returns c = let a = length-words_of c.args.first.now in let b = length-words_of c.args.second.now in let p = c.requires.second_bound.0 in let q = c.requires.second_bound.1 in pair-written c.args.word (words_of c.args.first.now) (words_of c.args.second.now) c.args.n c.args.m c.args.one.now c.args.other.now c.requires.noted.0 c.requires.noted.1 c.requires.second_value c.args.question.now _ _ _ _ _ _ _ (sym a) (sym b) refl c.write_apart-at.ensures.0 c.write_head.ensures c.write_apart-at.ensures.1 c.write_apart.ensures.1

pub overflow_add-n : goal.overflow_add-n
overflow_add-n c = let s = sums-fit c.args.word (words_of c.args.first.now) (words_of c.args.second.now) c.args.n c.args.m c.args.one.now c.args.other.now c.requires.noted.0 c.requires.noted.1 c.requires.second_value in omega (arith, s.0)

pub overflow_add-n-2 : goal.overflow_add-n-2
overflow_add-n-2 c = let s = sums-fit c.args.word (words_of c.args.first.now) (words_of c.args.second.now) c.args.n c.args.m c.args.one.now c.args.other.now c.requires.noted.0 c.requires.noted.1 c.requires.second_value in omega (arith, s.1)

pub overflow_add-n-3 : goal.overflow_add-n-3
overflow_add-n-3 c = let s = sums-fit c.args.word (words_of c.args.first.now) (words_of c.args.second.now) c.args.n c.args.m c.args.one.now c.args.other.now c.requires.noted.0 c.requires.noted.1 c.requires.second_value in omega (arith, s.2)
