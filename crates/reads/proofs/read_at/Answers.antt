use Rattle.std.proofs.Common.{arith}
use Rattle.reads.proofs.ReadLies.{some_bytes, lies}
use Rattle.reads.proofs.read_at.Goals as goal

pub overflow_add-at : goal.overflow_add-at
overflow_add-at c = let s = c.requires in omega (arith, s.1.2)

pub word_at-requires : goal.word_at-requires
word_at-requires c = let s = c.requires in omega (arith, some_bytes c.args.reads.now s.0 s.1.0 _ s.1.1)

pub word_at-len-requires : goal.word_at-len-requires
word_at-len-requires c = let s = c.requires in omega (arith, some_bytes c.args.reads.now s.0 s.1.0 _ s.1.1)

pub overflow_sub-len : goal.overflow_sub-len
overflow_sub-len c = let s = c.requires in omega (arith, some_bytes c.args.reads.now s.0 s.1.0 _ s.1.1)

pub overflow_add-result : goal.overflow_add-result
overflow_add-result c = let s = c.requires in omega (arith, s.1.2)

pub overflow_add-result-2 : goal.overflow_add-result-2
overflow_add-result-2 c = let s = c.requires in omega (arith, s.1.2)

pub overflow_add-result-3 : goal.overflow_add-result-3
overflow_add-result-3 c = let s = c.requires in omega (arith, s.1.2)

pub returns : goal.returns
returns c = λ r s. let len = c.word_at-len.ensures in lies c.args.reads.now r s.0 _ s.1 s.2 _ _ _ len.1 c.word_at.ensures.0 len.0 c.cells_in.ensures
