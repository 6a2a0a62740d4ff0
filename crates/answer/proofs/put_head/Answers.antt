use mathlib.Core.Path.{◌≡◌, ap, ◌∙◌}
use Rattle.meaning.specs.Numbers.{bytes_of}
use Rattle.meaning.specs.Call.{laid}
use Rattle.answer.proofs.Laws.{head_laid}
use lib.ListN.{length}
use native.Mathlib.Omega.{arith}
use lib.ListN.{length-set}
use Rattle.answer.proofs.put_head.Goals as goal

pub put_long-requires : goal.put_long-requires
put_long-requires c = simp length-set (omega arith)

pub put_long-requires-2 : goal.put_long-requires-2
put_long-requires-2 c =
    -- the output keeps its length
    let after_1 : length c.put_long.new.out ≡ length c.args.out.now = let k = simp length-set at c.put_long.auto.out in omega arith in
    omega (arith, after_1)

pub put_long-requires-3 : goal.put_long-requires-3
put_long-requires-3 c =
    let after_1 : length c.put_long.new.out ≡ length c.args.out.now = let k = simp length-set at c.put_long.auto.out in omega arith in
    let after_2 : length c.put_long-2.new.out ≡ length c.args.out.now = omega (arith, after_1, c.put_long-2.auto) in
    omega (arith, after_2)

pub put_word-requires : goal.put_word-requires
put_word-requires c =
    let after_1 : length c.put_long.new.out ≡ length c.args.out.now = let k = simp length-set at c.put_long.auto.out in omega arith in
    let after_2 : length c.put_long-2.new.out ≡ length c.args.out.now = omega (arith, after_1, c.put_long-2.auto) in
    let after_3 : length c.put_long-3.new.out ≡ length c.args.out.now = omega (arith, after_2, c.put_long-3.auto) in
    omega (arith, after_3)

pub put_word-requires-2 : goal.put_word-requires-2
put_word-requires-2 c =
    let after_1 : length c.put_long.new.out ≡ length c.args.out.now = let k = simp length-set at c.put_long.auto.out in omega arith in
    let after_2 : length c.put_long-2.new.out ≡ length c.args.out.now = omega (arith, after_1, c.put_long-2.auto) in
    let after_3 : length c.put_long-3.new.out ≡ length c.args.out.now = omega (arith, after_2, c.put_long-3.auto) in
    let after_4 : length c.put_word.new.out ≡ length c.args.out.now = omega (arith, after_3, c.put_word.auto) in
    omega (arith, after_4)

pub shape_of-out : goal.shape_of-out
shape_of-out c =
    let after_1 : length c.put_long.new.out ≡ length c.args.out.now = let k = simp length-set at c.put_long.auto.out in omega arith in
    let after_2 : length c.put_long-2.new.out ≡ length c.args.out.now = omega (arith, after_1, c.put_long-2.auto) in
    let after_3 : length c.put_long-3.new.out ≡ length c.args.out.now = omega (arith, after_2, c.put_long-3.auto) in
    let after_4 : length c.put_word.new.out ≡ length c.args.out.now = omega (arith, after_3, c.put_word.auto) in
    let after_5 : length c.put_word-2.new.out ≡ length c.args.out.now = omega (arith, after_4, c.put_word-2.auto) in
    after_5

pub returns : goal.returns
returns c =
    let a = c.args in
    c.put_word-2.ensures
    ∙ ap (laid 15 (bytes_of 2 a.m))
    (c.put_word.ensures
    ∙ ap (laid 13 (bytes_of 2 a.n))
    (c.put_long-3.ensures
    ∙ ap (laid 9 (bytes_of 4 a.flips))
    (c.put_long-2.ensures
    ∙ ap (laid 5 (bytes_of 4 a.cost)) c.put_long.ensures)))
    ∙ head_laid a.out.now a.cost a.flips a.n a.m c.requires.0
