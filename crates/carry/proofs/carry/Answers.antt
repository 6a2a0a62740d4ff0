use Rattle.std.proofs.Common.{arith, length-take}
use Prim.Native.Nat.{ℕ, ◌*◌, ◌/◌, ◌≤◌}
use mathlib.Core.Path.{◌≡◌, ap, ◌∙◌}
use lib.ListN.{length, take, drop, get_or-append}
use Rattle.carry.proofs.Laws.{second_fits, carried_first, carried_all, left-two, left_more, left_none}
use Rattle.carry.proofs.carry.Goals as goal

pub returns-then-part-classes : goal.returns-then-part-classes
returns-then-part-classes c = λ f l.
    let many : length c.only.new.taken ≡ c.args.classes = omega (arith, length-take {A = ℕ}) in
    get_or-append c.only.new.taken _ 0 f (omega arith)
    ∙ carried_all c.args.part.now c.args.classes (length c.args.part.now / c.args.classes) c.args.classes c.only.new.taken c.requires.classes_nonzero.0 c.requires.part_nonzero.1
    (carried_first c.args.part.now c.args.classes c.only.new.taken (λ g k. c.only.ensures g (omega arith)))
    (omega arith) (omega arith) f l

pub loop-row-init : goal.loop-row-init
loop-row-init c =
    let two : 2 * c.args.classes ≤ length c.args.part.now = second_fits c.args.classes (length c.args.part.now / c.args.classes) (length c.args.part.now) c.requires.part_nonzero.0 c.requires.part_nonzero.1 c.if-part-classes.false in
    let many : length c.lesser.new.taken ≡ c.args.classes = omega (arith, length-take {A = ℕ}) in
    let same = c.into_iter-row-iterator.ensures.into_iter_gives in
    let cut = c.split_at.ensures in
    let again = c.split_at-2.ensures in
    let rest = c.chunks_exact-row-items.ensures.rest in
    let count = ap length rest in (
      rw same c.chunks_exact-row-items.ensures.size,
      many,
      rw same (left-two c.args.part.now c.args.classes _ _ _ c.lesser.new.taken cut.front (again.front ∙ ap (take c.args.classes) cut.back)
          (rest ∙ again.back ∙ ap (drop c.args.classes) cut.back) (omega arith) (λ f l. c.lesser.ensures f (omega arith))),
    )

pub loop-row-preserved : goal.loop-row-preserved
loop-row-preserved c =
    let s = c.in-Some.ensures.steps in
    let l = c.loop-row in (
      s.0 ∙ l.invariant.0,
      omega arith,
      left_more c.args.part.now c.args.classes _ _ _ _ _ l.invariant.2 s.1.0 (s.1.1 ∙ l.invariant.0) (λ f k. c.keep_lesser.ensures f (omega arith)),
    )

pub returns : goal.returns
returns c = λ f k.
    let l = c.loop-row in
    get_or-append l.kept _ 0 f (omega arith)
    ∙ left_none c.args.part.now c.args.classes (length c.args.part.now / c.args.classes) _ l.kept c.requires.classes_nonzero.0 c.requires.part_nonzero.1 l.invariant.2 (omega (arith, c.in-None.ensures.steps)) f k
