use native.Mathlib.Omega.{arith}
use mathlib.Core.Bool.{true, false}
use mathlib.Core.List.{List}
use mathlib.Core.Path.{◌≡◌, sym, ap, subst}
use Prim.Native.Nat.{ℕ}
use Rattle.sums.specs.Level.{whole_of}
use Rattle.column.specs.Walk.{level_in, Low}
use Rattle.column.proofs.Laws.{level_low, level_is, start_small, raised-small, begin_raised, begin_own, whole_none}
use Rattle.column.proofs.Column.begin.Goals as goal

pub level-level-requires : goal.level-level-requires
level-level-requires c = start_small c.args.self.now.heterozygous c.args.self.now.w.now c.args.self.now.p c.args.self.now.few c.args.self.now.light _ c.sums-s.ensures

pub raised-requires : goal.raised-requires
raised-requires c =
    -- the level that is found is the column's
    let level : c.level-level.result ≡ level_in c.args.self.now = level_is c.args.self.now.heterozygous c.args.self.now.w.now c.args.self.now.p c.args.self.now.few c.args.self.now.light _ c.sums-s.ensures c.if-self.true _ c.level-level.ensures in
    raised-small c.args.self.now.heterozygous c.args.self.now.w.now c.args.self.now.p c.args.self.now.few c.args.self.now.light _ c.sums-s.ensures _ level

pub overflow_add-result : goal.overflow_add-result
overflow_add-result c =
    let level : c.level-level.result ≡ level_in c.args.self.now = level_is c.args.self.now.heterozygous c.args.self.now.w.now c.args.self.now.p c.args.self.now.few c.args.self.now.light _ c.sums-s.ensures c.if-self.true _ c.level-level.ensures in
    let low = subst Low (sym level) (level_low c.args.self.now.heterozygous c.args.self.now.w.now c.args.self.now.p c.args.self.now.few c.args.self.now.light) in
    record { fits = omega (arith, low false, low true) }

pub returns-then-self : goal.returns-then-self
returns-then-self c =
    let level : c.level-level.result ≡ level_in c.args.self.now = level_is c.args.self.now.heterozygous c.args.self.now.w.now c.args.self.now.p c.args.self.now.few c.args.self.now.light _ c.sums-s.ensures c.if-self.true _ c.level-level.ensures in
    record { sums_value = begin_raised c.args.self.now.heterozygous c.args.self.now.w.now c.args.self.now.p c.args.self.now.few c.args.self.now.light _ c.sums-s.ensures _ _ level c.raised.ensures; whole_value = ap (λ (o : List ℕ). whole_of o) level }

pub returns : goal.returns
returns c = record { sums_value = begin_own c.args.self.now.heterozygous c.args.self.now.w.now c.args.self.now.p c.args.self.now.few c.args.self.now.light _ c.sums-s.ensures c.if-self.false; whole_value = whole_none c.args.self.now.heterozygous c.args.self.now.w.now c.args.self.now.p c.if-self.false }
