use mathlib.Core.Path.{◌≡◌, sym, ◌∙◌}
use Rattle.meaning.specs.Judge.{other_counts}
use Rattle.layout.specs.Matrices.{matrix_of}
use Rattle.layout.proofs.Laws.{count_is}
use Rattle.stated.specs.Stated.{Sized}
use Rattle.stated.proofs.Marks.{seventeen, same_counts}
use Rattle.verdict.proofs.Verdicts.{counts_told, gives_50, gives_51, gives_52, is_marked}
use Rattle.verdict.proofs.judged.Goals as goal

pub returns-then-malformed : goal.returns-then-malformed
returns-then-malformed c = gives_50 _ c.args.answer.now _ c.malformed.ensures c.if-malformed.true

pub other_counts-requires : goal.other_counts-requires
other_counts-requires c = seventeen c.args.answer.now (sym c.malformed.ensures ∙ c.if-malformed.false)

pub returns-then-other_counts : goal.returns-then-other_counts
returns-then-other_counts c =
    let r = c.args.table.now.listed.reads in
    -- other n or m
    let counts : c.other_counts.result ≡ other_counts (matrix_of r) c.args.answer.now = c.other_counts.ensures ∙ counts_told _ c.args.answer.now r.shape.n (count_is r.shape r.bytes.now) in
    gives_51 _ c.args.answer.now _ c.malformed.ensures c.if-malformed.false _ counts c.if-other_counts.true

pub unknown_mark-requires : goal.unknown_mark-requires
unknown_mark-requires c =
    let s = c.args.table.now.listed.reads.shape in
    same_counts c.args.answer.now s.m s.n s.few_columns s.few_reads (sym c.malformed.ensures ∙ c.if-malformed.false) (sym c.other_counts.ensures ∙ c.if-other_counts.false)

pub returns-then-unknown_mark : goal.returns-then-unknown_mark
returns-then-unknown_mark c =
    let r = c.args.table.now.listed.reads in
    let counts : c.other_counts.result ≡ other_counts (matrix_of r) c.args.answer.now = c.other_counts.ensures ∙ counts_told _ c.args.answer.now r.shape.n (count_is r.shape r.bytes.now) in
    gives_52 _ c.args.answer.now _ c.malformed.ensures c.if-malformed.false _ counts c.if-other_counts.false _ c.unknown_mark.ensures c.if-unknown_mark.true

pub weighed-requires-clause-sized : goal.weighed-requires-clause-sized
weighed-requires-clause-sized c =
    let r = c.args.table.now.listed.reads in
    let a = c.args.answer.now in
    let counts : c.other_counts.result ≡ other_counts (matrix_of r) a = c.other_counts.ensures ∙ counts_told _ a r.shape.n (count_is r.shape r.bytes.now) in
    -- an answer of our size
    let sized : Sized a r.shape.m r.shape.n =
    same_counts a r.shape.m r.shape.n r.shape.few_columns r.shape.few_reads (sym c.malformed.ensures ∙ c.if-malformed.false) (sym c.other_counts.ensures ∙ c.if-other_counts.false) in
    (sized, is_marked _ a _ c.malformed.ensures c.if-malformed.false _ counts c.if-other_counts.false _ c.unknown_mark.ensures c.if-unknown_mark.false)
