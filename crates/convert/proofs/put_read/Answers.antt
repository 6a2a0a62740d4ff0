use Rattle.std.proofs.Common.{◌≡◌, ℕ, ◌+◌, ◌-◌, ◌*◌, ◌/◌, ◌<◌, List, length, take, drop, length-drop, ap, ◌∙◌, arith}
use native.Mathlib.Nat.{div-eq_of_eq-mul_right}
use lib.ListN.{length-take}
use Rattle.meaning.specs.Numbers.{run, bytes_of}
use Rattle.meaning.specs.Block.{cell_at}
use Rattle.meaning.specs.Call.{laid}
use Rattle.meaning.specs.Convert.{cells_bytes}
use Rattle.convert.proofs.Parts.{read-laid}
use Rattle.convert.proofs.put_read.Goals as goal

pub returns : goal.returns
returns c =
    let a = c.args in
    let x = a.read in
    let size : ℕ = a.reads.now.shape.size in
    let part : List ℕ = take (x.next - x.start) (drop x.start a.reads.now.bytes.now) in
    let some : 0 < size = omega (arith, a.reads.now.shape.cell) in
    let bytes : length part ≡ size * x.count =
    length-take (x.next - x.start) (drop x.start a.reads.now.bytes.now) ∙ omega (arith, length-drop x.start a.reads.now.bytes.now, c.requires.lies) in
    c.put_cells.ensures
    ∙ ap (laid (a.to + 4) (cells_bytes (run 0 (length part / size) (cell_at size part))))
    (c.put_word-2.ensures ∙ ap (laid (a.to + 2) (bytes_of 2 x.first)) c.put_word.ensures)
    ∙ read-laid size x.first x.count part (div-eq_of_eq-mul_right some bytes) a.out.now a.to c.requires.room
