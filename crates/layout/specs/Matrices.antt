-- The matrix that reads which pass the checks are.
use Rattle.meaning.specs.Block.{Matrix}
use Rattle.layout.specs.Reads.{matrix_in}
use Rattle.layout.specs.declared.reads.Reads.{Reads}

abbrev pub matrix_of : Reads → Matrix
matrix_of r = matrix_in r.shape r.bytes.now
