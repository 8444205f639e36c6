use Rattle.wk_bytes.specs.PieceLaws.{one_SpellsByte, one_SpellsPiece, one_SpellsWord, one_SpellsName}
use Rattle.wk_bytes.proofs.cursor.one_spelling_of_pieces.Goals as goal

pub returns-clause-byte : goal.returns-clause-byte
returns-clause-byte c = one_SpellsByte

pub returns-clause-piece : goal.returns-clause-piece
returns-clause-piece c = one_SpellsPiece

pub returns-clause-word : goal.returns-clause-word
returns-clause-word c = one_SpellsWord

pub returns-clause-name : goal.returns-clause-name
returns-clause-name c = one_SpellsName
