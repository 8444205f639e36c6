use Rattle.std.proofs.Common.{length}
use Rattle.wk_place.proofs.TokenSearch.{OnWay}
use Rattle.wk_place.proofs.tokens.find_token.Given as goal

abbrev pub invariant-loop-reader : goal.invariant-loop-reader
invariant-loop-reader l = OnWay l.profile l.fn.code l.token l.reader.kinds l.left l.cursor

abbrev pub decreases-loop-reader : goal.decreases-loop-reader
decreases-loop-reader l = length l.cursor.rest
