-- Which kinds of tokens refer to something.
use Rattle.std.specs.Prelude.{Bool, true, false}
use Rattle.wk_body.specs.declared.token.Token.{Token}
use Rattle.wk_body.specs.declared.token.Token.TheVariants.{Block, Loop, If, Call, CallIndirect, GlobalGet, GlobalSet, Access, MemorySize, MemoryGrow}

-- the token uses the memory
abbrev pub takes_memory : Token → Bool
takes_memory (Access op align offset) = true
takes_memory MemorySize = true
takes_memory MemoryGrow = true
takes_memory _ = false

-- the token may refer to something else
abbrev pub may_name : Token → Bool
may_name (Block ty skip) = true
may_name (Loop ty skip) = true
may_name (If ty skip) = true
may_name (Call x) = true
may_name (CallIndirect x) = true
may_name (GlobalGet x) = true
may_name (GlobalSet x) = true
may_name _ = false
