-- A token that is neither a load nor a store nor numeric has the name of its opcode.
use Rattle.std.proofs.Common.{◌≡◌, ◌≢◌, ℕ, [], refl, ap, ◌∙◌}
use Rattle.wk_body.specs.declared.memory.MemoryOp.{MemoryOp}
use Rattle.wk_body.specs.declared.numeric.NumericOp.{NumericOp}
use Rattle.wk_body.specs.declared.token.Token.{Token}
use Rattle.wk_body.specs.declared.token.Token.TheVariants.{Access, Numeric}
use Rattle.wk_body.specs.Kept.{told}
use Rattle.wk_body.specs.Names.{tok_name, opcode_name}
use Rattle.wk_body.specs.Operands.{tok_opcode}
use Rattle.wk_body.proofs.token.Token.name.Goals as goal

named : (t : Token) → ((op : MemoryOp) (align offset : ℕ) → t ≢ Access op align offset) → ((op : NumericOp) → t ≢ Numeric op)
    → opcode_name (tok_opcode (told [] t)) ≡ tok_name (told [] t)
named (Access op align offset) access numeric = absurd (access op align offset refl)
named (Numeric op) access numeric = absurd (numeric op refl)
named _ access numeric = refl

pub returns : goal.returns
returns c =
    c.name-2.ensures ∙ ap opcode_name c.operands.ensures.opcode ∙ named c.args.self.now c.in_default.not-Access c.in_default-self.not-Numeric
