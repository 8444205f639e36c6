use Rattle.std.proofs.Common.{◌∙◌}
use Rattle.wk_body.proofs.Lookup.{numeric_here}
use Rattle.wk_body.proofs.reading.numeric_of.Goals as goal
use Rattle.wk_body.proofs.reading.numeric_of.Goals.{else-eq-via-then-eq+else-opcode-gt-LAST_CORE, else-eq-via-else-eq}

pub returns : goal.returns
returns c = c.from_opcode.ensures ∙ numeric_here c.args.profile c.args.opcode
    (λ core. elim c.else-eq.branch [
      | else-eq-via-then-eq+else-opcode-gt-LAST_CORE w ↦ w.if-opcode-gt-LAST_CORE.false
      | else-eq-via-else-eq w ↦ absurd (let same = rw core at w.if-eq.ensures in cc)
    ])
