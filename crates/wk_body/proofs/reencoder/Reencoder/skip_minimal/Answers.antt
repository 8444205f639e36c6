use Rattle.std.proofs.Common.{◌≡◌, ◌+◌, ◌<◌, ap, ◌∙◌, ◌≤◌, ◌-◌, get_or, length, subst, refl, arith}
use Rattle.wk_body.specs.declared.reencoder.Reencoder.{Reencoder}
use Rattle.wk_body.specs.Reencoding.{BlocksPass}
use Rattle.wk_bytes.specs.LebLaws.{IsBytes}
use Rattle.wk_body.proofs.TableWalk.{other_on}
use Rattle.wk_body.proofs.WideWalk.{else_on, nop_on}
use Rattle.wk_body.proofs.MinimalWalk.{few_bytes, counted_on, passed_on, enough, moved}
use Rattle.wk_body.proofs.reencoder.Reencoder.skip_minimal.Goals.{then-may_skip, else-may_skip+then-opcode-lt-ELSE+else-opcode-ne-NOP+else-x-eq-NOP}
use Rattle.wk_body.proofs.reencoder.Reencoder.skip_minimal.Goals.{else-may_skip+else-opcode-lt-ELSE+then-opcode-eq-ELSE+else-x-eq-END+else-not-takes_else}
use Rattle.wk_body.proofs.reencoder.Reencoder.skip_minimal.Goals.{else-may_skip+else-opcode-lt-ELSE+else-opcode-eq-ELSE+else-size-eq0+else-bytes-at}
use Rattle.wk_body.proofs.reencoder.Reencoder.skip_minimal.Goals as goal

pub loop-at-init : goal.loop-at-init
loop-at-init c = record { within = omega arith; small = c.requires; goes = λ ks below is room. (ks, is, λ profile before out first g. g) }

pub loop-at-preserved : goal.loop-at-preserved
loop-at-preserved c =
    let from = c.args.self.now in
    let bytes = c.rest-bytes.result.now in
    let at = c.loop-at.at in
    let blocks = c.loop-at.inner in
    let step = c.if-may_skip.size in
    let same : bytes ≡ from.cursor.rest = c.rest-bytes.ensures in
    let within : at + 2 < length bytes = omega (arith, c.saturating_sub-last.ensures) in
    elim c.if-may_skip.branch [
      | then-may_skip w ↦
          let yes = w.if-may_skip.true in
          record {
            within = omega (arith, w.size-is, w.from-size.ensures, c.min_len-len.ensures, few_bytes (get_or bytes at 0));
            small = omega (arith, w.inner-is, c.may_skip.ensures.small yes);
            goes = λ ks below is room.
                counted_on from at step c.blocks_after-after.result step c.if-may_skip.inner ks below refl w.inner-is
                (passed_on from bytes at (get_or bytes at 0) c.min_len-len.result step blocks c.blocks_after-after.result ks below same within
                c.loop-at.invariant.small room refl
                c.min_len-len.ensures c.blocks_after-after.ensures (c.may_skip.ensures.some yes) (c.may_skip.ensures.minimal yes)
                (c.may_skip.ensures.ty yes) (w.size-is ∙ w.from-size.ensures) (c.loop-at.invariant.goes ks below is room));
          }
      | else-may_skip+then-opcode-lt-ELSE+else-opcode-ne-NOP+else-x-eq-NOP w ↦ record {
        within = omega (arith, within, w.size-is);
        small = omega (arith, c.loop-at.invariant.small, w.inner-is);
        goes = λ ks below is room. counted_on from at 1 blocks step c.if-may_skip.inner ks below w.size-is w.inner-is
            (nop_on from bytes at blocks ks below same (omega (arith, within)) w.if-opcode-ne-NOP.false (c.loop-at.invariant.goes ks below is room));
      }
      | else-may_skip+else-opcode-lt-ELSE+then-opcode-eq-ELSE+else-x-eq-END+else-not-takes_else w ↦ record {
        within = omega (arith, within, w.size-is);
        small = omega (arith, c.loop-at.invariant.small, w.inner-is);
        goes = λ ks below is room.
            counted_on from at 1 (blocks - 1) step c.if-may_skip.inner ks below w.size-is w.inner-is
            (else_on from bytes at blocks ks below same within w.if-opcode-eq-ELSE.true w.if-x-eq-END.false
            (w.takes_else.ensures.some w.if-not-takes_else.false) (w.takes_else.ensures.may w.if-not-takes_else.false)
            (c.loop-at.invariant.goes ks below is room));
      }
      | else-may_skip+else-opcode-lt-ELSE+else-opcode-eq-ELSE+else-size-eq0+else-bytes-at w ↦
          let fits : IsBytes from.cursor.rest = subst IsBytes same c.are_bytes.ensures in
          let size = w.other_len-size.result in
          let enough : at + size ≤ length bytes = omega (arith, w.if-bytes-at.false, within) in
          record {
            within = omega (arith, enough, w.size-is);
            small = omega (arith, c.loop-at.invariant.small, w.inner-is);
            goes = λ ks below is room.
                counted_on from at size blocks step c.if-may_skip.inner ks below w.size-is w.inner-is
                (other_on from bytes at size blocks ks below same fits within enough (w.other_len-size.ensures (omega (arith, w.if-size-eq0.false)))
                (c.loop-at.invariant.goes ks below is room));
          }
    ]

pub overflow_cast-at : goal.overflow_cast-at
overflow_cast-at c = omega (arith, c.at.ensures, ap length c.rest-bytes.ensures, c.loop-at.invariant.within)

pub unreachable-requires : goal.unreachable-requires
unreachable-requires c =
    enough c.loop-at.at c.args.self.now.cursor.end c.args.self.now.cursor.rest c.in_default.field-0
    (omega (arith, ap length c.rest-bytes.ensures, c.loop-at.invariant.within)) c.in_default.ensures.exact.0

pub returns-clause-goes : goal.returns-clause-goes
returns-clause-goes c = λ ks below is room.
    subst (λ (w : Reencoder). BlocksPass c.args.self.now w c.loop-at.inner ks below)
    (moved c.args.self.now c.take.new.self c.loop-at.at c.in-Ok.field-0.now c.in-Ok.ensures.exact)
    (c.loop-at.invariant.goes ks below is room)
