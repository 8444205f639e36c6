use Rattle.std.proofs.Common.{refl}
use Rattle.wk_typing.proofs.Streamed.{starts, moves_on, shortens, ends}
use Rattle.wk_typing.proofs.streaming.type_expr.Goals as goal

pub loop-next-init : goal.loop-next-init
loop-next-init g c =
    rw c.ahead-ahead.ensures.same
    (starts (g.E.Scope.answers c.args.env.now) c.args.f.now c.args.profile c.args.cursor.now c.begin.new.self.kinds c.args.block c.begin-2.new.self
    c.requires c.begin.ensures.kinds c.begin-2.ensures)

pub loop-next-smaller-in-Ok-Token : goal.loop-next-smaller-in-Ok-Token
loop-next-smaller-in-Ok-Token g c =
    shortens _ _ _ _ _ _ _ _ _ _ c.ahead-next.ensures.same (c.in-Ok-Token.ensures.taken c.args.profile c.in-Ok-Token.field-0-is)

pub loop-next-preserved-in-Ok-Token : goal.loop-next-preserved-in-Ok-Token
loop-next-preserved-in-Ok-Token g c =
    moves_on _ _ _ _ _ _ _ _ _ _ _ _ c.ahead-next.ensures.same refl (c.in-Ok-Token.ensures.taken c.args.profile c.in-Ok-Token.field-0-is) c.loop-next.invariant

pub loop-next-smaller : goal.loop-next-smaller
loop-next-smaller g c = shortens _ _ _ _ _ _ _ _ _ _ c.ahead-next-in-loop-next.ensures.same c.in-On.ensures

pub loop-next-preserved : goal.loop-next-preserved
loop-next-preserved g c =
    let left = c.in-Ok-Other.ensures.left c.in-Ok-Other.field-0-is in
    moves_on _ _ _ _ _ _ _ _ _ _ _ _ c.ahead-next-in-loop-next.ensures.same left.0 (rw left.1 at c.in-On.ensures) c.loop-next.invariant

pub returns-in-End : goal.returns-in-End
returns-in-End g c = λ yes.
    let end = c.in-End.ensures in
    let left = c.in-Ok-Other.ensures.left c.in-Ok-Other.field-0-is in
    ends (g.E.Scope.answers c.args.env.now) c.args.f.now c.args.profile c.args.cursor.now c.loop-next.ahead c.type_slow.new.cursor
    c.loop-next.stream.reader.kinds c.loop-next.stream.stacks
    (rw (c.ahead-next-in-loop-next.ensures.same, left.1) at end.0.0) (rw left.1 at end.0.1) (rw c.ahead-next-in-loop-next.ensures.same at end.0.2)
    (rw (end.1, left.0) at c.in-Ok-check_end.ensures.0) c.loop-next.invariant

pub returns-in-Ok-Last : goal.returns-in-Ok-Last
returns-in-Ok-Last g c = λ yes.
    let end = c.in-Ok-Last.ensures.last c.args.profile c.in-Ok-Last.field-0-is in
    ends (g.E.Scope.answers c.args.env.now) c.args.f.now c.args.profile c.args.cursor.now c.loop-next.ahead c.type_fast.new.cursor
    c.loop-next.stream.reader.kinds c.loop-next.stream.stacks
    (rw c.ahead-next.ensures.same at end.0.0) end.0.1 (rw c.ahead-next.ensures.same at end.0.2) (rw end.1 at c.in-Ok.ensures.0) c.loop-next.invariant
