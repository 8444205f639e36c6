use Rattle.std.proofs.Common.{◌≡◌, true, false, ◌∷◌, refl, sym, rules}
use Rattle.wk_body.specs.declared.reencoder.Reencoder.{Reencoder}
use Rattle.wk_body.proofs.Rewriting.{else_stays, else_goes}
use Rattle.wk_body.proofs.reencode.pass_else.Goals as goal

pub returns-in_ok-write_pending : goal.returns-in_ok-write_pending
returns-in_ok-write_pending c = λ profile before from at outer b left g.
    let mid = c.args.coder.now in
    let to : Reencoder = record { cursor = mid.cursor; pending = c.rest-rest.result } in
    let parts : mid.cursor.rest ≡ c.in_ok-next.next.now ∷ c.in_ok-next.field-0-1.now = search rules in
    else_goes profile before c.args.out.now.items c.write_pending.new.out.items from at to (true ∷ outer)
    (false ∷ outer) c.in_ok-next.field-0-1.now c.in_ok-next.next.now c.args.left
    refl refl parts c.if-next-eq-END.true (sym b.parts) b.same_end left mid.pending.now b.same_pending c.in_ok-write_pending.ensures c.rest-rest.ensures g

pub returns-else-next-eq-END : goal.returns-else-next-eq-END
returns-else-next-eq-END c = λ profile before from at outer b left g.
    let mid = c.args.coder.now in
    let parts : mid.cursor.rest ≡ c.in_ok-next.next.now ∷ c.in_ok-next.field-0-1.now = search rules in
    else_stays profile before c.args.out.now.items from at mid (true ∷ outer)
    (false ∷ outer) c.in_ok-next.next.now c.in_ok-next.field-0-1.now refl refl parts c.if-next-eq-END.false b g
