use Rattle.std.proofs.Common.{◌≡◌, ℕ, ◌+◌, ◌-◌, ◌<◌, ◌≤◌, List, ap, get_or, length, subst, arith}
use Rattle.wk_body.specs.declared.reencoder.Reencoder.{Reencoder}
use Rattle.wk_body.proofs.Walking.{LabelsPassed, labels_one, labels_end}
use Rattle.wk_body.proofs.MinimalWalk.{later, enough, moved}
use Rattle.wk_body.proofs.TableWalk.{short_labels}
use Rattle.wk_body.proofs.reencoder.Reencoder.labels_apart.Goals as goal

pub loop-init : goal.loop-init
loop-init c =
    let count = c.args.count in
    let alone = c.behind_short-alone.result in
    let out = c.args.out.now.items in
    let coder = c.ahead-coder.result in
    let to : Reencoder = record { cursor = c.take.new.self; pending = coder.pending } in
    let within : 0 + alone ≤ length coder.cursor.rest = omega (arith, ap length c.rest-rest.ensures, c.min.ensures, c.behind_short-alone.ensures.within) in
    let most : alone ≤ count = omega (arith, c.min.ensures, c.behind_short-alone.ensures.within) in
    let low : (i : ℕ) → 0 ≤ i → i < 0 + alone → get_or coder.cursor.rest i 0 < 128 =
    λ i from lt. subst (λ (bs : List ℕ). get_or bs i 0 < 128) c.rest-rest.ensures (c.behind_short-alone.ensures.short i from (omega (arith, lt))) in
    let looked = short_labels count 0 alone out coder most within low in
    let none : 0 + alone ≡ alone = omega arith in
    let here = subst (λ (n : ℕ). LabelsPassed count (count - alone) out coder out (later coder n)) none looked in
    let taken = subst (λ (w : Reencoder). LabelsPassed count (count - alone) out coder out w)
    (moved coder c.take.new.self alone c.in-Ok.field-0.now c.in-Ok.ensures.exact) here in
    subst (λ (w : Reencoder). LabelsPassed count (count - alone) out w out to) c.ahead-coder.ensures taken

pub unreachable-requires : goal.unreachable-requires
unreachable-requires c =
    enough c.behind_short-alone.result c.ahead-coder.result.cursor.end c.ahead-coder.result.cursor.rest c.in_default.field-0
    (omega (arith, ap length c.rest-rest.ensures, c.min.ensures, c.behind_short-alone.ensures.within)) c.in_default.ensures.exact.0

pub loop-preserved : goal.loop-preserved
loop-preserved c =
    labels_one c.args.count c.loop.counter c.in_ok-pass_u32.field-0 c.args.out.now.items c.loop.out.items c.pass_u32.new.out.items c.args.self.now
    c.loop.coder c.pass_u32.new.self c.loop-test.true c.loop.invariant c.in_ok-pass_u32.ensures

pub returns : goal.returns
returns c = labels_end c.args.count c.loop.counter c.args.out.now.items c.loop.out.items c.args.self.now c.loop.coder c.loop-test.false c.loop.invariant
