use Rattle.std.proofs.Common.{Some, ap, sym, ◌∙◌}
use Rattle.wk_typing.specs.declared.fault.Flaw.{Flaw}
use Rattle.wk_typing.specs.declared.fault.Fault.{Fault}
use Rattle.wk_check.specs.Spaces.{spaces_of}
use Rattle.wk_typing.specs.Faults.{fault_at}
use Rattle.wk_check.proofs.ExportNames.{was_there, was_new, exports_begin, exports_end, index_wrong, name_wrong, export_fine}
use Rattle.wk_check.proofs.exports.exports_fault.Goals as goal

pub loop-index-init : goal.loop-index-init
loop-index-init c = exports_begin (spaces_of c.args.whole.now) c.args.exports.now c.new-names.result.keys c.new-names.ensures.empty

pub returns-in-Some : goal.returns-in-Some
returns-in-Some c =
    ap (λ (f : Fault). Some f) c.at.ensures
    ∙ index_wrong (spaces_of c.args.whole.now) c.args.exports.now c.loop-index.index c.loop-index.names.keys c.index-exports-index.result c.in-Some.flaw
    c.loop-index-test.true c.index-exports-index.is c.loop-index.invariant (sym c.in-Some.ensures)

pub returns-then-not-branch : goal.returns-then-not-branch
returns-then-not-branch c =
    ap (λ (f : Fault). Some f) (c.at-then-not-branch.ensures ∙ ap (λ (w : Flaw). fault_at 7 c.loop-index.index w) c.of.ensures)
    ∙ name_wrong (spaces_of c.args.whole.now) c.args.exports.now c.loop-index.index c.loop-index.names.keys c.index-exports-index.result c.as_str.result
    c.loop-index-test.true c.index-exports-index.is c.loop-index.invariant
    (sym c.in_default.ensures) c.as_str.ensures.value (was_there c.in_ok-insert.field-0 _ c.in_ok-insert.ensures.added c.if-not-branch.true)

pub loop-index-preserved : goal.loop-index-preserved
loop-index-preserved c =
    export_fine (spaces_of c.args.whole.now) c.args.exports.now c.loop-index.index c.loop-index.names.keys c.insert.new.self.keys
    c.index-exports-index.result c.as_str.result c.loop-index-test.true c.index-exports-index.is c.loop-index.invariant
    (sym c.in_default.ensures) c.as_str.ensures.value (was_new c.in_ok-insert.field-0 _ c.in_ok-insert.ensures.added c.if-not-branch.false)
    c.in_ok-insert.ensures.keys

pub returns : goal.returns
returns c = exports_end (spaces_of c.args.whole.now) c.args.exports.now c.loop-index.index c.loop-index.names.keys c.loop-index-test.false
    c.loop-index.invariant
