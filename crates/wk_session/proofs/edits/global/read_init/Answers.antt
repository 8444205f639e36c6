use Rattle.std.proofs.Common.{◌≢◌, ◌∙◌, Result, Err, sym, ap}
use Rattle.wk_bytes.specs.declared.fault.ReadFault.{ReadFault}
use Rattle.wk_bytes.specs.declared.fault.ReadKind.TheVariants.{Memory}
use Rattle.wk_body.specs.Reading.{all_expr_at, whole_at}
use Rattle.wk_body.specs.ReadsLaws.{other_fault}
use Rattle.wk_body.specs.Tree.{Instrs}
use Rattle.wk_session.specs.declared.edit.EditFault.{EditFault}
use Rattle.wk_session.specs.Edits.{from_bytes}
use Rattle.wk_session.proofs.edits.global.read_init.Goals as goal

pub returns-in-Err-clause-fault : goal.returns-in-Err-clause-fault
returns-in-Err-clause-fault c =
    λ other.
    let e = c.in-Err.fault in
    let read : Result Instrs ReadFault = whole_at (all_expr_at c.args.profile) c.args.init.now in
    let not_memory : e.kind ≢ Memory = λ wants. other (c.refusal_of.ensures.memory wants) in
    let exact = rw c.as_slice.ensures at c.in-Err.ensures.exact in
    ap from_bytes (other_fault e e.kind read not_memory exact)
    ∙ ap (λ (f : EditFault). let r : Result Instrs EditFault = Err f in r) (sym (c.refusal_of.ensures.bytes not_memory))
