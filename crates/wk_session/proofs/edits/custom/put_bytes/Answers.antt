use Rattle.std.proofs.Common.{◌≡◌, ◌<◌, List, length, slice_set, ap, ◌∙◌, arith}
use Rattle.wk_module.specs.declared.types.Custom.{Custom}
use Rattle.wk_module.specs.declared.types.Parts.{Parts}
use Rattle.wk_session.specs.Customs.{bytes_at}
use Rattle.wk_session.specs.Edits.{with_bytes}
use Rattle.wk_session.proofs.CustomPuts.{set_bytes}
use Rattle.wk_session.proofs.edits.custom.put_bytes.Goals as goal

pub returns : goal.returns
returns c =
    let i = c.args.index in
    let bytes = c.args.bytes in
    let customs = c.into_vec-customs.result.items in
    let d = c.index_mut.result.now in
    let all : customs ≡ c.args.parts.now.customs = c.into_vec-customs.ensures ∙ c.replace.ensures.value in
    let less : i < length customs = omega (arith, c.requires, ap length all) in
    let set = ap (λ (x : Custom). slice_set customs i (with_bytes bytes x)) c.index_mut.ensures.value ∙ set_bytes i bytes customs d less in
    ap (λ (cs : List Custom). let p : Parts = record c.args.parts.now { customs = cs } in p) (c.from_vec.ensures ∙ set ∙ ap (bytes_at i bytes) all)
