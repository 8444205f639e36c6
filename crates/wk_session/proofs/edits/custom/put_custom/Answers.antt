use Rattle.std.proofs.Common.{List, sym, subst, ◌∙◌}
use Rattle.wk_module.specs.declared.types.Custom.{Custom}
use Rattle.wk_session.specs.Customs.{IsPut}
use Rattle.wk_session.proofs.CustomPuts.{put_at, put_last}
use Rattle.wk_session.proofs.edits.custom.put_custom.Goals as goal

pub returns-in-Some : goal.returns-in-Some
returns-in-Some c =
    let m = c.args.parts.now in
    let same = put_at c.args.name.now c.args.bytes.now m.customs c.in-Some.index (sym c.find_custom.ensures.place ∙ c.in-Some.is) in
    subst (λ (cs : List Custom). IsPut c.args.keep m (record m { customs = cs }) c.args.kept.now c.replace_bytes.result c.replace_bytes.new.parts
    c.replace_bytes.new.kept) (sym same) c.replace_bytes.ensures

pub returns-in-None : goal.returns-in-None
returns-in-None c =
    let m = c.args.parts.now in
    let same = put_last c.args.name.now c.args.bytes.now m.customs (sym c.find_custom.ensures.place ∙ c.in-None.is) in
    subst (λ (cs : List Custom). IsPut c.args.keep m (record m { customs = cs }) c.args.kept.now c.append_custom.result c.append_custom.new.parts
    c.append_custom.new.kept) (sym same) c.append_custom.ensures
