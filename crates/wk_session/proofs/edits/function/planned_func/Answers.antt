use Rattle.std.proofs.Common.{◌≡◌, ◌+◌, ℕ, List, length, ap, sym, ◌∙◌, refl, arith}
use Rattle.std.proofs.lemmas.Result.{err_from_is_err_and}
use Rattle.std.proofs.lemmas.List.{length-map}
use Rattle.wk_body.specs.Lengths.{limited}
use Rattle.wk_module.specs.Changes.{with_func}
use Rattle.wk_module.specs.NumberedLaws.{funcs_numbered}
use Rattle.wk_module.specs.Shape.{IsFormed}
use Rattle.wk_module.specs.Sizes.{entry_size}
use Rattle.wk_pieces.specs.Pieces.{codes_size}
use Rattle.wk_session.proofs.EntryEdits.{codes_kept, codes_large, codes_len_is, codes_more, formed_with_func, func_unencoded, types_with}
use Rattle.wk_session.proofs.LongerLists.{func_longer, item_told, longer_by}
use Rattle.wk_session.proofs.Outcomes.{told_fits}
use Rattle.wk_session.proofs.edits.function.planned_func.Goals as goal
use Rattle.wk_session.proofs.edits.function.planned_func.Goals.{After-plus_code}

formed : (c : After-plus_code) → IsFormed (with_func c.args.ty c.args.body.now c.args.basis.parts.now)
formed c =
    formed_with_func c.args.ty c.args.body.now c.args.basis.parts.now c.args.basis.kept.now c.requires.kept c.ranges.ty.fits c.requires.valid
    c.requires.shaped.formed

-- the length of all codes is that of those before and of the one that comes
codes_are : (c : After-plus_code) → c.plus_code.result ≡ limited (codes_size (with_func c.args.ty c.args.body.now c.args.basis.parts.now).funcs)
codes_are c =
    let m = c.args.basis.parts.now in
    let k = c.args.basis.kept.now in
    c.plus_code.ensures (codes_size m.funcs) (codes_kept m k.pieces (told_fits m k.len c.requires.kept.len) c.requires.kept.pieces)
    ∙ ap (λ (code : List ℕ). limited (codes_size m.funcs + entry_size (length code))) c.in_ok-code.ensures.code
    ∙ ap limited (sym (codes_more m.funcs (record { ty = c.args.ty; body = c.args.body.now })))

-- as many types as functions
types_count : (c : After-plus_code) → length c.args.basis.kept.now.types.items ≡ length (with_func c.args.ty c.args.body.now c.args.basis.parts.now).funcs
types_count c =
    let m = c.args.basis.parts.now in
    let n = with_func c.args.ty c.args.body.now m in
    ap length (types_with c.args.ty c.args.body.now m c.args.basis.kept.now.types.items c.requires.kept.types) ∙ length-map n.funcs (λ f. f.ty)

pub returns-in_err-code-clause-planned : goal.returns-in_err-code-clause-planned
returns-in_err-code-clause-planned c =
    let f = c.in_err-code.field-0.0 in
    let p = err_from_is_err_and c.from_residual.result c.from_residual.ensures.1 in
    rw (p.1, p.2) (func_unencoded c.args.basis.keep c.args.ty c.args.body.now c.args.basis.parts.now f c.requires.shaped.formed.order
    c.in_err-code.ensures.code)

pub returns-in_default-clause-planned : goal.returns-in_default-clause-planned
returns-in_default-clause-planned c =
    let at = goal.at.returns-in_default-clause-planned c in
    λ other. codes_large c.args.basis.keep (with_func c.args.ty c.args.body.now c.args.basis.parts.now) c.requires.shaped.formed.order
    (sym c.in_default.is ∙ codes_are at.After-plus_code)

pub len_grown-len-requires-clause-sections : goal.len_grown-len-requires-clause-sections
len_grown-len-requires-clause-sections c = ap length c.requires.kept.pieces.sections

pub len_grown-len-requires-clause-id : goal.len_grown-len-requires-clause-id
len_grown-len-requires-clause-id c = omega (arith, c.requires.item.id_is)

pub item_len-requires : goal.item_len-requires
item_len-requires c = c.requires.item.few

pub len_grown-len-requires-clause-funcs : goal.len_grown-len-requires-clause-funcs
len_grown-len-requires-clause-funcs c =
    let at = (goal.at.len_grown-len-requires-clause-funcs c).After-plus_code in
    omega (arith, c.len.ensures, types_count at, funcs_numbered (with_func c.args.ty c.args.body.now c.args.basis.parts.now) (formed at))

pub judged_func-requires-clause-len : goal.judged_func-requires-clause-len
judged_func-requires-clause-len c =
    let n = with_func c.args.ty c.args.body.now c.args.basis.parts.now in
    let at = goal.at.judged_func-requires-clause-len c in
    let codes = codes_len_is n _ _ c.in-Some.is (codes_are at.After-plus_code) in
    let count : c.len.result ≡ length n.funcs = omega (arith, c.len.ensures, types_count at.After-plus_code) in
    let m = c.args.basis.parts.now in
    let item = c.args.item.now in
    let longer = longer_by _ _ _ c.args.basis.kept.now.pieces.sections.items n item c.requires.item
    (func_longer c.args.ty c.args.body.now m c.args.basis.kept.now.pieces.sections.items c.requires.kept.pieces.sections) in
    let told = item_told item c.item_len.result c.requires.item.few c.item_len.ensures in
    c.len_grown-len.ensures n item.alone c.requires.shaped.formed.order longer told count codes c.requires.kept.pieces.customs_len

pub returns-in_err-verdicts-clause-planned : goal.returns-in_err-verdicts-clause-planned
returns-in_err-verdicts-clause-planned c =
    let p = err_from_is_err_and c.from_residual-in_err-verdicts.result c.from_residual-in_err-verdicts.ensures.1 in
    rw (p.1, p.2) c.in_err-verdicts.ensures.judged

pub returns-clause-planned : goal.returns-clause-planned
returns-clause-planned c =
    let at = goal.at.returns-clause-planned c in
    record {
      formed = formed at.After-plus_code;
      appraised = c.in_ok-verdicts.ensures.judged.1;
      uses = c.in_ok-uses.ensures (record { ty = c.args.ty; body = c.args.body.now }) refl refl;
      verdicts = c.in_ok-verdicts.ensures.judged.0;
      code = c.in_ok-code.ensures.code;
      codes_len = codes_len_is (with_func c.args.ty c.args.body.now c.args.basis.parts.now) _ _ c.in-Some.is (codes_are at.After-plus_code);
      encoded = c.in_ok-code.ensures.made;
      made = c.requires.item.made;
    }
