use Rattle.std.proofs.Common.{◌≡◌, ℕ, List, length, map, set, ap, sym, ◌∙◌, refl, arith}
use Rattle.std.proofs.lemmas.Result.{err_from_is_err_and}
use Rattle.wk_body.specs.Lengths.{limited}
use Rattle.wk_module.specs.Changes.{with_body}
use Rattle.wk_module.specs.ChangeLaws.{body_formed}
use Rattle.wk_module.specs.NumberedLaws.{funcs_numbered}
use Rattle.wk_pieces.specs.Pieces.{codes_size, entries_size, section_pieces}
use Rattle.wk_pieces.proofs.Piecing.{codes_within, entries_codes}
use Rattle.wk_session.proofs.EntryEdits.{codes_large, codes_len_is}
use Rattle.wk_session.proofs.BodyEdits.{body_sections, body_unencoded, codes_given, length-given}
use Rattle.wk_session.proofs.Keeping.{kept_fits}
use Rattle.wk_session.proofs.edits.body.planned_body.Goals as goal
use Rattle.wk_session.proofs.edits.body.planned_body.Goals.{After-codes_len_with}

pub returns-in_err-code-clause-planned : goal.returns-in_err-code-clause-planned
returns-in_err-code-clause-planned c =
    let f = c.in_err-code.field-0.0 in
    let p = err_from_is_err_and c.from_residual.result c.from_residual.ensures.1 in
    rw (p.1, p.2) (body_unencoded c.args.basis.keep c.args.entry c.args.body.now c.args.basis.parts.now c.args.ty f c.requires.shaped.formed.order
    c.requires.ty c.requires.within c.in_err-code.ensures.code)

pub codes_len_with-requires-clause-len : goal.codes_len_with-requires-clause-len
codes_len_with-requires-clause-len c =
    c.requires.kept.pieces.codes_len ∙ sym (entries_codes c.args.basis.parts.now.funcs) ∙ ap entries_size (sym c.requires.kept.pieces.codes)

pub codes_len_with-requires-clause-fits : goal.codes_len_with-requires-clause-fits
codes_len_with-requires-clause-fits c =
    let m = c.args.basis.parts.now in
    omega (arith, c.requires.kept.pieces.codes_len, codes_within m, kept_fits m c.args.basis.kept.now c.requires.kept)

-- the length of all codes with the one that is another
codes_are : (c : After-codes_len_with) → c.codes_len_with.result ≡ limited (codes_size (with_body c.args.entry c.args.body.now c.args.basis.parts.now).funcs)
codes_are c =
    let m = c.args.basis.parts.now in
    let codes = c.args.basis.kept.now.pieces.codes.items in
    c.codes_len_with.ensures
    ∙ ap (λ (code : List ℕ). limited (entries_size (set codes c.args.entry code))) c.in_ok-code.ensures.code
    ∙ ap limited (codes_given c.args.entry c.args.body.now m.funcs c.args.ty codes c.requires.ty c.requires.kept.pieces.codes)

pub returns-in_default-clause-planned : goal.returns-in_default-clause-planned
returns-in_default-clause-planned c =
    let at = (goal.at.returns-in_default-clause-planned c).After-codes_len_with in
    λ other. codes_large c.args.basis.keep (with_body c.args.entry c.args.body.now c.args.basis.parts.now) c.requires.shaped.formed.order
    (sym c.in_default.is ∙ codes_are at)

pub module_len-len-requires : goal.module_len-len-requires
module_len-len-requires c = omega (arith, c.len.ensures, funcs_numbered c.args.basis.parts.now c.requires.shaped.formed)

-- the sections stay
sections_are : (c : After-codes_len_with) → c.args.basis.kept.now.pieces.sections.items
    ≡ section_pieces (with_body c.args.entry c.args.body.now c.args.basis.parts.now)
sections_are c = body_sections c.args.entry c.args.body.now c.args.basis.parts.now c.args.basis.kept.now.pieces.sections.items c.requires.kept.pieces.sections

pub sizes_of-sizes-requires : goal.sizes_of-sizes-requires
sizes_of-sizes-requires c = ap length c.requires.kept.pieces.sections

pub judged_body-requires-clause-len : goal.judged_body-requires-clause-len
judged_body-requires-clause-len c =
    let m = c.args.basis.parts.now in
    let n = with_body c.args.entry c.args.body.now m in
    let at = goal.at.judged_body-requires-clause-len c in
    let codes = codes_len_is n _ _ c.in-Some.is (codes_are at.After-codes_len_with) in
    let count : c.len.result ≡ length n.funcs = omega (arith, c.len.ensures, length-given c.args.entry c.args.body.now m.funcs c.args.ty c.requires.ty) in
    let sizes = c.sizes_of-sizes.ensures ∙ ap (map length) (sections_are at.After-codes_len_with) in
    c.module_len-len.ensures n c.requires.shaped.formed.order sizes count codes c.requires.kept.pieces.customs_len

pub returns-in_err-verdicts-clause-planned : goal.returns-in_err-verdicts-clause-planned
returns-in_err-verdicts-clause-planned c =
    let p = err_from_is_err_and c.from_residual-in_err-verdicts.result c.from_residual-in_err-verdicts.ensures.1 in
    rw (p.1, p.2) c.in_err-verdicts.ensures.judged

pub returns-clause-planned : goal.returns-clause-planned
returns-clause-planned c =
    let at = goal.at.returns-clause-planned c in
    record {
      formed = body_formed c.args.entry c.args.body.now c.args.basis.parts.now c.requires.valid c.requires.shaped.formed;
      appraised = c.in_ok-verdicts.ensures.judged.1;
      uses = c.in_ok-uses.ensures (record { ty = c.args.ty; body = c.args.body.now }) refl refl;
      verdicts = c.in_ok-verdicts.ensures.judged.0;
      code = c.in_ok-code.ensures.code;
      codes_len = codes_len_is (with_body c.args.entry c.args.body.now c.args.basis.parts.now) _ _ c.in-Some.is (codes_are at.After-codes_len_with);
      encoded = c.in_ok-code.ensures.made;
      made = refl;
    }
