use Rattle.std.proofs.Common.{◌≡◌, ◌<◌, ℕ, List, length, map, slice_index_or, sym, ap, ◌∙◌, arith}
use Rattle.std.proofs.lemmas.Bool.{ltb-true}
use Rattle.wk_module.specs.Sections.{CodeSection, of_number}
use Rattle.wk_module.specs.Shape.{lists_of}
use Rattle.wk_module.specs.Writing.{contents_by, section_contents}
use Rattle.wk_module.specs.WritingLaws.{room_for_func}
use Rattle.wk_pieces.proofs.Putting.{codes_length}
use Rattle.wk_session.proofs.Keeping.{kept_fits}
use Rattle.wk_session.proofs.Shaping.{code_contents_is, code_contents_fit, piece_fits}
use Rattle.wk_session.proofs.session.SessionShape.section_len.Goals as goal
use Rattle.wk_session.proofs.session.SessionShape.section_len.Goals.{After-code_contents}

pub code_contents-requires : goal.code_contents-requires
code_contents-requires c =
    let m = c.self.inside.module in
    let k = c.self.inside.kept in
    let fits = kept_fits m k c.self.invariant in
    omega (arith, c.len.ensures, k.pieces.codes.ok.0, codes_length m k.pieces.codes.items c.self.invariant.pieces.codes, room_for_func m fits)

is : (c : After-code_contents) → c.code_contents.result ≡ length (section_contents CodeSection (map (λ f. f.body) c.self.inside.module.funcs))
is c =
    let k = c.self.inside.kept in
    code_contents_is c.self.inside.module k.pieces c.len.result c.code_contents.result c.self.invariant.pieces
    (c.len.ensures ∙ k.pieces.codes.ok.0) c.code_contents.ensures

pub overflow_cast-result : goal.overflow_cast-result
overflow_cast-result c =
    let m = c.self.inside.module in
    let fits = kept_fits m c.self.inside.kept c.self.invariant in
    omega (arith, is (goal.at.overflow_cast-result c).After-code_contents, code_contents_fit m fits)

pub returns-then-id-eq-CODE : goal.returns-then-id-eq-CODE
returns-then-id-eq-CODE c =
    rw (← c.self.view_is) (is (goal.at.returns-then-id-eq-CODE c).After-code_contents
    ∙ ap (λ id. length (contents_by (lists_of c.self.inside.module) (of_number id))) (sym c.if-id-eq-CODE.true))

pub overflow_cast-result-in-Some : goal.overflow_cast-result-in-Some
overflow_cast-result-in-Some c =
    let m = c.self.inside.module in
    let k = c.self.inside.kept in
    let fits = kept_fits m k c.self.invariant in
    let piece = c.in-Some.contents.now in
    let found = c.in-Some.ensures.lookup in
    let within : c.args.id < length k.pieces.sections.items =
    omega (arith, ltb-true c.args.id (length c.deref.result.now) (sym found.0), ap length c.deref.ensures.value) in
    let at = found.1 ∙ ap (λ (ps : List (List ℕ)). slice_index_or ps c.args.id piece) c.deref.ensures.value in
    omega (arith, c.len-in-Some.ensures, piece_fits m k.pieces c.args.id piece c.self.invariant.pieces fits within at)
