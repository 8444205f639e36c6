use Rattle.std.proofs.Common.{◌≡◌, ◌≢◌, ◌≤◌, Bool, List, ℕ, if◌then◌else◌, length, slice_index_or, sym, ap, subst, ◌∙◌, arith}
use Rattle.std.proofs.lemmas.Bool.{ne_eqb}
use Rattle.wk_bytes.specs.Frames.{limit}
use Rattle.wk_module.specs.Writing.{section_of}
use Rattle.wk_pieces.specs.Pieces.{code_section, framed_some}
use Rattle.wk_pieces.specs.Recoded.{section_with}
use Rattle.wk_pieces.proofs.Putting.{framed_within, piece_at, section_framed}
use Rattle.wk_pieces.proofs.written.put_section_of.Given.{Over}
use Rattle.wk_pieces.proofs.written.put_section_of.Goals as goal
use Rattle.wk_pieces.proofs.written.put_section_of.Goals.{After-index}

pub put_code_section-requires-clause-few : goal.put_code_section-requires-clause-few
put_code_section-requires-clause-few g c =
    subst (λ (id : ℕ). length (section_with c.args.parts.now c.args.codes.now id) ≤ limit) c.if-id-eq-CODE.true c.requires.few

pub returns-then-id-eq-CODE-clause-taken : goal.returns-then-id-eq-CODE-clause-taken
returns-then-id-eq-CODE-clause-taken g c = rw c.if-id-eq-CODE.true c.put_code_section.ensures.taken

section_is : (g : Over) (c : After-index g) → section_with c.args.parts.now c.args.codes.now c.args.id ≡ framed_some c.args.id c.index.result.now
section_is g c =
    let m = c.args.parts.now in
    let id = c.args.id in
    let piece = c.index.result.now in
    let other : id ≢ 10 = λ same. absurd (omega (arith, same, c.if-id-eq-CODE.false)) in
    let at = c.index.ensures ∙ ap (λ (ps : List (List ℕ)). slice_index_or ps id piece) c.requires.sections in
    ap (λ (b : Bool). if b then code_section c.args.codes.now else section_of m id) (ne_eqb id 10 other)
    ∙ section_framed m id other
    ∙ ap (framed_some id) (sym (piece_at m id piece c.requires.id at))

pub put_section-requires-clause-few : goal.put_section-requires-clause-few
put_section-requires-clause-few g c =
    let is = section_is g (goal.at.put_section-requires-clause-few g c).After-index in
    omega (arith, c.requires.few, ap length is, framed_within c.args.id c.index.result.now)

pub returns-clause-taken : goal.returns-clause-taken
returns-clause-taken g c = rw (section_is g (goal.at.returns-clause-taken g c).After-index) c.put_section.ensures.taken
