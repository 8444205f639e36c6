use Rattle.std.proofs.Common.{◌≡◌, ◌<◌, ◌^◌, List, length, map, refl, sym, ap, subst, ◌∙◌, arith}
use Rattle.wk_body.specs.Lengths.{limited}
use Rattle.wk_module.specs.declared.types.Func.{Func}
use Rattle.wk_module.specs.declared.types.Parts.{Parts}
use Rattle.wk_module.specs.Listed.{listed}
use Rattle.wk_module.specs.NumberedLaws.{funcs_numbered}
use Rattle.wk_module.specs.Sections.{SectionLists}
use Rattle.wk_module.specs.Shape.{IsFormed, IsInOrderFrom}
use Rattle.wk_module.specs.Writing.{encoded, Fits}
use Rattle.wk_typing.specs.declared.fault.BodyVerdict.{BodyVerdict}
use Rattle.wk_check.specs.Flaws.{first_in}
use Rattle.wk_typing.specs.Faults.{body_flaw}
use Rattle.wk_check.specs.Spaces.{answer_in, spaces_of}
use Rattle.wk_check.specs.SpacesLaws.{answers_of}
use Rattle.wk_check.specs.Verdict.{func_verdict, module_verdict, verdict_around}
use Rattle.wk_pieces.specs.Pieces.{ArePieces}
use Rattle.wk_pieces.proofs.Putting.{codes_length}
use Rattle.wk_session.specs.Kept.{IsPending, uses_of}
use Rattle.wk_session.specs.Known.{AreKnown}
use Rattle.wk_session.proofs.KnownBodies.{told_bodies}
use Rattle.wk_session.proofs.Lent.{answers_in, lent, lent_is, numbered_lent, verdicts_few}
use Rattle.wk_module.specs.WritingLaws.{room_for_func}
use Rattle.wk_session.proofs.Appraising.{verdict_lent}
use Rattle.wk_session.proofs.cache.Cache.of.Goals as goal
use Rattle.wk_session.proofs.cache.Cache.of.Goals.{After-of-lists}

-- the lists that are lent are those of the module
lists_are : (c : After-of-lists) → listed c.of-lists.result ≡ lent c.args.module.now
lists_are c =
    lent_is c.parts-parts.result.now _ _ c.of-lists.ensures.lists (c.deref.ensures.value ∙ c.in_ok-types.ensures) ∙ ap lent c.parts-parts.ensures.value

pub entries_of-requires-clause-few : goal.entries_of-requires-clause-few
entries_of-requires-clause-few c = subst (λ (p : Parts). length p.funcs < 2 ^ 32) (sym c.parts-parts.ensures.value)
    (funcs_numbered c.args.module.now c.parts-parts.ensures.shaped.formed)

pub entries_of-requires-clause-told : goal.entries_of-requires-clause-told
entries_of-requires-clause-told c =
    let m = c.args.module.now in
    let lists = lists_are (goal.at.entries_of-requires-clause-told c).After-of-lists in
    subst (λ (l : SectionLists). AreKnown c.args.known.now (answer_in (spaces_of l)) c.parts-parts.result.now.funcs) (sym lists)
    (subst (λ (p : Parts). AreKnown c.args.known.now (answers_of m) p.funcs) (sym c.parts-parts.ensures.value)
    (told_bodies m c.args.known.now c.requires.known))

pub module_verdict_of-requires-clause-few : goal.module_verdict_of-requires-clause-few
module_verdict_of-requires-clause-few c =
    let p = c.parts-parts.result.now in
    let formed : IsFormed p = subst IsFormed (sym c.parts-parts.ensures.value) c.parts-parts.ensures.shaped.formed in
    verdicts_few p (answers_in (listed c.of-lists.result)) _ (c.deref-2.ensures.value ∙ c.in_ok-entries.ensures.verdicts) formed

pub module_verdict_of-requires-clause-numbered : goal.module_verdict_of-requires-clause-numbered
module_verdict_of-requires-clause-numbered c =
    let at = (goal.at.module_verdict_of-requires-clause-numbered c).After-of-lists in
    numbered_lent c.args.module.now _ (lists_are at) c.parts-parts.ensures.shaped.formed

pub of-requires-clause-types : goal.of-requires-clause-types
of-requires-clause-types c = c.deref-3.ensures.value ∙ c.in_ok-types.ensures

pub of-requires-clause-order : goal.of-requires-clause-order
of-requires-clause-order c = subst (λ (p : Parts). IsInOrderFrom 0 p.customs) (sym c.parts-parts.ensures.value) c.parts-parts.ensures.shaped.formed.order

pub of-requires-clause-fits : goal.of-requires-clause-fits
of-requires-clause-fits c = subst Fits (sym c.parts-parts.ensures.value) c.requires.fits

pub pieces_len-requires-clause-few : goal.pieces_len-requires-clause-few
pieces_len-requires-clause-few c =
    let m = c.args.module.now in
    let codes = subst (λ (p : Parts). ArePieces p c.in_ok-pieces.pieces) c.parts-parts.ensures.value c.in_ok-pieces.ensures in
    omega (arith, codes_length m c.in_ok-pieces.pieces.codes.items codes.codes, room_for_func m c.requires.fits)

pub returns : goal.returns
returns c =
    let m = c.args.module.now in
    let value = c.parts-parts.ensures.value in
    let lists = lists_are (goal.at.returns c).After-of-lists in
    let verdicts : c.in_ok-entries.entries.verdicts.items ≡ map (func_verdict (answers_of m)) m.funcs =
    c.in_ok-entries.ensures.verdicts
    ∙ ap (λ (l : SectionLists). map (func_verdict (answer_in (spaces_of l))) c.parts-parts.result.now.funcs) lists
    ∙ ap (λ (p : Parts). map (func_verdict (answers_of m)) p.funcs) value in
    let pending : IsPending c.of-lists.result c.in_ok-entries.entries.verdicts.items (limited (length (encoded m))) m = record {
      formed = c.parts-parts.ensures.shaped.formed;
      profile = c.of-lists.ensures.profile ∙ ap (λ (p : Parts). p.profile) value;
      lists = lists;
      verdicts = verdicts;
      len = refl;
    } in
    let pieces = subst (λ (p : Parts). ArePieces p c.in_ok-pieces.pieces) value c.in_ok-pieces.ensures in
    let code = ap (λ (vs : List BodyVerdict). first_in 10 0 (map body_flaw vs)) c.deref-2.ensures.value in
    let told = ap (verdict_around c.of-lists.result.profile (listed c.of-lists.result)) code ∙ verdict_lent c.of-lists.result _ _ m pending in
    record {
      verdict = c.in_ok-verdict.ensures (module_verdict m) told c.requires.known;
      len = sym (c.in_ok-len.ensures m c.parts-parts.ensures.shaped.formed.order pieces) ∙ c.in-Some.is;
      types = c.in_ok-types.ensures ∙ ap (λ (p : Parts). map (λ (f : Func). f.ty) p.funcs) value;
      verdicts = verdicts;
      refs = c.in_ok-entries.ensures.refs ∙ ap (λ (p : Parts). map uses_of p.funcs) value;
      pieces = pieces;
    }
