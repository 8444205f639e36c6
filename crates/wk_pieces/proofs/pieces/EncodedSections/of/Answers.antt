use Rattle.std.proofs.Common.{◌≡◌, ℕ, List, length, map, sym, ap, ◌∙◌, arith}
use Rattle.wk_body.specs.LengthsLaws.{limited_some, limited_none}
use Rattle.wk_module.specs.Listed.{listed, listed_with}
use Rattle.wk_module.specs.Sections.{SectionLists, of_number}
use Rattle.wk_module.specs.Writing.{contents_by}
use Rattle.wk_pieces.specs.Pieces.{contents_of, entries_size}
use Rattle.wk_pieces.proofs.Piecing.{section_within, codes_within, customs_within, entries_codes}
use Rattle.wk_pieces.proofs.pieces.EncodedSections.of.Goals as goal
use Rattle.wk_pieces.proofs.pieces.EncodedSections.of.Goals.{After-of, in_default-via-in-Some+in_default, in_default-via-in_default}

lent : (c : After-of) → listed c.of.result ≡ listed_with (map (λ f. f.ty) c.args.parts.now.funcs) c.args.parts.now
lent c = c.of.ensures.lists ∙ ap (λ (ts : List ℕ). listed_with ts c.args.parts.now) c.requires.types

pub sections_of-requires : goal.sections_of-requires
sections_of-requires c =
    λ id. omega (
      arith,
      c.requires.fits,
      section_within id c.args.parts.now,
      ap (λ (l : SectionLists). length (contents_by l (of_number id))) (lent (goal.at.sections_of-requires c).After-of),
    )

pub unreachable-requires : goal.unreachable-requires
unreachable-requires c =
    let m = c.args.parts.now in
    elim c.in_default.branch [
      | in_default-via-in-Some+in_default w ↦ absurd
          (omega (arith, limited_none _ (sym w.in_default.is-1 ∙ c.customs_len.ensures), customs_within m c.requires.order, c.requires.fits))
      | in_default-via-in_default w ↦ absurd
          (omega (
            arith,
            limited_none _ (sym w.in_default.is-0 ∙ c.codes_len.ensures),
            ap entries_size c.requires.codes,
            entries_codes m.funcs,
            codes_within m,
            c.requires.fits,
          ))
    ]

pub returns : goal.returns
returns c =
    let m = c.args.parts.now in
    let codes = limited_some _ _ (sym c.in-Some-Some.is-0 ∙ c.codes_len.ensures) in
    let customs = limited_some _ _ (sym c.in-Some-Some.is-1 ∙ c.customs_len.ensures) in
    record {
      sections = c.in_ok-sections.ensures ∙ ap contents_of (lent (goal.at.returns c).After-of);
      codes = c.requires.codes;
      codes_len = codes.0 ∙ ap entries_size c.requires.codes ∙ entries_codes m.funcs;
      customs_len = customs.0;
    }
