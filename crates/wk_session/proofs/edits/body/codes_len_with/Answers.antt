use Rattle.std.proofs.Common.{◌≡◌, ◌+◌, ◌-◌, set, length, sym, ap, refl, ◌∙◌, arith, zero-add}
use Rattle.wk_body.specs.Lengths.{limited}
use Rattle.wk_body.specs.LengthsLaws.{limited_none, limited_some}
use Rattle.wk_module.specs.Sizes.{entry_size}
use Rattle.wk_pieces.specs.Pieces.{entries_size}
use Rattle.wk_pieces.proofs.Piecing.{limited_within}
use Rattle.wk_session.proofs.BodyEdits.{entries_set, entry_within}
use Rattle.wk_session.proofs.edits.body.codes_len_with.Goals as goal
use Rattle.wk_session.proofs.edits.body.codes_len_with.Goals.{In-Some}

pub unreachable-requires : goal.unreachable-requires
unreachable-requires c =
    omega (
      arith,
      limited_none (entry_size (length c.index.result.now))
          (sym c.in_default.is ∙ c.plus_code.ensures 0 refl ∙ ap limited (zero-add (entry_size (length c.index.result.now)))),
      entry_within c.args.pieces.now.codes.items c.args.entry c.index.result.now c.requires.within c.index.ensures,
      c.requires.len,
      c.requires.fits,
    )

before_is : (c : In-Some) → c.in-Some.before ≡ entry_size (length c.index.result.now)
before_is c = (limited_some c.in-Some.before (entry_size (length c.index.result.now))
    (sym c.in-Some.is ∙ c.plus_code.ensures 0 refl ∙ ap limited (zero-add (entry_size (length c.index.result.now))))).0

pub overflow_sub-pieces : goal.overflow_sub-pieces
overflow_sub-pieces c =
    let at = (goal.at.overflow_sub-pieces c).In-Some in
    omega (arith, before_is at, entry_within c.args.pieces.now.codes.items c.args.entry c.index.result.now c.requires.within c.index.ensures, c.requires.len)

pub returns : goal.returns
returns c =
    let codes = c.args.pieces.now.codes.items in
    let before = before_is (goal.at.returns c).In-Some in
    let others = c.args.pieces.now.codes_len - c.in-Some.before in
    let less = entry_within codes c.args.entry c.index.result.now c.requires.within c.index.ensures in
    let all : others + entry_size (length c.args.code.now) ≡ entries_size (set codes c.args.entry c.args.code.now) =
    omega (arith, before, less, c.requires.len, entries_set codes c.args.entry c.index.result.now c.args.code.now c.requires.within c.index.ensures) in
    c.plus_code-2.ensures others (limited_within others (omega (arith, c.requires.fits))) ∙ ap limited all
