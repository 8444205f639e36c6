use Rattle.std.proofs.Common.{◌≡◌, ◌≤◌, List, length, slice_index_or, refl, sym, ap, ◌∙◌, arith}
use Rattle.wk_body.specs.Lengths.{limited}
use Rattle.wk_body.specs.LengthsLaws.{limited_some, limited_none}
use Rattle.wk_module.specs.declared.types.Custom.{Custom}
use Rattle.wk_module.specs.Writing.{encoded}
use Rattle.wk_module.specs.WritingLaws.{custom_within, written_frame}
use Rattle.wk_session.specs.Edits.{with_bytes}
use Rattle.wk_session.proofs.CustomPuts.{length_bytes}
use Rattle.wk_session.proofs.edits.custom.len_with_bytes.Goals as goal
use Rattle.wk_session.proofs.edits.custom.len_with_bytes.Goals.{After-frame_len}

-- the custom at the index, and its length
at : (c : After-frame_len) → c.index-as_slice-index.result ≡ slice_index_or c.args.parts.now.customs c.args.index c.index-as_slice-index.result
at c = c.index-as_slice-index.is ∙ ap (λ (cs : List Custom). slice_index_or cs c.args.index c.index-as_slice-index.result) c.as_slice.ensures

within : (c : After-frame_len) → length (written_frame c.index-as_slice-index.result) ≤ length (encoded c.args.parts.now)
within c = custom_within c.args.parts.now c.args.index c.index-as_slice-index.result c.requires.within (at c) c.requires.order

pub unreachable-requires : goal.unreachable-requires
unreachable-requires c =
    let d = c.index-as_slice-index.result in
    let none = limited_none (length (written_frame d)) (sym c.in_default.is ∙ c.frame_len.ensures d refl (sym c.len.ensures)) in
    let fits = limited_some _ _ (sym c.requires.len) in
    absurd (omega (arith, none, fits.0, fits.1, within (goal.at.unreachable-requires c).After-frame_len))

pub exchange-requires-clause-old : goal.exchange-requires-clause-old
exchange-requires-clause-old c =
    let d = c.index-as_slice-index.result in
    let old = limited_some _ _ (sym c.in-Some.is ∙ c.frame_len.ensures d refl (sym c.len.ensures)) in
    let fits = limited_some _ _ (sym c.requires.len) in
    omega (arith, old.0, fits.0, within (goal.at.exchange-requires-clause-old c).After-frame_len)

pub returns : goal.returns
returns c =
    let d = c.index-as_slice-index.result in
    let bytes = c.args.bytes.now in
    let old = limited_some _ _ (sym c.in-Some.is ∙ c.frame_len.ensures d refl (sym c.len.ensures)) in
    let fits = limited_some _ _ (sym c.requires.len) in
    let new = c.frame_len-2.ensures (with_bytes bytes d) refl (sym c.len-2.ensures) in
    let all = length_bytes c.args.index bytes c.args.parts.now d c.requires.order c.requires.within (at (goal.at.returns c).After-frame_len) in
    c.exchange.ensures (length (written_frame (with_bytes bytes d))) new
    ∙ ap limited (omega (arith, old.0, fits.0, all, within (goal.at.returns c).After-frame_len))
