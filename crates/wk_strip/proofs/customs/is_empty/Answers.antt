use Rattle.std.proofs.Common.{ℕ, List, [], length, eqb, sym, ap, ◌∙◌, append-nil}
use Rattle.std.proofs.lemmas.Bool.{eqb-true, eq-eqb}
use Rattle.wk_bytes.specs.Frames.{frame_of}
use Rattle.wk_bytes.specs.Raw.{raw_view}
use Rattle.wk_strip.proofs.Staying.{empty_decides, only_count}
use Rattle.wk_strip.proofs.customs.is_empty.Goals as goal

pub returns-in_default : goal.returns-in_default
returns-in_default c =
    let contents = c.args.section.now.contents.now in
    (λ t. absurd cc, λ is. absurd ((rw c.cursor-cursor.ensures at c.in_default.ensures.spelling.0) contents [] 0 is.none (sym (append-nil contents))))

pub returns-then-count-eq0 : goal.returns-then-count-eq0
returns-then-count-eq0 c =
    let s = c.in-Ok.ensures.spelling in
    empty_decides (frame_of (raw_view c.args.section.now)) s.0 _ _ _ s.1
    (rw c.cursor-cursor.ensures at s.2) c.if-section-eq-START.false c.if-count-eq0.true
    (c.is_empty.ensures ∙ ap (λ (xs : List ℕ). eqb (length xs) 0) c.rest.ensures)

pub returns-else-count-eq0 : goal.returns-else-count-eq0
returns-else-count-eq0 c =
    let s = c.in-Ok.ensures.spelling in (
      λ t. absurd (c.if-count-eq0.false (eqb-true c.in-Ok.count 0 t)),
      λ is. eq-eqb c.in-Ok.count 0 (only_count (frame_of (raw_view c.args.section.now)) s.0 _ _ s.1 (rw c.cursor-cursor.ensures at s.2) is).0,
    )
