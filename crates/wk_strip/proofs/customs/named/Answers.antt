use Rattle.std.proofs.Common.{◌≡◌, ◌+◌, ◌≤◌, ℕ, List, length, true, refl, ap, ◌∙◌, arith}
use Rattle.std.specs.Prelude.{string_bytes}
use Rattle.std.specs.Str.{bytes_eq}
use Rattle.wk_bytes.specs.Span.{Span}
use Rattle.wk_module.specs.declared.types.Custom.{Custom}
use Rattle.wk_strip.proofs.Staying.{custom_of, custom_is, custom_has_name, sized, negated, affirmed, kept_by}
use Rattle.wk_strip.proofs.customs.named.Goals as goal

pub returns-in_default : goal.returns-in_default
returns-in_default c = λ c' is s. let bad = c.in_default.ensures.exact in
    absurd (custom_has_name c.args.place _ _ _ c' is s (rw c.cursor-cursor.ensures at bad.0))

pub returns-then-ne : goal.returns-then-ne
returns-then-ne c = λ c' is s.
    let read = c.in-Ok.ensures.exact in
    let found = custom_is c.args.place _ _ _ _ c' is s (rw c.cursor-cursor.ensures at read.0) in
    let same : c.in-Ok.found.now ≡ c'.name = ap (λ (d : Custom). d.name) found in
    let other = negated (bytes_eq c.in-Ok.found.now c.as_str.result.now) c.if-ne.ensures in
    rw (← same, ← c.as_str.ensures.value, other) refl

whole_size : (c : goal.After-leb_len_u32) → c.leb_len_u32.result + length c.in-Ok.found.now + length c.rest-bytes.result.now
    ≤ length c.args.section.now.contents.now
whole_size c =
    let s = c.in-Ok.ensures.spelling in
    omega (arith, sized _ s.0 _ _ s.1 s.2, c.leb_len_u32.ensures, ap length c.rest-bytes.ensures, ap (λ (p : Span). length p.rest) c.cursor-cursor.ensures)

pub overflow_add-size : goal.overflow_add-size
overflow_add-size c = omega (arith, whole_size c, c.args.section.now.fits)

pub overflow_add-size-2 : goal.overflow_add-size-2
overflow_add-size-2 c = omega (arith, whole_size c, c.args.section.now.fits)

pub overflow_cast-result : goal.overflow_cast-result
overflow_cast-result c = omega (arith, whole_size c, c.args.section.now.fits)

pub returns : goal.returns
returns c = λ c' is s.
    let read = c.in-Ok.ensures.exact in
    let rest = rw (← c.rest-bytes.ensures) at read.0 in
    let found = custom_is c.args.place _ _ _ _ c' is s (rw c.cursor-cursor.ensures at rest) in
    let same : c.in-Ok.found.now ≡ c'.name = ap (λ (d : Custom). d.name) found in
    let named = affirmed (bytes_eq c.in-Ok.found.now c.as_str.result.now) c.if-ne.ensures in
    let passes : bytes_eq c'.name c.args.name.now ≡ true = rw (← same, ← c.as_str.ensures.value) named in
    let made : custom_of c.args.place (string_bytes c.in_ok-from_str.field-0) c.in_ok-from_slice.field-0.items
    ≡ custom_of c.args.place c.in-Ok.found.now c.rest-bytes.result.now =
    ap (λ (n : List ℕ). custom_of c.args.place n c.in_ok-from_slice.field-0.items) c.in_ok-from_str.ensures.ok
    ∙ ap (λ (b : List ℕ). custom_of c.args.place c.in-Ok.found.now b) c.in_ok-from_slice.ensures.items in
    kept_by (bytes_eq c'.name c.args.name.now) _ c' (made ∙ found) passes
