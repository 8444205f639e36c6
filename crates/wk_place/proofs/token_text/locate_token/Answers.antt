use Rattle.std.proofs.Common.{◌∙◌, ap, arith}
use Rattle.wk_body.specs.ReadsLaws.{other_fault}
use Rattle.wk_place.specs.Seeking.{place_at}
use Rattle.wk_place.proofs.FoundPlaces.{place_found, place_nowhere, place_not_read}
use Rattle.wk_place.proofs.TokenTexts.{found_as, place_of, token_there}
use Rattle.wk_place.proofs.token_text.locate_token.Goals as goal

pub returns-in_ok-text_here-in-Some-found : goal.returns-in_ok-text_here-in-Some-found
returns-in_ok-text_here-in-Some-found c =
    let b = c.args.bytes.now in
    let p = c.args.fault.now.place in
    let there = c.in-Ok.ensures ∙ ap found_as c.in-Some-found.is in
    let here = place_found c.args.profile b p c.in-Some-found.code (λ i. omega (arith, c.type_inv.bytes i)) there in
    let named = token_there c.args.profile b p c.in-Some.field-0 c.in-Some-found.code c.in-Some.is here in
    (named.token, named.of, c.in_ok-text_here-in-Some-found.ensures named.token named.front named.later named.spelled named.parts)

pub returns-in-None : goal.returns-in-None
returns-in-None c t h =
    let b = c.args.bytes.now in
    let p = c.args.fault.now.place in
    let none = c.in-Ok.ensures ∙ ap found_as c.in-None.is in
    place_nowhere c.args.profile b p (λ i. omega (arith, c.type_inv.bytes i)) none h.place (place_of c.args.profile b p t h)

pub returns-in_default-kind : goal.returns-in_default-kind
returns-in_default-kind c t h =
    let b = c.args.bytes.now in
    let p = c.args.fault.now.place in
    let e = c.in-Err.fault in
    let bad = other_fault e e.kind (place_at c.args.profile b p) c.in_default-kind.not-Memory c.in-Err.ensures in
    place_not_read c.args.profile b p e (λ i. omega (arith, c.type_inv.bytes i)) bad h.place (place_of c.args.profile b p t h)
