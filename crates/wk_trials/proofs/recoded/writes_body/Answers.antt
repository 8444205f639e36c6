use Rattle.std.proofs.Common.{◌≡◌, ◌≤◌, ◌<◌, ℕ, Option, Some, List, [], ◌∷◌, length, map, refl, ap, sym, ◌∙◌, arith, subst, slice_index_or}
use Rattle.wk_bytes.specs.Frames.{limit}
use Rattle.wk_body.specs.Bodies.{BodyOf}
use Rattle.wk_body.specs.LengthsLaws.{limited_some}
use Rattle.wk_body.specs.Written.{written_body}
use Rattle.wk_module.specs.declared.types.Func.{Func}
use Rattle.wk_module.specs.declared.types.Parts.{Parts}
use Rattle.wk_body.specs.Lengths.{limited}
use Rattle.wk_module.specs.Listed.{listed, listed_with}
use Rattle.wk_module.specs.Sections.{SectionLists}
use Rattle.wk_module.specs.Shape.{IsInOrderFrom}
use Rattle.wk_module.specs.Sizes.{AreListsOf}
use Rattle.wk_module.specs.Writing.{encoded}
use Rattle.wk_pieces.specs.Overlays.{with_items}
use Rattle.wk_pieces.specs.Pieces.{code_of}
use Rattle.wk_pieces.specs.Recoded.{encoded_with}
use Rattle.wk_pieces.specs.RecodedLaws.{recoded}
use Rattle.wk_trials.proofs.recoded.writes_body.Goals as goal

with_body : Parts → Func → BodyOf → Parts
with_body m f b = record m { funcs = record f { body = b } ∷ [] }

written : (m : Parts) (f : Func) (b : BodyOf) (code : List ℕ) (codes : List (Option (List ℕ))) → m.funcs ≡ f ∷ [] → code ≡ written_body b
    → codes ≡ Some code ∷ []
    → encoded_with m (with_items (map code_of m.funcs) codes) ≡ encoded (with_body m f b)
unfolding with_body
written m f b code codes is same are =
    ap (λ (cs : List (Option (List ℕ))). encoded_with m (with_items (map code_of m.funcs) cs)) are
    ∙ ap (λ (fs : List Func). encoded_with m (with_items (map code_of fs) (Some code ∷ []))) is
    ∙ ap (λ (c : List ℕ). encoded_with m (c ∷ [])) same
    ∙ recoded m (with_body m f b) refl (sym (ap (map (λ (g : Func). g.ty)) is))

one : (xs : List Func) (f : Func) → 1 ≤ length xs → length xs < 2 → f ≡ slice_index_or xs 0 f → xs ≡ f ∷ []
one [] f least most is = absurd (omega (arith, least))
one (x ∷ []) f least most is = ap (λ (g : Func). g ∷ []) (sym is)
one (x ∷ y ∷ zs) f least most is = absurd (omega (arith, most))

fits : (m : Parts) (f : Func) (b : BodyOf) (l : SectionLists) (len size : ℕ)
    → l ≡ listed_with (f.ty ∷ []) m → size ≡ length (written_body b) → IsInOrderFrom 0 m.customs
    → ((n : Parts) → AreListsOf l (size ∷ []) n → m.customs ≡ n.customs → IsInOrderFrom 0 n.customs → Some len ≡ limited (length (encoded n)))
    → length (encoded (with_body m f b)) ≤ limit
unfolding with_body
fits m f b l len size lists sized order measured =
    let n = with_body m f b in
    let are : AreListsOf l (size ∷ []) n = record { lists = lists; codes = ap (λ (k : ℕ). k ∷ []) sized } in
    (limited_some len (length (encoded n)) (measured n are refl order)).1

pub writes_codes-requires-clause-fits : goal.writes_codes-requires-clause-fits
writes_codes-requires-clause-fits c =
    let m = c.args.session.now in
    let f = c.func-item.result in
    let b = c.args.body.now in
    let value = c.parts-parts.ensures.value in
    let funcs : m.funcs ≡ f ∷ [] = sym (c.as_slice.ensures ∙ ap (λ (p : Parts). p.funcs) value)
    ∙ one c.as_slice.result.now f c.in-len1.len_at_least c.in-len1.len_below c.func-item.is in
    let lists = c.of.ensures.lists ∙ ap (listed_with (f.ty ∷ [])) value in
    let same = c.in-Ok.ensures.exact.0 in
    let short = fits m f b (listed c.of.result) c.in-Some._len c.len.result lists
    (c.len.ensures ∙ c.in-Ok.code.ok.0 ∙ ap length same) c.parts-parts.ensures.shaped.formed.order (rw value at c.in-Some.ensures) in
    subst (λ (bytes : List ℕ). length bytes ≤ limit)
    (sym (written m f b c.in-Ok.code.items c.in-Some-one_code.codes.items funcs same c.in-Some-one_code.ensures)) short
