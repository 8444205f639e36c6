-- A module is longer than its draft by no more than the room for the deferred bodies.
use Rattle.std.proofs.Common.{◌≡◌, ℕ, ◌+◌, ◌*◌, ◌≤◌, Bool, true, false, List, [], ◌∷◌, length, refl, sym, ap, subst, arith, length-append}
use Rattle.std.proofs.lemmas.List.{length-map}
use Rattle.std.proofs.lemmas.List.Sums.{sum_by-cons}
use Rattle.std.specs.List.{flat_map, sum_by}
use Rattle.wk_bytes.specs.Frames.{limit}
use Rattle.wk_bytes.specs.Short.{short}
use Rattle.wk_body.specs.declared.references.Ref.{Ref}
use Rattle.wk_body.specs.declared.types.Profile.{Profile}
use Rattle.wk_body.specs.Written.{written_body}
use Rattle.wk_module.specs.declared.types.Func.{Func}
use Rattle.wk_module.specs.declared.types.Parts.{Parts}
use Rattle.wk_module.specs.Items.{IsCode, written_code}
use Rattle.wk_module.specs.Sections.{SectionId, FunctionSection, CodeSection, contents}
use Rattle.wk_module.specs.Shape.{lists_of, IsInOrderFrom}
use Rattle.wk_module.specs.Sizes.{body_size}
use Rattle.wk_module.specs.Writing.{written_section, encoded, Fits}
use Rattle.wk_typing.specs.Answers.{Found}
use Rattle.wk_check.specs.SpacesLaws.{answers_of}
use Rattle.wk_draft.specs.Drafts.{IsDeferred, AreDrafted, IsSketch, deferred_room}
use Rattle.wk_body.specs.declared.shifts.Shifts.{Shifts}
use Rattle.wk_body.specs.Shifts.{shifted_body}
use Rattle.wk_draft.proofs.SectionGrowth.{bodies_of, short_five, list_section, changed_section, only, length-encoded_more}
use Rattle.wk_draft.proofs.SketchTypes.{types_of}
use Rattle.wk_draft.proofs.ShiftedLengths.{body_tripled}

-- ---- codes

-- how many bytes a code may have whose body is deferred
abbrev room_of : Func → ℕ
room_of o = 3 * body_size o.body + 5

code_deferred : (profile : Profile) (A : Ref → Found) (s : Shifts) (o f g : Func) → IsDeferred profile A s o f g → room_of o ≤ limit
    → length (written_code f.body) ≤ room_of o
code_deferred profile A s o f g is_deferred few =
    let is : f.body ≡ shifted_body s o.body = ap (λ (h : Func). h.body) is_deferred.is in
    let code : IsCode profile (shifted_body s o.body) = subst (IsCode profile) is is_deferred.code in
    let most : body_size (shifted_body s o.body) ≤ 3 * body_size o.body = body_tripled s o.body code.1.0.in_range in
    let size : body_size f.body ≤ 3 * body_size o.body = omega (arith, ap body_size is, most) in
    omega (arith, size, short_five (body_size f.body) (omega arith), length-append (short (body_size f.body)) (written_body f.body))

-- The functions fs are those of gs with other bodies, whose codes have up to n bytes more.
record AreLonger (n : ℕ) (fs gs : List Func) : Type 0 where
  types : types_of fs ≡ types_of gs
  many : length fs ≡ length gs
  bytes : length (flat_map written_code (bodies_of fs)) ≤ length (flat_map written_code (bodies_of gs)) + n

-- one more that is longer by up to n
longer_more : (n most : ℕ) (f g : Func) (fs gs : List Func) → f.ty ≡ g.ty → length (written_code f.body) ≤ length (written_code g.body) + most
    → AreLonger n fs gs → AreLonger (most + n) (f ∷ fs) (g ∷ gs)
longer_more n most f g fs gs ty le more = record {
  types = let rest = more.types in cc;
  many = omega (arith, more.many);
  bytes = omega (
    arith,
    le,
    more.bytes,
    length-append (written_code f.body) (flat_map written_code (bodies_of fs)),
    length-append (written_code g.body) (flat_map written_code (bodies_of gs)),
  );
}

are_longer : (profile : Profile) (A : Ref → Found) (s : Shifts) (os : List Func) (deferred : List Bool) (fs gs : List Func)
    → AreDrafted profile A s os deferred fs gs → sum_by room_of os ≤ limit → AreLonger (sum_by room_of os) fs gs
are_longer profile A s [] [] fs gs same few = record {
  types = ap types_of same;
  many = ap length same;
  bytes = omega (arith, ap (λ (hs : List Func). length (flat_map written_code (bodies_of hs))) same);
}
are_longer profile A s (o ∷ os) (true ∷ deferred) (f ∷ fs) (g ∷ gs) drafted few =
    let all = sum_by-cons room_of o os in
    let is_deferred = drafted.0 in
    let ty : f.ty ≡ g.ty = sym (ap (λ (h : Func). h.ty) is_deferred.stands) in
    let le = code_deferred profile A s o f g is_deferred (omega arith) in
    let rest = are_longer profile A s os deferred fs gs drafted.1 (omega arith) in
    subst (λ (n : ℕ). AreLonger n (f ∷ fs) (g ∷ gs)) (sym all) (longer_more (sum_by room_of os) (room_of o) f g fs gs ty (omega (arith, le)) rest)
are_longer profile A s (o ∷ os) (false ∷ deferred) (f ∷ fs) (g ∷ gs) drafted few =
    let all = sum_by-cons room_of o os in
    let same : f ≡ g = drafted.0 in
    let le = ap (λ (h : Func). length (written_code h.body)) same in
    let rest = are_longer profile A s os deferred fs gs drafted.1 (omega arith) in
    subst (λ (n : ℕ). AreLonger n (f ∷ fs) (g ∷ gs)) (sym all)
    (longer_more (sum_by room_of os) (room_of o) f g fs gs (ap (λ (h : Func). h.ty) same) (omega (arith, le)) rest)
are_longer profile A s _ _ _ _ none few = absurd none

-- ---- modules

each_section : (n : ℕ) (m : Parts) (gs : List Func) → AreLonger n m.funcs gs
    → (k : SectionId) → length (written_section k (contents (lists_of m) k))
    ≤ length (written_section k (contents (lists_of (record m { funcs = gs })) k)) + only CodeSection (n + length (short n)) k
each_section n m gs longer FunctionSection = omega (arith, ap (λ (ts : List ℕ). length (list_section 3 short ts)) longer.types)
each_section n m gs longer CodeSection =
    let new = length-map m.funcs (λ (f : Func). f.body) in
    let old = length-map gs (λ (f : Func). f.body) in
    omega (arith, changed_section 10 written_code (bodies_of m.funcs) (bodies_of gs) n (omega (arith, longer.many, new, old)) longer.bytes)
each_section n m gs longer _ = omega arith

pub draft_longer : (s : Shifts) (os : List Func) (deferred : List Bool) (m d : Parts) → IsSketch s os deferred m d → deferred_room os ≤ limit
    → length (encoded m) ≤ length (encoded d) + deferred_room os
draft_longer s os deferred m d sketch few =
    let n = sum_by room_of os in
    let longer = are_longer m.profile (answers_of m) s os deferred m.funcs d.funcs sketch.funcs (omega arith) in
    let le = length-encoded_more m (record m { funcs = d.funcs }) (only CodeSection (n + length (short n))) refl (each_section n m d.funcs longer) in
    omega (arith, le, ap (λ (p : Parts). length (encoded p)) sketch.rest, short_five n (omega arith))

-- Where the draft has that room, the module fits.
pub draft_fits : (s : Shifts) (os : List Func) (deferred : List Bool) (m d : Parts) → IsSketch s os deferred m d → IsInOrderFrom 0 m.customs
    → length (encoded d) + deferred_room os ≤ limit → Fits m
draft_fits s os deferred m d sketch order room = omega (arith, room, draft_longer s os deferred m d sketch (omega arith))
