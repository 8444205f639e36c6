-- Local groups that are passed over, and the body that they and its instructions make.
use Rattle.std.proofs.Common.{◌≡◌, ℕ, ◌+◌, ◌-◌, ◌<◌, ◌≤◌, ◌^◌, List, [], ◌∷◌, ◌++◌, length, take, Ok, refl, sym, ap, subst, ◌∙◌, arith, length-append}
use Rattle.std.specs.List.{flat_map}
use Rattle.std.proofs.lemmas.List.{append-nil, take_all}
use Rattle.std.proofs.lemmas.List.Concat.{flat_map-append}
use Rattle.wk_bytes.specs.LebLaws.{IsBytes}
use Rattle.wk_bytes.specs.Short.{short}
use Rattle.wk_bytes.specs.Frames.{limit}
use Rattle.wk_bytes.specs.Span.{Span, u32_at}
use Rattle.wk_body.specs.declared.types.Profile.{Profile}
use Rattle.wk_body.specs.declared.types.LocalGroup.{LocalGroup}
use Rattle.wk_body.specs.declared.types.ValType.{ValType}
use Rattle.wk_body.specs.declared.reencoder.Reencoder.{Reencoder}
use Rattle.wk_body.specs.ValTypes.{valtype_byte, valtype_at}
use Rattle.wk_body.specs.Vectors.{written_vector}
use Rattle.wk_body.specs.Bodies.{BodyOf}
use Rattle.wk_body.specs.Tree.{Instrs}
use Rattle.wk_body.specs.Meaning.{IsAllReadAs}
use Rattle.wk_body.specs.Spelling.{SpellsBody}
use Rattle.wk_body.specs.Written.{written_expr, written_group, written_body}
use Rattle.wk_body.specs.Reading.{groups_at, expr_at, all_body_at}
use Rattle.wk_body.specs.TokenReading.{local_groups_at}
use Rattle.wk_body.specs.TokenReadingLaws.{body_read}
use Rattle.wk_body.specs.Reencoding.{Adds, Passes, Keeps, PassesGroups}
use Rattle.wk_body.proofs.Pieces.{valtype_takes}
use Rattle.wk_body.proofs.GroupLoop.{InGroups, groups_go_on, groups_end}
use Rattle.wk_body.proofs.Walking.{passed, adds_then}

pub valtype_kept : (ty : ValType) (from to : Reencoder) → IsBytes from.cursor.rest
    → (valtype_at from.cursor.end from.cursor.rest ≡ Ok (ty, to.cursor.rest)) × (to.cursor.end ≡ from.cursor.end) → to.pending.now ≡ from.pending.now
    → Keeps valtype_at ty (valtype_byte ty ∷ []) from to
valtype_kept ty from to fits read same = λ out.
    let t = valtype_takes from.cursor.end from.cursor.rest (ty, to.cursor.rest) fits read.0 in
    passed valtype_at ty (valtype_byte ty ∷ []) t.front out from to read t.parts same t.spelled

-- ---- the loop over groups

-- of `count` groups, so many are left behind groups that declare so many locals
abbrev pub GroupsPassed : ℕ → ℕ → ℕ → List ℕ → Reencoder → List ℕ → Reencoder → Type 0
GroupsPassed count left sum out from after to =
    (groups : List LocalGroup) × (length groups + left ≡ count)
    × InGroups groups left sum from.cursor to.cursor (groups_at count 0 from.cursor.end from.cursor.rest)
    × Adds (flat_map written_group groups) out from after to

pub groups_one : (count i sum n : ℕ) (ty : ValType) (out after last : List ℕ) (from at mid to : Reencoder) → i < count → sum + n < 2 ^ 32
    → GroupsPassed count (count - i) sum out from after at → Passes u32_at n (short n) after at last mid → Keeps valtype_at ty (valtype_byte ty ∷ []) mid to
    → GroupsPassed count (count - (i + 1)) (sum + n) out from last to
groups_one count i sum n ty out after last from at mid to lt few h p kept =
    let g : LocalGroup = record { count = n; ty = ty } in
    let q = kept last in
    let all = flat_map-append written_group h.0 (g ∷ []) ∙ ap (λ (b : List ℕ). flat_map written_group h.0 ++ b) (append-nil (written_group g)) in
    let one = adds_then (short n) (valtype_byte ty ∷ []) after last last at mid to p.adds q.adds in (
      h.0 ++ g ∷ [],
      omega (arith, h.1, length-append h.0 (g ∷ []), lt),
      groups_go_on h.0 count i sum n ty from.cursor at.cursor mid.cursor to.cursor _ lt h.2 p.is p.same_end few q.is q.same_end,
      subst (λ (b : List ℕ). Adds b out from last to) (sym all) (adds_then (flat_map written_group h.0) (written_group g) out after last from at to h.3 one),
    )

pub groups_done : (count i sum : ℕ) (out after : List ℕ) (from to : Reencoder) → count ≤ i → GroupsPassed count (count - i) sum out from after to
    → (groups : List LocalGroup) × PassesGroups count groups out from after to
groups_done count i sum out after from to le h =
    let none : count - i ≡ 0 = omega arith in
    (h.0, (omega (arith, h.1, none), record { is = groups_end h.0 (count - i) sum from.cursor to.cursor _ none h.2; same_end = h.2.same_end; adds = h.3 }))

-- ---- a body

locals_at : (count end : ℕ) (groups : List LocalGroup) (bytes counted rest : List ℕ) → u32_at end bytes ≡ Ok (count, counted)
    → groups_at count 0 end counted ≡ Ok (groups, rest) → local_groups_at end bytes ≡ Ok (groups, rest)
unfolding local_groups_at
locals_at count end groups bytes counted rest c g = rw (c, g) refl

pub locals_passed : (count : ℕ) (groups : List LocalGroup) (out between after : List ℕ) (from mid to : Reencoder) → length groups ≡ count
    → Passes u32_at count (short count) out from between mid → Passes (groups_at count 0) groups (flat_map written_group groups) between mid after to
    → Passes local_groups_at groups (written_vector written_group groups) out from after to
locals_passed count groups out between after from mid to long p q =
    let there : groups_at count 0 from.cursor.end mid.cursor.rest ≡ Ok (groups, to.cursor.rest) =
    ap (λ (end : ℕ). groups_at count 0 end mid.cursor.rest) (sym p.same_end) ∙ q.is in
    record {
      is = locals_at count from.cursor.end groups from.cursor.rest mid.cursor.rest to.cursor.rest p.is there;
      same_end = q.same_end ∙ p.same_end;
      adds = subst (λ (n : ℕ). Adds (short n ++ flat_map written_group groups) out from after to) (sym long)
          (adds_then (short count) (flat_map written_group groups) out between after from mid to p.adds q.adds);
    }

pub body_walked : (profile : Profile) (groups : List LocalGroup) (t : Instrs) (empty between after : List ℕ) (from mid to : Reencoder) → empty ≡ []
    → from.pending.now ≡ from.cursor.rest → Passes local_groups_at groups (written_vector written_group groups) empty from between mid
    → Passes (expr_at profile) t (written_expr t) between mid after to → to.cursor.rest ≡ []
    → (b : BodyOf) × (all_body_at profile from.cursor.end from.cursor.rest ≡ Ok b) × (after ++ to.pending.now ≡ written_body b)
body_walked profile groups t empty between after from mid to none whole p q all =
    let there : expr_at profile from.cursor.end mid.cursor.rest ≡ Ok (t, []) =
    ap (λ (end : ℕ). expr_at profile end mid.cursor.rest) (sym p.same_end) ∙ q.is ∙ ap (λ (r : List ℕ). Ok (t, r)) all in
    let h = adds_then (written_vector written_group groups) (written_expr t) empty between after from mid to p.adds q.adds []
    ([], whole, sym none ∙ sym (append-nil empty)) in
    let said : to.pending.now ≡ h.0 = h.1 ∙ ap (λ (r : List ℕ). h.0 ++ r) all ∙ append-nil h.0 in (
      record { groups = groups; instrs = t },
      body_read profile from.cursor.end from.cursor.rest mid.cursor.rest groups t p.is there,
      ap (λ (r : List ℕ). after ++ r) said ∙ sym h.2,
    )

-- ... and the pending bytes behind what is written
pub pending_written : (pending out after written : List ℕ) → out ++ pending ≡ written → after ≡ out ++ take (length pending - 0) pending → after ≡ written
pending_written pending out after written is more = more ∙ ap (λ (r : List ℕ). out ++ r) (take_all (length pending - 0) pending (omega arith)) ∙ is

-- a written form is no longer than a code that spells it
pub no_longer : (profile : Profile) (b : BodyOf) (code : Span) → IsBytes code.rest → code.end ≤ limit → length code.rest ≤ code.end
    → IsAllReadAs (SpellsBody profile) (all_body_at profile)
    → ((bytes : List ℕ) → SpellsBody profile b bytes → length (written_body b) ≤ length bytes) → all_body_at profile code.end code.rest ≡ Ok b
    → length (written_body b) ≤ limit
no_longer profile b code fits small within reading least is = omega (arith, least code.rest (reading.takes code.end code.rest b fits is), small, within)
