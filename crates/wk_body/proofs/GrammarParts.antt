-- Instructions that are read up to their end are spelled so.
use Rattle.std.proofs.Common.{◌≡◌, ℕ, zero, suc, ◌+◌, ◌≤◌, max, Bool, true, false, List, [], ◌∷◌, ◌++◌, length, Result, Ok, refl, sym, ap, subst, ◌∙◌}
use Rattle.std.proofs.Common.{append_assoc, arith, inl, inr}
use Rattle.std.specs.Prelude.{◌⊎◌}
use Rattle.wk_bytes.specs.declared.fault.ReadFault.{ReadFault}
use Rattle.wk_bytes.specs.LebLaws.{IsBytes, bind_ok}
use Rattle.wk_bytes.specs.SpanLaws.{ok_is}
use Rattle.wk_body.specs.declared.types.Profile.{Profile}
use Rattle.wk_body.specs.declared.types.BlockType.{BlockType}
use Rattle.wk_body.specs.declared.types.BlockKind.{BlockKind}
use Rattle.wk_body.specs.Instructions.{Plain}
use Rattle.wk_body.specs.Tree.{Instrs, Finish, Tok, Simple, Open, OpenIf, Otherwise, Close, Part, before, first_part}
use Rattle.wk_body.specs.Shape.{deep, depth_limit}
use Rattle.wk_body.specs.Spelling.{SpellsType, SpellsPlain, kind_byte, Spells, SpellsExpr}
use Rattle.wk_body.specs.Reading.{may_else, else_seen, token_at, after, With, in_front, then_on, parts_at, expr_at}
use Rattle.wk_body.proofs.Pieces.{Took}
use Rattle.wk_body.proofs.GrammarTokens.{SpellsTok, MayCome, token_takes}

-- ---- the parts of the open blocks

abbrev pub SpellsOther : Profile → Bool → Instrs → List ℕ → Type 0
SpellsOther profile k other d = ((other ≡ Finish) × (d ≡ [])) ⊎ ((k ≡ true) × (f : List ℕ) × Spells profile other f × (d ≡ 0x05 ∷ f))

-- the bytes spell the parts of the open blocks, each up to its end
abbrev pub SpellsParts : Profile → List Bool → List Part → List ℕ → Type 0
SpellsParts profile ks [] bytes = ⊥
SpellsParts profile [] (x ∷ xs) bytes = (a : List ℕ) × Spells profile x.rest a × (x.other ≡ Finish) × (bytes ≡ a ++ 0x0B ∷ []) × (deep x.rest ≤ depth_limit)
SpellsParts profile (k ∷ ks) (x ∷ xs) bytes = (a : List ℕ) × (d : List ℕ) × (c : List ℕ) × Spells profile x.rest a × SpellsOther profile k x.other d
    × SpellsParts profile ks xs c × (bytes ≡ a ++ (d ++ 0x0B ∷ c))
    × (suc (length ks) + max (deep x.rest) (deep x.other) ≤ depth_limit)

-- one more plain instruction in front
in_front_plain : (profile : Profile) (p : Plain) (ks : List Bool) (xs : List Part) (front bytes : List ℕ) → SpellsPlain profile p front
    → SpellsParts profile ks xs bytes → SpellsParts profile ks (before (Simple p) xs) (front ++ bytes)
in_front_plain profile p ks [] front bytes s q = q
in_front_plain profile p [] (x ∷ xs) front bytes s q =
    (front ++ q.0, (front, q.0, s, q.1, refl), q.2, ap (λ (b : List ℕ). front ++ b) q.3 ∙ sym (append_assoc front q.0 (0x0B ∷ [])), q.4)
in_front_plain profile p (k ∷ ks) (x ∷ xs) front bytes s q =
    (front ++ q.0, q.1, q.2, (front, q.0, s, q.3, refl), q.4, q.5, ap (λ (b : List ℕ). front ++ b) q.6 ∙ sym (append_assoc front q.0 (q.1 ++ 0x0B ∷ q.2)), q.7)

-- no else branch where none may come
no_other : (profile : Profile) (other : Instrs) (d : List ℕ) → SpellsOther profile false other d → (other ≡ Finish) × (d ≡ [])
no_other profile other d (inl p) = p
no_other profile other d (inr p) = absurd cc

seam : (a b c z bytes : List ℕ) (w : List ℕ) → bytes ≡ b ++ w → w ≡ c ++ z → a ++ bytes ≡ (a ++ (b ++ c)) ++ z
seam a b c z bytes w e f = rw (e, f) (simp append_assoc)

in_front_block : (profile : Profile) (kind : BlockKind) (ty : BlockType) (ks : List Bool) (xs : List Part) (a bytes : List ℕ) → SpellsType profile ty a
    → SpellsParts profile (false ∷ ks) xs bytes → SpellsParts profile ks (before (Open kind ty 0) xs) ((kind_byte kind ∷ a) ++ bytes)
in_front_block profile kind ty ks [] a bytes s q = absurd q
in_front_block profile kind ty ks (x ∷ []) a bytes s q = absurd q.5
in_front_block profile kind ty [] (x ∷ y ∷ ys) a bytes s q =
    let none = no_other profile x.other q.1 q.4 in
    let b = q.5 in
    let tail : q.1 ++ 0x0B ∷ q.2 ≡ (0x0B ∷ b.0) ++ (0x0B ∷ []) = rw (none.1, b.3) refl in (
      kind_byte kind ∷ (a ++ (q.0 ++ 0x0B ∷ b.0)),
      (a, q.0, b.0, s, q.3, b.1, refl),
      b.2,
      ap (λ (r : List ℕ). kind_byte kind ∷ r) (seam a q.0 (0x0B ∷ b.0) (0x0B ∷ []) bytes (q.1 ++ 0x0B ∷ q.2) q.6 tail),
      omega (arith, q.7, b.4),
    )
in_front_block profile kind ty (k ∷ ks) (x ∷ y ∷ ys) a bytes s q =
    let none = no_other profile x.other q.1 q.4 in
    let b = q.5 in
    let tail : q.1 ++ 0x0B ∷ q.2 ≡ (0x0B ∷ b.0) ++ (b.1 ++ 0x0B ∷ b.2) = rw (none.1, b.6) refl in (
      kind_byte kind ∷ (a ++ (q.0 ++ 0x0B ∷ b.0)),
      b.1,
      b.2,
      (a, q.0, b.0, s, q.3, b.3, refl),
      b.4,
      b.5,
      ap (λ (r : List ℕ). kind_byte kind ∷ r) (seam a q.0 (0x0B ∷ b.0) (b.1 ++ 0x0B ∷ b.2) bytes (q.1 ++ 0x0B ∷ q.2) q.6 tail),
      omega (arith, q.7, b.7),
    )

other_branch : (profile : Profile) (other : Instrs) (d : List ℕ) → SpellsOther profile true other d
    → ((other ≡ Finish) × (d ≡ [])) ⊎ ((f : List ℕ) × Spells profile other f × (d ≡ 0x05 ∷ f))
other_branch profile other d (inl p) = inl p
other_branch profile other d (inr p) = inr (p.1, p.2, p.3)

seam_if : (a b d c z bytes w : List ℕ) → bytes ≡ b ++ (d ++ w) → w ≡ c ++ z → a ++ bytes ≡ (a ++ (b ++ (d ++ c))) ++ z
seam_if a b d c z bytes w e f = rw (e, f) (simp append_assoc)

in_front_if : (profile : Profile) (ty : BlockType) (ks : List Bool) (xs : List Part) (a bytes : List ℕ) → SpellsType profile ty a
    → SpellsParts profile (true ∷ ks) xs bytes → SpellsParts profile ks (before (OpenIf ty 0) xs) ((0x04 ∷ a) ++ bytes)
in_front_if profile ty ks [] a bytes s q = absurd q
in_front_if profile ty ks (x ∷ []) a bytes s q = absurd q.5
in_front_if profile ty [] (x ∷ y ∷ ys) a bytes s q =
    let b = q.5 in
    let tail : 0x0B ∷ q.2 ≡ (0x0B ∷ b.0) ++ (0x0B ∷ []) = ap (λ (r : List ℕ). 0x0B ∷ r) b.3 in (
      0x04 ∷ (a ++ (q.0 ++ (q.1 ++ 0x0B ∷ b.0))),
      (a, q.0, q.1, b.0, s, q.3, other_branch profile x.other q.1 q.4, b.1, refl),
      b.2,
      ap (λ (r : List ℕ). 0x04 ∷ r) (seam_if a q.0 q.1 (0x0B ∷ b.0) (0x0B ∷ []) bytes (0x0B ∷ q.2) q.6 tail),
      omega (arith, q.7, b.4),
    )
in_front_if profile ty (k ∷ ks) (x ∷ y ∷ ys) a bytes s q =
    let b = q.5 in
    let tail : 0x0B ∷ q.2 ≡ (0x0B ∷ b.0) ++ (b.1 ++ 0x0B ∷ b.2) = ap (λ (r : List ℕ). 0x0B ∷ r) b.6 in (
      0x04 ∷ (a ++ (q.0 ++ (q.1 ++ 0x0B ∷ b.0))),
      b.1,
      b.2,
      (a, q.0, q.1, b.0, s, q.3, other_branch profile x.other q.1 q.4, b.3, refl),
      b.4,
      b.5,
      ap (λ (r : List ℕ). 0x04 ∷ r) (seam_if a q.0 q.1 (0x0B ∷ b.0) (b.1 ++ 0x0B ∷ b.2) bytes (0x0B ∷ q.2) q.6 tail),
      omega (arith, q.7, b.7),
    )

in_front_else : (profile : Profile) (ks : List Bool) (xs : List Part) (bytes : List ℕ) → may_else ks ≡ true
    → SpellsParts profile (else_seen ks) xs bytes → SpellsParts profile ks (before (Otherwise 0) xs) (0x05 ∷ bytes)
in_front_else profile [] xs bytes may q = absurd cc
in_front_else profile (k ∷ ks) [] bytes may q = absurd q
in_front_else profile (k ∷ ks) (x ∷ xs) bytes may q =
    let none = no_other profile x.other q.1 q.4 in (
      [],
      0x05 ∷ q.0,
      q.2,
      refl,
      inr (may, q.0, q.3, refl),
      q.5,
      ap (λ (r : List ℕ). 0x05 ∷ r) (q.6 ∙ ap (λ (d : List ℕ). q.0 ++ (d ++ 0x0B ∷ q.2)) none.1),
      omega (arith, q.7),
    )

-- ---- what is read is spelled so

-- the parts of the open blocks were read from the front
pub record Parted (profile : Profile) (ks : List Bool) (bytes : List ℕ) (x : With) : Type 0 where
  pub front : List ℕ
  pub spelled : SpellsParts profile ks x.0 front
  pub parts : bytes ≡ front ++ x.1
  pub rest_fits : IsBytes x.1

grow : (profile : Profile) (t : Tok) (ks : List Bool) (front bytes rest : List ℕ) (read : Result With ReadFault) (x : With) → in_front t read ≡ Ok x
    → bytes ≡ front ++ rest
    → ((y : With) → read ≡ Ok y → (b : List ℕ) × SpellsParts profile ks (before t y.0) (front ++ b) × (rest ≡ b ++ y.1) × IsBytes y.1)
    → Parted profile ks bytes x
grow profile t ks front bytes rest read x e parts step =
    let a = bind_ok read (λ y. Ok (before t y.0, y.1)) x e in
    let s = step a.0 a.1 in
    subst (Parted profile ks bytes) (ok_is (before t a.0.0, a.0.1) x a.2)
    (record { front = front ++ s.0; spelled = s.1; parts = parts ∙ ap (λ (r : List ℕ). front ++ r) s.2 ∙ sym (append_assoc front s.0 a.0.1); rest_fits = s.3 })

step_takes : (profile : Profile) (n : ℕ) (ks : List Bool) (t : Tok) (front bytes : List ℕ) (end : ℕ) (rest : List ℕ) (x : With) → bytes ≡ front ++ rest
    → length ks ≤ depth_limit → SpellsTok profile t front → MayCome ks t → IsBytes rest
    → ((next : List Bool) (y : With) → length next ≤ depth_limit → parts_at profile n next end rest ≡ Ok y → Parted profile next rest y)
    → then_on t rest (after t ks) (λ next. parts_at profile n next end rest) ≡ Ok x → Parted profile ks bytes x
step_takes profile n ks (Simple p) front bytes end rest x parts few s may fits more e =
    grow profile (Simple p) ks front bytes rest (parts_at profile n ks end rest) x e parts
    (λ y h. let q = more ks y few h in (q.front, in_front_plain profile p ks y.0 front q.front s q.spelled, q.parts, q.rest_fits))
step_takes profile n ks (Open kind ty skip) front bytes end rest x parts few s may fits more e =
    grow profile (Open kind ty skip) ks front bytes rest (parts_at profile n (false ∷ ks) end rest) x e parts
    (λ y h. let q = more (false ∷ ks) y (omega (arith, may)) h in (
      q.front,
      subst (λ (b : List ℕ). SpellsParts profile ks (before (Open kind ty 0) y.0) (b ++ q.front)) (sym s.3)
          (in_front_block profile kind ty ks y.0 s.1 q.front s.2 q.spelled),
      q.parts,
      q.rest_fits,
    ))
step_takes profile n ks (OpenIf ty skip) front bytes end rest x parts few s may fits more e =
    grow profile (OpenIf ty skip) ks front bytes rest (parts_at profile n (true ∷ ks) end rest) x e parts
    (λ y h. let q = more (true ∷ ks) y (omega (arith, may)) h in (
      q.front,
      subst (λ (b : List ℕ). SpellsParts profile ks (before (OpenIf ty 0) y.0) (b ++ q.front)) (sym s.3)
          (in_front_if profile ty ks y.0 s.1 q.front s.2 q.spelled),
      q.parts,
      q.rest_fits,
    ))
step_takes profile n [] (Otherwise skip) front bytes end rest x parts few s may fits more e = absurd cc
step_takes profile n (k ∷ ks) (Otherwise skip) front bytes end rest x parts few s may fits more e =
    grow profile (Otherwise skip) (k ∷ ks) front bytes rest (parts_at profile n (false ∷ ks) end rest) x e parts (λ y h. let q = more (false ∷ ks) y few h in (
      q.front,
      subst (λ (b : List ℕ). SpellsParts profile (k ∷ ks) (before (Otherwise 0) y.0) (b ++ q.front)) (sym s.1)
          (in_front_else profile (k ∷ ks) y.0 q.front may q.spelled),
      q.parts,
      q.rest_fits,
    ))
step_takes profile n [] Close front bytes end rest x parts few s may fits more e =
    subst (Parted profile [] bytes) (ok_is (before Close [], rest) x e)
    (record { front = 0x0B ∷ []; spelled = ([], refl, refl, refl, omega arith); parts = parts ∙ ap (λ (b : List ℕ). b ++ rest) s; rest_fits = fits })
step_takes profile n (k ∷ ks) Close front bytes end rest x parts few s may fits more e =
    grow profile Close (k ∷ ks) front bytes rest (parts_at profile n ks end rest) x e parts (λ y h. let q = more ks y (omega (arith, few)) h in (
      q.front,
      subst (λ (b : List ℕ). SpellsParts profile (k ∷ ks) (before Close y.0) (b ++ q.front)) (sym s)
          ([], [], q.front, refl, inl (refl, refl), q.spelled, refl, omega (arith, few)),
      q.parts,
      q.rest_fits,
    ))

parts_take : (profile : Profile) (n : ℕ) (ks : List Bool) (end : ℕ) (bytes : List ℕ) (x : With) → IsBytes bytes → length ks ≤ depth_limit
    → parts_at profile n ks end bytes ≡ Ok x → Parted profile ks bytes x
unfolding parts_at
parts_take profile zero ks end bytes x fits few e = absurd cc
parts_take profile (suc n) ks end bytes x fits few e =
    let a = bind_ok (token_at profile ks end bytes) (λ t. then_on t.0 t.1 (after t.0 ks) (λ next. parts_at profile n next end t.1)) x e in
    let t = token_takes profile ks end bytes a.0 fits a.1 in
    step_takes profile n ks a.0.0 t.0.front bytes end a.0.1 x t.0.parts few t.0.spelled t.1 t.0.rest_fits
    (λ next y le h. parts_take profile n next end a.0.1 y t.0.rest_fits le h) a.2

one_part : (profile : Profile) (xs : List Part) (used : List ℕ) → SpellsParts profile [] xs used → (bytes rest : List ℕ) → bytes ≡ used ++ rest
    → IsBytes rest → Took (SpellsExpr profile) bytes (first_part xs, rest)
one_part profile [] used q bytes rest parts fits = absurd q
one_part profile (x ∷ xs) used q bytes rest parts fits =
    record { front = used; spelled = record { front = q.0; spelled = q.1; whole = q.3; shallow = q.4 }; parts = parts; rest_fits = fits }

-- what is read is an expression of the grammar
pub expr_takes : (profile : Profile) (end : ℕ) (bytes : List ℕ) (x : Instrs × List ℕ) → IsBytes bytes → expr_at profile end bytes ≡ Ok x
    → Took (SpellsExpr profile) bytes x
unfolding expr_at
expr_takes profile end bytes x fits e =
    let a = bind_ok (parts_at profile (suc (length bytes)) [] end bytes) (λ y. Ok (first_part y.0, y.1)) x e in
    let q = parts_take profile (suc (length bytes)) [] end bytes a.0 fits (omega arith) a.1 in
    subst (Took (SpellsExpr profile) bytes) (ok_is (first_part a.0.0, a.0.1) x a.2) (one_part profile a.0.0 q.front q.spelled bytes a.0.1 q.parts q.rest_fits)
