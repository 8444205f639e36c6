-- One token that is read is spelled so, and one that is spelled so is read.
use Rattle.std.proofs.Common.{◌≡◌, ℕ, suc, ◌<◌, Bool, true, ltb, eqb, List, [], ◌∷◌, ◌++◌, length, Ok, Err, refl, sym, ap, subst, ◌∙◌, arith, inl, inr}
use Rattle.std.proofs.lemmas.Bool.{ltb-true, lt-ltb, eqb-true, ne_eqb}
use Rattle.wk_bytes.specs.declared.fault.ReadKind.TheVariants.{UnknownOpcode, TooDeep}
use Rattle.wk_bytes.specs.declared.fault.ReadFault.{ReadFault}
use Rattle.wk_bytes.specs.Leb.{◌>>=◌}
use Rattle.wk_bytes.specs.LebLaws.{IsBytes, bind_ok, chosen}
use Rattle.wk_bytes.specs.SpanLaws.{ok_is, good}
use Rattle.wk_body.specs.declared.types.Profile.{Profile}
use Rattle.wk_body.specs.declared.types.BlockType.{BlockType}
use Rattle.wk_body.specs.declared.types.BlockKind.TheVariants as kinds
use Rattle.wk_body.specs.Tree.{Tok, Simple, Open, OpenIf, Otherwise, Close}
use Rattle.wk_body.specs.Shape.{depth_limit}
use Rattle.wk_body.specs.Spelling.{SpellsType, SpellsPlain, kind_byte}
use Rattle.wk_body.specs.Reading.{type_at, plain_at, tok_at, may_else, type_here, opening_at, behind_at, token_at}
use Rattle.wk_body.proofs.Pieces.{Took, type_takes, type_again, plain_takes, plain_headed}

abbrev pub SpellsTok : Profile → Tok → List ℕ → Type 0
SpellsTok profile (Simple p) bytes = SpellsPlain profile p bytes
SpellsTok profile (Open kind ty skip) bytes = (skip ≡ 0) × (a : List ℕ) × SpellsType profile ty a × (bytes ≡ kind_byte kind ∷ a)
SpellsTok profile (OpenIf ty skip) bytes = (skip ≡ 0) × (a : List ℕ) × SpellsType profile ty a × (bytes ≡ 0x04 ∷ a)
SpellsTok profile (Otherwise skip) bytes = (skip ≡ 0) × (bytes ≡ 0x05 ∷ [])
SpellsTok profile Close bytes = bytes ≡ 0x0B ∷ []

-- the token may stand where these blocks are open
abbrev pub MayCome : List Bool → Tok → Type 0
MayCome ks (Open kind ty skip) = length ks < depth_limit
MayCome ks (OpenIf ty skip) = length ks < depth_limit
MayCome ks (Otherwise skip) = may_else ks ≡ true
MayCome ks (Simple p) = Unit {0}
MayCome ks Close = Unit {0}

-- a token was read that may come there
abbrev pub TookTok : Profile → List Bool → List ℕ → Tok × List ℕ → Type 0
TookTok profile ks bytes x = Took (SpellsTok profile) bytes x × MayCome ks x.0

opening_takes : (profile : Profile) (make : BlockType → Tok) (ks : List Bool) (at opcode k end : ℕ) (rest : List ℕ) (x : Tok × List ℕ) → IsBytes rest
    → opcode ≡ k → opening_at make profile ks at end rest ≡ Ok x
    → ((ty : BlockType) (a : List ℕ) → SpellsType profile ty a → SpellsTok profile (make ty) (k ∷ a))
    → ((ty : BlockType) → length ks < depth_limit → MayCome ks (make ty)) → TookTok profile ks (opcode ∷ rest) x
unfolding type_here
opening_takes profile make ks at opcode k end rest x fits h e says may =
    let a = bind_ok (type_here profile ks (record { kind = TooDeep; at = at }) end rest) (λ ty. Ok (make ty.0, ty.1)) x e in
    elim (chosen (ltb (length ks) depth_limit) (type_at profile end rest) (Err (record { kind = TooDeep; at = at })) (Ok a.0) a.1) [
      | inl p ↦
          let t = type_takes profile end rest a.0 fits p.1 in
          subst (TookTok profile ks (opcode ∷ rest)) (ok_is (make a.0.0, a.0.1) x a.2) (
            record {
              front = k ∷ t.front;
              spelled = says a.0.0 t.front t.spelled;
              parts =
                  ap (λ (c : ℕ). c ∷ rest) h ∙ ap (λ (r : List ℕ). k ∷ r) t.parts;
              rest_fits = t.rest_fits;
            },
            may a.0.0 (ltb-true _ _ p.0),
          )
      | inr p ↦ absurd cc
    ]

-- the fault of an opcode that begins nothing
abbrev unknown : ℕ → ReadFault
unknown at = record { kind = UnknownOpcode; at = at }

plain_token : (profile : Profile) (ks : List Bool) (at opcode end : ℕ) (rest : List ℕ) (x : Tok × List ℕ) → IsBytes rest
    → (plain_at profile (unknown at) opcode end rest >>= λ p. Ok (Simple p.0, p.1)) ≡ Ok x → TookTok profile ks (opcode ∷ rest) x
plain_token profile ks at opcode end rest x fits e =
    let a = bind_ok (plain_at profile (unknown at) opcode end rest) (λ p. Ok (Simple p.0, p.1)) x e in
    let u = plain_takes profile (unknown at) opcode end rest a.0 fits a.1 in
    subst (TookTok profile ks (opcode ∷ rest)) (ok_is (Simple a.0.0, a.0.1) x a.2)
    (record { front = u.front; spelled = u.spelled; parts = u.parts; rest_fits = u.rest_fits }, tt)

behind_takes : (profile : Profile) (ks : List Bool) (at opcode end : ℕ) (rest : List ℕ) (x : Tok × List ℕ) → IsBytes rest
    → behind_at profile ks at opcode end rest ≡ Ok x → TookTok profile ks (opcode ∷ rest) x
unfolding behind_at
behind_takes profile ks at opcode end rest x fits e =
    elim (chosen (eqb opcode 0x0B) _ _ (Ok x) e) [
      | inl p ↦ subst (TookTok profile ks (opcode ∷ rest)) (ok_is (Close, rest) x p.1)
          (record { front = 0x0B ∷ []; spelled = refl; parts = ap (λ (c : ℕ). c ∷ rest) (eqb-true _ _ p.0); rest_fits = fits }, tt)
      | inr p ↦ elim (chosen (eqb opcode 0x05) _ _ (Ok x) p.1) [
        | inl q ↦ elim (chosen (may_else ks) _ _ (Ok x) q.1) [
          | inl r ↦ subst (TookTok profile ks (opcode ∷ rest)) (ok_is (Otherwise 0, rest) x r.1)
              (record { front = 0x05 ∷ []; spelled = (refl, refl); parts = ap (λ (c : ℕ). c ∷ rest) (eqb-true _ _ q.0); rest_fits = fits }, r.0)
          | inr r ↦ absurd cc
        ]
        | inr q ↦ elim (chosen (eqb opcode 0x02) _ _ (Ok x) q.1) [
          | inl r ↦ opening_takes profile (λ ty. Open kinds.Block ty 0) ks at opcode 0x02 end rest x fits (eqb-true _ _ r.0) r.1
              (λ ty a s. (refl, a, s, refl)) (λ ty h. h)
          | inr r ↦ elim (chosen (eqb opcode 0x03) _ _ (Ok x) r.1) [
            | inl s ↦ opening_takes profile (λ ty. Open kinds.Loop ty 0) ks at opcode 0x03 end rest x fits (eqb-true _ _ s.0) s.1
                (λ ty a s. (refl, a, s, refl)) (λ ty h. h)
            | inr s ↦ elim (chosen (eqb opcode 0x04) _ _ (Ok x) s.1) [
              | inl t ↦ opening_takes profile (λ ty. OpenIf ty 0) ks at opcode 0x04 end rest x fits (eqb-true _ _ t.0) t.1
                  (λ ty a s. (refl, a, s, refl)) (λ ty h. h)
              | inr t ↦ plain_token profile ks at opcode end rest x fits t.1
            ]
          ]
        ]
      ]
    ]

pub token_takes : (profile : Profile) (ks : List Bool) (end : ℕ) (bytes : List ℕ) (x : Tok × List ℕ) → IsBytes bytes
    → token_at profile ks end bytes ≡ Ok x → TookTok profile ks bytes x
token_takes profile ks end [] x fits e = absurd cc
token_takes profile ks end (opcode ∷ rest) x fits e = behind_takes profile ks _ opcode end rest x (λ i. fits (suc i)) e

opening_again : (profile : Profile) (make : BlockType → Tok) (ks : List Bool) (at end : ℕ) (ty : BlockType) (a rest : List ℕ) → SpellsType profile ty a
    → length ks < depth_limit → opening_at make profile ks at end (a ++ rest) ≡ Ok (make ty, rest)
unfolding type_here
opening_again profile make ks at end ty a rest s lt = rw (lt-ltb (length ks) depth_limit lt, type_again profile end ty a rest s) refl

-- what stands behind an opcode that neither opens nor ends a block
pub behind_plain : (profile : Profile) (ks : List Bool) (at opcode end : ℕ) (bytes : List ℕ) → (opcode ≡ 0x0B → ⊥) → (opcode ≡ 0x05 → ⊥)
    → (opcode ≡ 0x02 → ⊥) → (opcode ≡ 0x03 → ⊥) → (opcode ≡ 0x04 → ⊥)
    → behind_at profile ks at opcode end bytes ≡ tok_at (plain_at profile (record { kind = UnknownOpcode; at = at }) opcode) end bytes
unfolding behind_at
behind_plain profile ks at opcode end bytes n0 n1 n2 n3 n4 =
    rw (ne_eqb opcode 0x0B n0, ne_eqb opcode 0x05 n1, ne_eqb opcode 0x02 n2, ne_eqb opcode 0x03 n3, ne_eqb opcode 0x04 n4) refl

pub token_again : (profile : Profile) (ks : List Bool) (end : ℕ) (t : Tok) (front rest : List ℕ) → SpellsTok profile t front → MayCome ks t
    → token_at profile ks end (front ++ rest) ≡ Ok (t, rest)
unfolding behind_at
token_again profile ks end (Simple p) front rest s may =
    let h = plain_headed profile p front s in
    let o = h.opcode in
    ap (λ (b : List ℕ). token_at profile ks end (b ++ rest)) h.parts
    ∙ behind_plain profile ks _ o end _ h.no_end h.no_else (λ e. omega (arith, h.no_open)) (λ e. omega (arith, h.no_open)) (λ e. omega (arith, h.no_open))
    ∙ rw h.again refl
token_again profile ks end (Open kinds.Block ty skip) front rest s may =
    ap (λ (b : List ℕ). token_at profile ks end (b ++ rest)) s.3 ∙ opening_again profile (λ y. Open kinds.Block y 0) ks _ end ty s.1 rest s.2 may
    ∙ ap (λ (k : ℕ). good (Open kinds.Block ty k, rest)) (sym s.0)
token_again profile ks end (Open kinds.Loop ty skip) front rest s may =
    ap (λ (b : List ℕ). token_at profile ks end (b ++ rest)) s.3 ∙ opening_again profile (λ y. Open kinds.Loop y 0) ks _ end ty s.1 rest s.2 may
    ∙ ap (λ (k : ℕ). good (Open kinds.Loop ty k, rest)) (sym s.0)
token_again profile ks end (OpenIf ty skip) front rest s may =
    ap (λ (b : List ℕ). token_at profile ks end (b ++ rest)) s.3 ∙ opening_again profile (λ y. OpenIf y 0) ks _ end ty s.1 rest s.2 may
    ∙ ap (λ (k : ℕ). good (OpenIf ty k, rest)) (sym s.0)
token_again profile ks end (Otherwise skip) front rest s may =
    ap (λ (b : List ℕ). token_at profile ks end (b ++ rest)) s.1 ∙ rw may (ap (λ (k : ℕ). good (Otherwise k, rest)) (sym s.0))
token_again profile ks end Close front rest s may = ap (λ (b : List ℕ). token_at profile ks end (b ++ rest)) s
