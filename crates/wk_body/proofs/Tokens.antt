-- One token that is read.
use Rattle.std.proofs.Common.{◌≡◌, ℕ, suc, ◌≤◌, Bool, false, ltb, List, [], ◌∷◌, ◌++◌, length, Ok, Err, refl, sym, ap, subst, ◌∙◌, arith, inl, inr}
use Rattle.std.proofs.Common.{length-append}
use Rattle.wk_bytes.specs.declared.fault.ReadKind.TheVariants.{UnexpectedEnd, UnknownOpcode, TooDeep}
use Rattle.wk_bytes.specs.declared.fault.ReadFault.{ReadFault}
use Rattle.wk_bytes.specs.LebLaws.{bind_ok, chosen}
use Rattle.wk_bytes.specs.Span.{Span, fault, byte_at}
use Rattle.wk_bytes.specs.SpanLaws.{ok_is, err_is}
use Rattle.wk_body.specs.declared.types.Profile.{Profile}
use Rattle.wk_body.specs.declared.types.Profile.TheVariants.{Core, Extended}
use Rattle.wk_body.specs.declared.types.BlockType.{BlockType}
use Rattle.wk_body.specs.declared.types.BlockKind.TheVariants as kinds
use Rattle.wk_body.specs.declared.token.Token.{Token}
use Rattle.wk_body.specs.declared.scratch.Scratch.{Scratch}
use Rattle.wk_body.specs.Instructions.{Plain, BrTable, form_of}
use Rattle.wk_body.specs.Tree.{Tok, Simple, Open, OpenIf}
use Rattle.wk_body.specs.Shape.{depth_limit}
use Rattle.wk_body.specs.Kept.{told, IsWithin}
use Rattle.wk_body.specs.Reads.{FailsAs}
use Rattle.wk_body.specs.Reading.{labels_at, behind_form, plain_at, tok_at, type_at, type_here, behind_at, token_at}
use Rattle.wk_body.specs.Building.{Adds, Step, ReadsPlain, ReadsToken, kinds_of}
use Rattle.wk_body.proofs.GrammarTokens.{behind_plain}
use Rattle.wk_body.proofs.PieceStands.{ReadsFront-type_at, plain_at-takes}
use Rattle.wk_body.proofs.Labels.{told-grow}

-- ---- how many bytes are taken

no_longer : (front bytes rest : List ℕ) → bytes ≡ front ++ rest → length rest ≤ length bytes
no_longer front bytes rest e = omega (arith, ap (length {A = ℕ}) e, length-append front rest)

pub here_shorter : (profile : Profile) (ks : List Bool) (d : ReadFault) (end : ℕ) (bytes rest : List ℕ) (ty : BlockType)
    → type_here profile ks d end bytes ≡ Ok (ty, rest) → length rest ≤ length bytes
unfolding type_here
here_shorter profile ks d end bytes rest ty e =
    elim (chosen (ltb (length ks) depth_limit) (type_at profile end bytes) (Err d) (Ok (ty, rest)) e) [
      | inl p ↦ let t = (ReadsFront-type_at profile).takes end bytes ty rest p.1 in no_longer t.0 bytes rest t.1
      | inr p ↦ absurd cc
    ]

-- ---- a token that opens a block

adds_step : (old new : Scratch) (t : Tok) (bytes rest : ℕ) → rest ≤ bytes → Adds old new t → Step old new t (suc bytes) rest
adds_step old new t bytes rest le a = record { good = a.good; parts = a.parts; kinds = a.kinds; size = omega (arith, a.size) }

-- what is behind the opcode of a block or an if
abbrev pub ReadsType : Profile → Scratch → ℕ → Span → BlockType → Span → Type 0
ReadsType profile old at from ty to = (type_here profile (kinds_of old) (record { kind = TooDeep; at = at }) from.end from.rest ≡ Ok (ty, to.rest))
    × (to.end ≡ from.end)

opened_reads : (profile : Profile) (old new : Scratch) (t : Tok) (opcode at : ℕ) (from to : Span) (ty : BlockType)
    → behind_at profile (kinds_of old) at opcode from.end from.rest ≡ Ok (t, to.rest) → ReadsType profile old at from ty to → Adds old new t
    → ReadsToken (behind_at profile (kinds_of old) at opcode from.end from.rest) false old new (suc (length from.rest)) from.end to
opened_reads profile old new t opcode at from to ty is e a = record {
  token = t;
  is = is;
  same_end = e.1;
  stepped = adds_step old new t (length from.rest) (length to.rest)
      (here_shorter profile (kinds_of old) (record { kind = TooDeep; at = at }) from.end from.rest to.rest ty e.0) a;
}

pub reads_block : (profile : Profile) (old new : Scratch) (opcode at : ℕ) (from to : Span) (ty : BlockType) → opcode ≡ 0x02
    → ReadsType profile old at from ty to → Adds old new (Open kinds.Block ty 0)
    → ReadsToken (behind_at profile (kinds_of old) at opcode from.end from.rest) false old new (suc (length from.rest)) from.end to
unfolding behind_at
reads_block profile old new opcode at from to ty h e a = opened_reads profile old new (Open kinds.Block ty 0) opcode at from to ty (rw (h, e.0) refl) e a

pub reads_loop : (profile : Profile) (old new : Scratch) (opcode at : ℕ) (from to : Span) (ty : BlockType) → opcode ≡ 0x03
    → ReadsType profile old at from ty to → Adds old new (Open kinds.Loop ty 0)
    → ReadsToken (behind_at profile (kinds_of old) at opcode from.end from.rest) false old new (suc (length from.rest)) from.end to
unfolding behind_at
reads_loop profile old new opcode at from to ty h e a = opened_reads profile old new (Open kinds.Loop ty 0) opcode at from to ty (rw (h, e.0) refl) e a

pub reads_if : (profile : Profile) (old new : Scratch) (opcode at : ℕ) (from to : Span) (ty : BlockType) → opcode ≡ 0x04
    → ReadsType profile old at from ty to → Adds old new (OpenIf ty 0)
    → ReadsToken (behind_at profile (kinds_of old) at opcode from.end from.rest) false old new (suc (length from.rest)) from.end to
unfolding behind_at
reads_if profile old new opcode at from to ty h e a = opened_reads profile old new (OpenIf ty 0) opcode at from to ty (rw (h, e.0) refl) e a

-- ---- a token with labels

pub table_found : (profile : Profile) (e : ReadFault) (end : ℕ) (bytes : List ℕ) (x : (List ℕ × ℕ) × List ℕ) → labels_at end bytes ≡ Ok x
    → plain_at profile e 0x0E end bytes ≡ Ok (BrTable x.0.0 x.0.1, x.1)
unfolding plain_at behind_form form_of
table_found Core e end bytes x h = rw h refl
table_found Extended e end bytes x h = rw h refl

table_missed : (profile : Profile) (e d : ReadFault) (end : ℕ) (bytes : List ℕ) → labels_at end bytes ≡ Err d → plain_at profile e 0x0E end bytes ≡ Err d
unfolding plain_at behind_form form_of
table_missed Core e d end bytes h = rw h refl
table_missed Extended e d end bytes h = rw h refl

pub reads_table : (profile : Profile) (old new : Scratch) (opcode at : ℕ) (from to : Span) → opcode ≡ 0x0E
    → ReadsPlain (labels_at from.end from.rest) old new from to
    → ReadsToken (behind_at profile (kinds_of old) at opcode from.end from.rest) false old new (suc (length from.rest)) from.end to
unfolding behind_at
reads_table profile old new opcode at from to h r = record {
  token = Simple (BrTable r.labels r.other);
  is = rw (h, table_found profile (record { kind = UnknownOpcode; at = at }) from.end from.rest ((r.labels, r.other), to.rest) r.is) refl;
  same_end = r.same_end;
  stepped = r.step;
}

pub table_fails : (profile : Profile) (old : Scratch) (opcode at : ℕ) (from : Span) (e : ReadFault) → opcode ≡ 0x0E
    → labels_at from.end from.rest ≡ Err e → behind_at profile (kinds_of old) at opcode from.end from.rest ≡ Err e
unfolding behind_at
table_fails profile old opcode at from e h r = rw (h, table_missed profile (record { kind = UnknownOpcode; at = at }) e from.end from.rest r) refl

-- ---- any other

-- what is behind the opcode of an instruction that holds no others and has no labels
abbrev pub ReadsSimple : Profile → ℕ → ℕ → Span → Token → Span → Type 0
ReadsSimple profile opcode at from t to =
    (tok_at (plain_at profile (record { kind = UnknownOpcode; at = at }) opcode) from.end from.rest ≡ Ok (told [] t, to.rest)) × (to.end ≡ from.end)

-- a token without labels means the same whatever the pool
pub simple_told : (profile : Profile) (pool : List ℕ) (opcode at : ℕ) (from to : Span) (t : Token) → ReadsSimple profile opcode at from t to
    → IsWithin 0 t → (p : Plain) × (told pool t ≡ Simple p)
simple_told profile pool opcode at from to t e within =
    let a = bind_ok (plain_at profile (record { kind = UnknownOpcode; at = at }) opcode from.end from.rest) (λ p. Ok (Simple p.0, p.1))
    (told [] t, to.rest) e.0 in
    (a.0.0, told-grow [] pool t within ∙ ap (λ (r : Tok × List ℕ). r.0) (sym (ok_is (Simple a.0.0, a.0.1) (told [] t, to.rest) a.2)))

pub reads_simple : (profile : Profile) (old new : Scratch) (opcode at : ℕ) (from to : Span) (t : Token) → (opcode ≡ 0x0B → ⊥) → (opcode ≡ 0x05 → ⊥)
    → (opcode ≡ 0x02 → ⊥) → (opcode ≡ 0x03 → ⊥) → (opcode ≡ 0x04 → ⊥)
    → ReadsSimple profile opcode at from t to → IsWithin 0 t → Adds old new (told old.labels.items t)
    → ReadsToken (behind_at profile (kinds_of old) at opcode from.end from.rest) false old new (suc (length from.rest)) from.end to
reads_simple profile old new opcode at from to t n0 n1 n2 n3 n4 e within a =
    let unknown : ReadFault = record { kind = UnknownOpcode; at = at } in
    let b = bind_ok (plain_at profile unknown opcode from.end from.rest) (λ p. Ok (Simple p.0, p.1)) (told [] t, to.rest) e.0 in
    let s = ap (λ (r : Tok × List ℕ). length r.1) (ok_is (Simple b.0.0, b.0.1) (told [] t, to.rest) b.2) in
    let front = plain_at-takes profile unknown opcode from.end from.rest b.0 b.1 in
    let le = no_longer front.0 from.rest b.0.1 front.1 in
    let same : told old.labels.items t ≡ told [] t = told-grow [] old.labels.items t within in
    record {
      token = told old.labels.items t;
      is = behind_plain profile (kinds_of old) at opcode from.end from.rest n0 n1 n2 n3 n4 ∙ rw same e.0;
      same_end = e.1;
      stepped = adds_step old new (told old.labels.items t) (length from.rest) (length to.rest) (omega (arith, s, le)) a;
    }

-- ---- no opcode is there

pub no_token : (profile : Profile) (ks : List Bool) (end : ℕ) (bytes : List ℕ) (e : ReadFault) → byte_at end bytes ≡ Err e
    → FailsAs e e.kind (token_at profile ks end bytes)
unfolding byte_at
no_token profile ks end [] e h = let same = err_is {A = ℕ × List ℕ} (fault UnexpectedEnd end []) e h in
    subst (λ (e : ReadFault). FailsAs e e.kind (token_at profile ks end [])) same refl
no_token profile ks end (x ∷ bytes) e h = absurd cc
