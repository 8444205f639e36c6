-- The faults of reading expressions and bodies stand.
use Rattle.std.proofs.Common.{◌≡◌, ℕ, zero, suc, ◌-◌, ◌≤◌, Bool, true, false, cond, ltb, eqb, List, [], ◌∷◌, ◌++◌, length, Option, Some, None, Result, Ok, Err}
use Rattle.std.proofs.Common.{refl, sym, ap, subst, ◌∙◌, arith, inl, inr}
use Rattle.std.proofs.lemmas.Bool.{eqb-true, eqb-false}
use Rattle.std.proofs.lemmas.List.{append-nil}
use Rattle.wk_bytes.specs.declared.fault.ReadKind.TheVariants.{UnexpectedEnd, UnknownOpcode, TooDeep, BodySize}
use Rattle.wk_bytes.specs.declared.fault.ReadFault.{ReadFault}
use Rattle.wk_bytes.specs.Leb.{◌>>=◌}
use Rattle.wk_bytes.specs.LebLaws.{chosen}
use Rattle.wk_bytes.specs.Span.{fault, u32_at}
use Rattle.wk_bytes.specs.SpanLaws.{ok_is, err_is}
use Rattle.wk_bytes.specs.Stands.{Opens, Stands}
use Rattle.wk_bytes.specs.StandsLaws.{Stands-later, Stands-here, stands_as, ReadsFront, ReadsFront-done, ReadsFront-then, ReadsFront-u32_at}
use Rattle.wk_body.specs.declared.types.Profile.{Profile}
use Rattle.wk_body.specs.declared.types.BlockType.{BlockType}
use Rattle.wk_body.specs.declared.types.BlockKind.TheVariants as kinds
use Rattle.wk_body.specs.declared.types.LocalGroup.{LocalGroup}
use Rattle.wk_body.specs.Tree.{Tok, Simple, Open, OpenIf, Otherwise, Close, before, first_part}
use Rattle.wk_body.specs.Shape.{depth_limit}
use Rattle.wk_body.specs.Bodies.{BodyOf}
use Rattle.wk_body.specs.Reading.{type_at, plain_at, may_else, type_here, opening_at, behind_at, token_at, after, With, then_on, parts_at, expr_at, groups_at}
use Rattle.wk_body.specs.Reading.{body_at, all_expr_at, all_body_at, taking_all}
use Rattle.wk_body.specs.TokenReading.{local_groups_at}
use Rattle.wk_body.proofs.PieceStands.{ReadsFront-type_at, ReadsFront-groups_at, plain_at-takes, plain_stands}

-- ---- one token

-- a token behind its opcode takes a front, and its faults stand from the opcode on
pub record ReadsBehind (opcode end : ℕ) (rest : List ℕ) (read : Result (Tok × List ℕ) ReadFault) : Type 0 where
  pub takes : (x : Tok × List ℕ) → read ≡ Ok x → (front : List ℕ) × (rest ≡ front ++ x.1)
  pub faults : (e : ReadFault) → read ≡ Err e → length (opcode ∷ rest) ≤ end → Stands (record { rest = opcode ∷ rest; end = end }) e

-- a token that takes no more bytes
behind_alone : (opcode end : ℕ) (rest : List ℕ) (t : Tok) → ReadsBehind opcode end rest (Ok (t, rest))
behind_alone opcode end rest t = record {
  takes = λ x e. ([], ap (λ (p : Tok × List ℕ). p.1) (ok_is (t, rest) x e));
  faults = λ e h fits. absurd cc;
}

-- an opcode that is wrong there
behind_fault : (opcode end : ℕ) (rest : List ℕ) (d : ReadFault) → (length (opcode ∷ rest) ≤ end → Stands (record { rest = opcode ∷ rest; end = end }) d)
    → ReadsBehind opcode end rest (Err d)
behind_fault opcode end rest d stands = record {
  takes = λ x e. absurd cc;
  faults = λ e h fits. subst (Stands (record { rest = opcode ∷ rest; end = end })) (err_is {A = Tok × List ℕ} d e h) (stands fits);
}

-- what is read of another value
behind_mapped : {A : Type 0} (opcode end : ℕ) (rest : List ℕ) (make : A → Tok) (read : Result (A × List ℕ) ReadFault)
    → ((x : A × List ℕ) → read ≡ Ok x → (front : List ℕ) × (rest ≡ front ++ x.1))
    → ((e : ReadFault) → read ≡ Err e → length (opcode ∷ rest) ≤ end → Stands (record { rest = opcode ∷ rest; end = end }) e)
    → ReadsBehind opcode end rest (read >>= λ y. Ok (make y.0, y.1))
behind_mapped opcode end rest make (Ok y) takes faults = record {
  takes = λ x e. let t = takes y refl in (t.0, t.1 ∙ ap (λ (p : Tok × List ℕ). t.0 ++ p.1) (ok_is (make y.0, y.1) x e));
  faults = λ e h fits. absurd cc;
}
behind_mapped {A = A} opcode end rest make (Err d) takes faults = record {
  takes = λ x e. absurd cc;
  faults = λ e h fits. subst (Stands (record { rest = opcode ∷ rest; end = end })) (err_is {A = Tok × List ℕ} d e h) (faults d refl fits);
}

-- a fault behind an opcode
behind_stands : (opcode end : ℕ) (rest : List ℕ) (e : ReadFault) → length (opcode ∷ rest) ≤ end → Stands (record { rest = rest; end = end }) e
    → Stands (record { rest = opcode ∷ rest; end = end }) e
behind_stands opcode end rest e fits stood = Stands-later (opcode ∷ []) (record { rest = opcode ∷ rest; end = end })
    (record { rest = rest; end = end }) e refl refl fits stood

here_deep : (opcode end : ℕ) (rest : List ℕ) → Opens opcode → Stands (record { rest = opcode ∷ rest; end = end }) (fault TooDeep end (opcode ∷ rest))
here_deep opcode end rest opens = Stands-here TooDeep end (opcode ∷ rest) opens

opening_behind : (profile : Profile) (make : BlockType → Tok) (ks : List Bool) (opcode end : ℕ) (rest : List ℕ)
    → Opens opcode → ReadsBehind opcode end rest (opening_at make profile ks (end - length (opcode ∷ rest)) end rest)
unfolding type_here
opening_behind profile make ks opcode end rest opens =
    let deep = fault TooDeep end (opcode ∷ rest) in
    let types = ReadsFront-type_at profile in
    behind_mapped opcode end rest make (type_here profile ks deep end rest)
    (λ x e. elim (chosen (ltb (length ks) depth_limit) (type_at profile end rest) (Err deep) (Ok x) e) [
      | inl p ↦ types.takes end rest x.0 x.1 p.1
      | inr p ↦ absurd cc
    ])
    (λ e h fits. elim (chosen (ltb (length ks) depth_limit) (type_at profile end rest) (Err deep) (Err e) h) [
      | inl p ↦ behind_stands opcode end rest e fits (types.faults end rest e p.1 (omega arith))
      | inr p ↦ subst (Stands (record { rest = opcode ∷ rest; end = end })) (err_is {A = BlockType × List ℕ} deep e p.1) (here_deep opcode end rest opens)
    ])

plain_behind : (profile : Profile) (opcode end : ℕ) (rest : List ℕ) → (opcode ≡ 0x02 → ⊥) → (opcode ≡ 0x03 → ⊥) → (opcode ≡ 0x04 → ⊥) → (opcode ≡ 0x0B → ⊥)
    → ReadsBehind opcode end rest (plain_at profile (fault UnknownOpcode end (opcode ∷ rest)) opcode end rest >>= λ p. Ok (Simple p.0, p.1))
plain_behind profile opcode end rest a b c d =
    let unknown = fault UnknownOpcode end (opcode ∷ rest) in
    behind_mapped opcode end rest Simple (plain_at profile unknown opcode end rest)
    (plain_at-takes profile unknown opcode end rest)
    (λ e h fits. plain_stands profile opcode end rest e a b c d h fits)

-- a test leads to one of two
either : (opcode end : ℕ) (rest : List ℕ) (b : Bool) (x y : Result (Tok × List ℕ) ReadFault) → (b ≡ true → ReadsBehind opcode end rest x)
    → (b ≡ false → ReadsBehind opcode end rest y) → ReadsBehind opcode end rest (cond b x y)
either opcode end rest true x y then_ else_ = then_ refl
either opcode end rest false x y then_ else_ = else_ refl

-- an else where none may come
stray_else : (opcode end : ℕ) (rest : List ℕ) → opcode ≡ 0x05 → Stands (record { rest = opcode ∷ rest; end = end }) (fault UnknownOpcode end (opcode ∷ rest))
stray_else opcode end rest is = Stands-here UnknownOpcode end (opcode ∷ rest) (rw is refl)

opens_at : (opcode x : ℕ) → 0x02 ≤ x → x ≤ 0x04 → eqb opcode x ≡ true → Opens opcode
opens_at opcode x low high is = let same = eqb-true opcode x is in (omega (arith, same, low), omega (arith, same, high))

pub token_behind : (profile : Profile) (ks : List Bool) (opcode end : ℕ) (rest : List ℕ)
    → ReadsBehind opcode end rest (behind_at profile ks (end - length (opcode ∷ rest)) opcode end rest)
unfolding behind_at
token_behind profile ks opcode end rest =
    either opcode end rest (eqb opcode 0x0B) _ _ (λ _. behind_alone opcode end rest Close) (λ no_end.
    either opcode end rest (eqb opcode 0x05) _ _
    (λ is. either opcode end rest (may_else ks) _ _ (λ _. behind_alone opcode end rest (Otherwise 0))
    (λ _. behind_fault opcode end rest _ (λ fits. stray_else opcode end rest (eqb-true _ _ is)))) (λ _.
    either opcode end rest (eqb opcode 0x02) _ _
    (λ is. opening_behind profile (λ ty. Open kinds.Block ty 0) ks opcode end rest (opens_at opcode 0x02 (omega arith) (omega arith) is)) (λ no_block.
    either opcode end rest (eqb opcode 0x03) _ _
    (λ is. opening_behind profile (λ ty. Open kinds.Loop ty 0) ks opcode end rest (opens_at opcode 0x03 (omega arith) (omega arith) is)) (λ no_loop.
    either opcode end rest (eqb opcode 0x04) _ _
    (λ is. opening_behind profile (λ ty. OpenIf ty 0) ks opcode end rest (opens_at opcode 0x04 (omega arith) (omega arith) is)) (λ no_if.
    plain_behind profile opcode end rest (eqb-false _ _ no_block) (eqb-false _ _ no_loop) (eqb-false _ _ no_if) (eqb-false _ _ no_end))))))

token_takes : (profile : Profile) (ks : List Bool) (end : ℕ) (bytes : List ℕ) (t : Tok) (rest : List ℕ) → token_at profile ks end bytes ≡ Ok (t, rest)
    → (front : List ℕ) × (bytes ≡ front ++ rest)
token_takes profile ks end [] t rest e = absurd cc
token_takes profile ks end (opcode ∷ bytes) t rest e =
    let f = (token_behind profile ks opcode end bytes).takes (t, rest) e in
    (opcode ∷ f.0, ap (λ (b : List ℕ). opcode ∷ b) f.1)

token_faults : (profile : Profile) (ks : List Bool) (end : ℕ) (bytes : List ℕ) (e : ReadFault) → token_at profile ks end bytes ≡ Err e
    → length bytes ≤ end → Stands (record { rest = bytes; end = end }) e
token_faults profile ks end [] e h fits = stands_as UnexpectedEnd end [] e (err_is {A = Tok × List ℕ} _ _ h) (inl refl)
token_faults profile ks end (opcode ∷ bytes) e h fits = (token_behind profile ks opcode end bytes).faults e h fits

pub ReadsFront-token_at : (profile : Profile) (ks : List Bool) → ReadsFront (token_at profile ks)
ReadsFront-token_at profile ks = record { takes = token_takes profile ks; faults = token_faults profile ks }

-- ---- local groups

pub ReadsFront-local_groups_at : ReadsFront local_groups_at
unfolding local_groups_at
ReadsFront-local_groups_at = ReadsFront-then u32_at (λ n. groups_at n 0) ReadsFront-u32_at (λ n. ReadsFront-groups_at n 0)

-- ---- expressions

-- the bytes end too early
ends_early : {A : Type 0} → ReadsFront {A = A} (λ end bytes. Err (fault UnexpectedEnd end []))
ends_early {A = A} = record {
  takes = λ end bytes x rest e. absurd cc;
  faults = λ end bytes e h fits. subst (Stands (record { rest = bytes; end = end })) (err_is {A = A × List ℕ} _ e h)
      (record { skipped = bytes; from = []; later = []; parts = sym (append-nil bytes); place = omega arith; ends = inl refl; stands = inl refl });
}

-- what a token and those behind it give
abbrev on_at : Profile → ℕ → List Bool → Tok → Option (List Bool) → ℕ → List ℕ → Result With ReadFault
on_at profile n ks t next end rest = then_on t rest next (λ more. parts_at profile n more end rest)

ReadsFront-on_at : (profile : Profile) (n : ℕ) (ks : List Bool) (t : Tok) (next : Option (List Bool))
    → ((more : List Bool) → ReadsFront (parts_at profile n more)) → ReadsFront (on_at profile n ks t next)
ReadsFront-on_at profile n ks t None more = ReadsFront-done (before t [])
ReadsFront-on_at profile n ks t (Some next) more = ReadsFront-then (parts_at profile n next) (λ xs end rest. Ok (before t xs, rest)) (more next)
    (λ xs. ReadsFront-done (before t xs))

ReadsFront-parts_at : (profile : Profile) (n : ℕ) (ks : List Bool) → ReadsFront (parts_at profile n ks)
unfolding parts_at
ReadsFront-parts_at profile zero ks = ends_early
ReadsFront-parts_at profile (suc n) ks =
    ReadsFront-then (token_at profile ks) (λ t. on_at profile n ks t (after t ks)) (ReadsFront-token_at profile ks)
    (λ t. ReadsFront-on_at profile n ks t (after t ks) (ReadsFront-parts_at profile n))

-- as many tokens as there are bytes, and one more
abbrev all_parts_at : Profile → ℕ → List ℕ → Result With ReadFault
all_parts_at profile end bytes = parts_at profile (suc (length bytes)) [] end bytes

ReadsFront-all_parts_at : (profile : Profile) → ReadsFront (all_parts_at profile)
ReadsFront-all_parts_at profile = record {
  takes = λ end bytes. (ReadsFront-parts_at profile (suc (length bytes)) []).takes end bytes;
  faults = λ end bytes. (ReadsFront-parts_at profile (suc (length bytes)) []).faults end bytes;
}

pub ReadsFront-expr_at : (profile : Profile) → ReadsFront (expr_at profile)
unfolding expr_at
ReadsFront-expr_at profile = ReadsFront-then (all_parts_at profile) (λ xs end rest. Ok (first_part xs, rest)) (ReadsFront-all_parts_at profile)
    (λ xs. ReadsFront-done (first_part xs))

-- ---- bodies

-- the instructions of a body with these groups
abbrev instrs_at : Profile → List LocalGroup → ℕ → List ℕ → Result (BodyOf × List ℕ) ReadFault
instrs_at profile groups end bytes = expr_at profile end bytes >>= λ x. Ok (record { groups = groups; instrs = x.0 }, x.1)

ReadsFront-instrs_at : (profile : Profile) (groups : List LocalGroup) → ReadsFront (instrs_at profile groups)
ReadsFront-instrs_at profile groups = ReadsFront-then (expr_at profile) (λ t end rest. Ok (record { groups = groups; instrs = t }, rest))
    (ReadsFront-expr_at profile) (λ t. ReadsFront-done (record { groups = groups; instrs = t }))

pub ReadsFront-body_at : (profile : Profile) → ReadsFront (body_at profile)
unfolding body_at
ReadsFront-body_at profile =
    ReadsFront-then u32_at (λ n end rest. groups_at n 0 end rest >>= λ gs. instrs_at profile gs.0 end gs.1) ReadsFront-u32_at
    (λ n. ReadsFront-then (groups_at n 0) (instrs_at profile) (ReadsFront-groups_at n 0) (ReadsFront-instrs_at profile))

-- ---- all of the bytes

-- a fault of what takes all of the bytes stands
pub all_faults_of : {A : Type 0} (read : ℕ → List ℕ → Result (A × List ℕ) ReadFault) → ReadsFront read
    → (end : ℕ) (bytes : List ℕ) (e : ReadFault) (r : Result (A × List ℕ) ReadFault) → read end bytes ≡ r → (r >>= taking_all end) ≡ Err e
    → length bytes ≤ end → Stands (record { rest = bytes; end = end }) e
all_faults_of read reads end bytes e (Err d) is h fits = reads.faults end bytes e (is ∙ cc) fits
all_faults_of read reads end bytes e (Ok (x, [])) is h fits = absurd cc
all_faults_of {A = A} read reads end bytes e (Ok (x, y ∷ rest)) is h fits =
    let t = reads.takes end bytes x (y ∷ rest) is in
    Stands-later t.0 (record { rest = bytes; end = end }) (record { rest = y ∷ rest; end = end }) e t.1 refl fits
    (stands_as BodySize end (y ∷ rest) e (err_is {A = A} _ _ h) (omega arith))

pub all_expr_stands : (profile : Profile) (end : ℕ) (bytes : List ℕ) (e : ReadFault) → all_expr_at profile end bytes ≡ Err e → length bytes ≤ end
    → Stands (record { rest = bytes; end = end }) e
unfolding all_expr_at
all_expr_stands profile end bytes e h fits = all_faults_of (expr_at profile) (ReadsFront-expr_at profile) end bytes e (expr_at profile end bytes) refl h fits

pub all_body_stands : (profile : Profile) (end : ℕ) (bytes : List ℕ) (e : ReadFault) → all_body_at profile end bytes ≡ Err e → length bytes ≤ end
    → Stands (record { rest = bytes; end = end }) e
unfolding all_body_at
all_body_stands profile end bytes e h fits = all_faults_of (body_at profile) (ReadsFront-body_at profile) end bytes e (body_at profile end bytes) refl h fits
