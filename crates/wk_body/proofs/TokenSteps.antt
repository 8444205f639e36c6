-- The steps of a reader of tokens.
use Rattle.std.proofs.Common.{◌≡◌, ℕ, ◌<◌, ◌^◌, Bool, List, length, take, Some, Ok, refl, sym, ap, subst, ◌∙◌, arith}
use Rattle.std.proofs.lemmas.List.{take_all}
use Rattle.wk_bytes.specs.declared.fault.ReadKind.TheVariants.{UnknownOpcode}
use Rattle.wk_bytes.specs.declared.fault.ReadFault.{ReadFault}
use Rattle.wk_bytes.specs.LebLaws.{IsBytes, bind_ok}
use Rattle.wk_bytes.specs.Span.{Span, u32_at}
use Rattle.wk_bytes.specs.SpanLaws.{ok_is}
use Rattle.wk_body.specs.declared.types.Profile.{Profile}
use Rattle.wk_body.specs.declared.types.LocalGroup.{LocalGroup}
use Rattle.wk_body.specs.Bodies.{AreGroups}
use Rattle.wk_body.specs.declared.token.Token.{Token}
use Rattle.wk_body.specs.Instructions.{Plain, BrTable}
use Rattle.wk_body.specs.Tree.{Tok, Simple}
use Rattle.wk_body.specs.Kept.{told, IsWithin}
use Rattle.wk_body.specs.Vectors.{items_at}
use Rattle.wk_body.specs.Reading.{groups_at, plain_at, tok_at, after, behind_at}
use Rattle.wk_body.specs.TokenReading.{TokenReading, MayStand}
use Rattle.wk_body.specs.TokenSteps.{TokenIs}
use Rattle.wk_body.proofs.Pieces.{groups_take}
use Rattle.wk_body.proofs.Labels.{labels_read, items_length}
use Rattle.wk_body.proofs.GrammarTokens.{behind_plain}
use Rattle.wk_body.proofs.Tokens.{table_found}

-- ---- local groups

-- groups that were read are ones that bytes can spell
pub groups_range : (count end : ℕ) (bytes : List ℕ) (groups : List LocalGroup) (rest : List ℕ) → count < 2 ^ 32 → IsBytes bytes
    → groups_at count 0 end bytes ≡ Ok (groups, rest) → AreGroups groups
groups_range count end bytes groups rest below fits e =
    let t = groups_take count 0 end bytes (groups, rest) fits e in
    let few = t.5 (omega arith) in
    record { counted = omega (arith, t.4, below); few = omega (arith, few) }

-- ---- tokens that open and close nothing

-- a br_table, whose labels are those of the reader
pub table_is : (profile : Profile) (d : ReadFault) (from counted labelled to : Span) (labels : List ℕ) (count other : ℕ)
    → (u32_at from.end from.rest ≡ Ok (count, counted.rest)) × (counted.end ≡ from.end)
    → (items_at u32_at count counted.end counted.rest ≡ Ok (labels, labelled.rest)) × (labelled.end ≡ counted.end)
    → (u32_at labelled.end labelled.rest ≡ Ok (other, to.rest)) × (to.end ≡ labelled.end)
    → (tok_at (plain_at profile d 0x0E) from.end from.rest ≡ Ok (Simple (BrTable (take count labels) other), to.rest)) × (to.end ≡ from.end)
table_is profile d from counted labelled to labels count other e f g =
    let n = items_length count counted.end counted.rest (labels, labelled.rest) f.0 in
    let all : take count labels ≡ labels = take_all count labels (omega (arith, n)) in
    let found = table_found profile d from.end from.rest ((labels, other), to.rest) (labels_read from counted labelled to labels count other e f g) in
    (rw (found, all) refl, g.1 ∙ f.1 ∙ e.1)

-- what stands behind an opcode that opens and closes nothing
tok_is_simple : (profile : Profile) (d : ReadFault) (opcode end : ℕ) (bytes : List ℕ) (t : Tok) (rest : List ℕ)
    → tok_at (plain_at profile d opcode) end bytes ≡ Ok (t, rest) → (p : Plain) × (t ≡ Simple p)
tok_is_simple profile d opcode end bytes t rest e =
    let a = bind_ok (plain_at profile d opcode end bytes) (λ p. Ok (Simple p.0, p.1)) (t, rest) e in
    (a.0.0, ap (λ (r : Tok × List ℕ). r.0) (sym (ok_is (Simple a.0.0, a.0.1) (t, rest) a.2)))

after_simple : (t : Tok) (p : Plain) (ks more : List Bool) → t ≡ Simple p → more ≡ ks → after t ks ≡ Some more
after_simple t p ks more is same = rw (is, same) refl

stands_simple : (t : Tok) (p : Plain) (ks : List Bool) → t ≡ Simple p → MayStand t ks
stands_simple t p ks is = subst (λ (t : Tok). MayStand t ks) (sym is) tt

pub plain_token : (profile : Profile) (old new : TokenReading) (opcode at : ℕ) (from to : Span) (token : Token) → (opcode ≡ 0x0B → ⊥)
    → (opcode ≡ 0x05 → ⊥) → (opcode ≡ 0x02 → ⊥) → (opcode ≡ 0x03 → ⊥) → (opcode ≡ 0x04 → ⊥)
    → (tok_at (plain_at profile (record { kind = UnknownOpcode; at = at }) opcode) from.end from.rest ≡ Ok (told new.labels token, to.rest))
    × (to.end ≡ from.end) → IsWithin (length new.labels) token → new.kinds ≡ old.kinds
    → TokenIs (behind_at profile old.kinds at opcode from.end from.rest) old new from.end to token
plain_token profile old new opcode at from to token n0 n1 n2 n3 n4 e within same =
    let p = tok_is_simple profile (record { kind = UnknownOpcode; at = at }) opcode from.end from.rest (told new.labels token) to.rest e.0 in
    record {
      is = behind_plain profile old.kinds at opcode from.end from.rest n0 n1 n2 n3 n4 ∙ e.0;
      same_end = e.1;
      kinds = after_simple (told new.labels token) p.0 old.kinds new.kinds p.1 same;
      within = within;
      stands = stands_simple (told new.labels token) p.0 old.kinds p.1;
    }

-- one that has labels
pub table_token : (profile : Profile) (old new : TokenReading) (opcode at : ℕ) (from to : Span) (token : Token) → opcode ≡ 0x0E
    → ((profile : Profile) (d : ReadFault) → (tok_at (plain_at profile d 0x0E) from.end from.rest ≡ Ok (told new.labels token, to.rest))
    × (to.end ≡ from.end)) → IsWithin (length new.labels) token → new.kinds ≡ old.kinds
    → TokenIs (behind_at profile old.kinds at opcode from.end from.rest) old new from.end to token
table_token profile old new opcode at from to token is read within same =
    subst (λ (opcode : ℕ). TokenIs (behind_at profile old.kinds at opcode from.end from.rest) old new from.end to token) (sym is)
    (plain_token profile old new 0x0E at from to token (λ e. omega (arith, e)) (λ e. omega (arith, e)) (λ e. omega (arith, e)) (λ e. omega (arith, e))
    (λ e. omega (arith, e)) (read profile (record { kind = UnknownOpcode; at = at })) within same)
