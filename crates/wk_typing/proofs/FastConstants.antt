-- One constant of a type and its end: what they are read as, and that nothing is wrong with them.
use Rattle.std.proofs.Common.{◌≡◌, ℕ, ℤ, suc, ◌-◌, nat_lt, true, false, List, ◌∷◌, length, None, Result, Ok, Err, refl, ap, ◌∙◌}
use Rattle.std.specs.Result.{is_ok}
use Rattle.wk_bytes.specs.declared.fault.ReadFault.{ReadFault}
use Rattle.wk_bytes.specs.declared.fault.ReadKind.TheVariants.{UnknownOpcode}
use Rattle.wk_bytes.specs.Span.{Span, Gives, byte_at, signed_at, word_at}
use Rattle.wk_bytes.specs.SpanLaws.{byte_at-takes}
use Rattle.wk_body.specs.declared.types.Profile.{Profile}
use Rattle.wk_body.specs.declared.types.Profile.TheVariants.{Core, Extended}
use Rattle.wk_body.specs.declared.types.ValType.{ValType}
use Rattle.wk_body.specs.declared.types.ValType.TheVariants.{I32, I64, F32, F64}
use Rattle.wk_body.specs.declared.references.Ref.{Ref}
use Rattle.wk_body.specs.Instructions.{Plain, I32Const, I64Const, F32Const, F64Const, last_opcode, form_of}
use Rattle.wk_body.specs.Reading.{behind_form, behind_at, plain_at, parts_at, expr_at}
use Rattle.wk_body.specs.Tree.{Instrs, One, Finish}
use Rattle.wk_module.specs.Formats.{Reader, made_at}
use Rattle.wk_typing.specs.Answers.{Found}
use Rattle.wk_typing.specs.Constants.{constant_flaw, constant_opcode, is_constant_of}

-- ---- the value behind the opcode

-- a call that went from old to new read the value of a constant of a type
abbrev pub PassesValue : Profile → ReadFault → ValType → Span → Span → Type 0
PassesValue profile e t old new = (p : Plain) × (is_constant_of t p ≡ true)
    × (plain_at profile e (constant_opcode t) old.end old.rest ≡ Ok (p, new.rest)) × (new.end ≡ old.end)

-- both profiles have it
allowed : (profile : Profile) (t : ValType) → nat_lt (last_opcode profile) (constant_opcode t) ≡ false
allowed Core I32 = refl
allowed Core I64 = refl
allowed Core F32 = refl
allowed Core F64 = refl
allowed Extended I32 = refl
allowed Extended I64 = refl
allowed Extended F32 = refl
allowed Extended F64 = refl

-- what a call gave that was not refused
given : {X : Type 0} (read : Reader X) (old new : Span) (r : Result X ReadFault) → is_ok r ≡ true → Gives (λ x. x) read old r new
    → (x : X) × (read old.end old.rest ≡ Ok (x, new.rest)) × (new.end ≡ old.end)
given read old new (Ok x) success gives = (x, gives.0, gives.1)
given read old new (Err e) success gives = absurd cc

pub passes_s32 : (profile : Profile) (e : ReadFault) (old new : Span) (r : Result ℤ ReadFault) → is_ok r ≡ true → Gives (λ x. x) (signed_at 32) old r new
    → PassesValue profile e I32 old new
unfolding plain_at behind_form form_of
passes_s32 profile e old new r success gives =
    let v = given (signed_at 32) old new r success gives in (I32Const v.0, refl, rw (allowed profile I32, v.1) refl, v.2)

pub passes_s64 : (profile : Profile) (e : ReadFault) (old new : Span) (r : Result ℤ ReadFault) → is_ok r ≡ true → Gives (λ x. x) (signed_at 64) old r new
    → PassesValue profile e I64 old new
unfolding plain_at behind_form form_of
passes_s64 profile e old new r success gives =
    let v = given (signed_at 64) old new r success gives in (I64Const v.0, refl, rw (allowed profile I64, v.1) refl, v.2)

pub passes_word32 : (profile : Profile) (e : ReadFault) (old new : Span) (r : Result ℕ ReadFault) → is_ok r ≡ true → Gives (λ x. x) (word_at 4) old r new
    → PassesValue profile e F32 old new
unfolding plain_at behind_form form_of
passes_word32 profile e old new r success gives =
    let v = given (word_at 4) old new r success gives in (F32Const v.0, refl, rw (allowed profile F32, v.1) refl, v.2)

pub passes_word64 : (profile : Profile) (e : ReadFault) (old new : Span) (r : Result ℕ ReadFault) → is_ok r ≡ true → Gives (λ x. x) (word_at 8) old r new
    → PassesValue profile e F64 old new
unfolding plain_at behind_form form_of
passes_word64 profile e old new r success gives =
    let v = given (word_at 8) old new r success gives in (F64Const v.0, refl, rw (allowed profile F64, v.1) refl, v.2)

-- ---- the constant and its end

-- it gives its type
nothing_wrong : (A : Ref → Found) (t : ValType) (p : Plain) → is_constant_of t p ≡ true → constant_flaw A t (One p Finish) ≡ None
nothing_wrong A I32 (I32Const z) is = refl
nothing_wrong A I64 (I64Const z) is = refl
nothing_wrong A F32 (F32Const word) is = refl
nothing_wrong A F64 (F64Const word) is = refl
nothing_wrong A t p is = absurd cc

-- what is read, where the end comes behind it
one_read : (profile : Profile) (t : ValType) (end : ℕ) (rest after : List ℕ) (p : Plain)
    → plain_at profile (record { kind = UnknownOpcode; at = end - suc (length rest) }) (constant_opcode t) end rest ≡ Ok (p, 0x0B ∷ after)
    → expr_at profile end (constant_opcode t ∷ rest) ≡ Ok (One p Finish, after)
unfolding expr_at parts_at behind_at
one_read profile I32 end rest after p value = rw value refl
one_read profile I64 end rest after p value = rw value refl
one_read profile F32 end rest after p value = rw value refl
one_read profile F64 end rest after p value = rw value refl

flaw_read : (A : Ref → Found) (profile : Profile) (t : ValType) (end : ℕ) (bytes after : List ℕ) (is : Instrs) → expr_at profile end bytes ≡ Ok (is, after)
    → constant_flaw A t is ≡ None → made_at (constant_flaw A t) (expr_at profile) end bytes ≡ Ok (None, after)
unfolding made_at
flaw_read A profile t end bytes after is read none = rw (read, none) refl

-- from the opcode to the end nothing is wrong
pub passed : (A : Ref → Found) (profile : Profile) (t : ValType) (from first mid to : Span) (opcode : ℕ) → byte_at from.end from.rest ≡ Ok (opcode, first.rest)
    → first.end ≡ from.end → opcode ≡ constant_opcode t → ((e : ReadFault) → PassesValue profile e t first mid)
    → byte_at mid.end mid.rest ≡ Ok (0x0B, to.rest) → to.end ≡ mid.end
    → (made_at (constant_flaw A t) (expr_at profile) from.end from.rest ≡ Ok (None, to.rest)) × (to.end ≡ from.end)
passed A profile t from first mid to opcode head same is value tail last =
    let bytes : from.rest ≡ constant_opcode t ∷ first.rest = byte_at-takes from.end from.rest opcode first.rest head ∙ ap (λ (x : ℕ). x ∷ first.rest) is in
    let v = value (record { kind = UnknownOpcode; at = from.end - suc (length first.rest) }) in
    let behind : mid.rest ≡ 0x0B ∷ to.rest = byte_at-takes mid.end mid.rest 0x0B to.rest tail in
    let read : expr_at profile from.end from.rest ≡ Ok (One v.0 Finish, to.rest) =
    rw (bytes) (one_read profile t from.end first.rest to.rest v.0 (rw (same, behind) at v.2)) in (
      flaw_read A profile t from.end from.rest to.rest (One v.0 Finish) read (nothing_wrong A t v.0 v.1),
      last ∙ v.3 ∙ same,
    )
