-- Tokens that are typed from their bytes: what stands behind their opcodes.
use Rattle.std.proofs.Common.{◌≡◌, ℕ, ◌≤◌, ◌-◌, List, [], ◌∷◌, length, Bool, true, false, Some, None, Result, Ok, Err, refl, sym, ap, subst, ◌∙◌, arith}
use Rattle.std.proofs.lemmas.Bool.{le-ltb, lt-ltb}
use Rattle.std.specs.Prelude.{IfOk}
use Rattle.wk_bytes.specs.declared.fault.ReadKind.TheVariants.{UnknownOpcode}
use Rattle.wk_bytes.specs.declared.fault.ReadFault.{ReadFault}
use Rattle.wk_bytes.specs.Leb.{◌>>=◌}
use Rattle.wk_bytes.specs.Span.{Span, byte_at}
use Rattle.wk_bytes.specs.SpanLaws.{byte_at-takes}
use Rattle.wk_body.specs.declared.types.Profile.{Profile}
use Rattle.wk_body.specs.declared.types.Profile.TheVariants.{Core, Extended}
use Rattle.wk_body.specs.declared.numeric.NumericOp.{NumericOp}
use Rattle.wk_body.specs.declared.references.Ref.{Ref}
use Rattle.wk_body.specs.declared.token.Token.{Token}
use Rattle.wk_body.specs.declared.token.Token.TheVariants as kept
use Rattle.wk_body.specs.Numeric.{numeric_of}
use Rattle.wk_body.specs.Instructions as plain
use Rattle.wk_body.specs.Instructions.{Plain, Numeric, Alone, any_form, form_of}
use Rattle.wk_body.specs.OpcodeLaws.{any_form-numeric}
use Rattle.wk_body.specs.Kept.{told, IsWithin}
use Rattle.wk_body.specs.Reading.{type_here, may_else, plain_at, behind_form, token_at, behind_at}
use Rattle.wk_body.specs.Shape.{depth_limit}
use Rattle.wk_body.specs.TokenReading.{TokenReading, NextRead, MayStand}
use Rattle.wk_body.specs.TokenSteps.{TokenIs}
use Rattle.wk_body.specs.Tree.{Tok, Simple, Otherwise, Close}
use Rattle.wk_body.proofs.Table.{numeric_of-opcode}
use Rattle.wk_body.proofs.TokenSteps.{plain_token}
use Rattle.wk_typing.specs.declared.stacks.FrameKind.TheVariants as frame_kinds
use Rattle.wk_typing.specs.declared.fast_blocks.FastStep.{FastStep}
use Rattle.wk_typing.specs.declared.step.Function.{Function}
use Rattle.wk_typing.specs.declared.stop.Stop.{Stop}
use Rattle.wk_typing.specs.Answers.{Found}
use Rattle.wk_typing.specs.Levels.{Blocks}
use Rattle.wk_typing.specs.Streaming.{HasNoLabels, TypesRead, step_in, IsTaken, IsTakenBehind, IsSigned, IsOpened, IsParted, IsClosed}

-- ---- the token of an instruction

-- a token without labels, which stands for the instruction
record KeptAs (p : Plain) : Type 0 where
  token : Token
  is_plain : (labels : List ℕ) → told labels token ≡ Simple p
  within : (n : ℕ) → IsWithin n token

kept_as : (p : Plain) → HasNoLabels p → KeptAs p
kept_as plain.Unreachable h = record { token = kept.Unreachable; is_plain = λ labels. refl; within = λ n. tt }
kept_as plain.Nop h = record { token = kept.Nop; is_plain = λ labels. refl; within = λ n. tt }
kept_as (plain.Br x) h = record { token = kept.Br x; is_plain = λ labels. refl; within = λ n. tt }
kept_as (plain.BrIf x) h = record { token = kept.BrIf x; is_plain = λ labels. refl; within = λ n. tt }
kept_as (plain.BrTable labels other) h = absurd h
kept_as plain.Return h = record { token = kept.Return; is_plain = λ labels. refl; within = λ n. tt }
kept_as (plain.Call x) h = record { token = kept.Call x; is_plain = λ labels. refl; within = λ n. tt }
kept_as (plain.CallIndirect x) h = record { token = kept.CallIndirect x; is_plain = λ labels. refl; within = λ n. tt }
kept_as plain.Drop h = record { token = kept.Drop; is_plain = λ labels. refl; within = λ n. tt }
kept_as plain.Select h = record { token = kept.Select; is_plain = λ labels. refl; within = λ n. tt }
kept_as (plain.LocalGet x) h = record { token = kept.LocalGet x; is_plain = λ labels. refl; within = λ n. tt }
kept_as (plain.LocalSet x) h = record { token = kept.LocalSet x; is_plain = λ labels. refl; within = λ n. tt }
kept_as (plain.LocalTee x) h = record { token = kept.LocalTee x; is_plain = λ labels. refl; within = λ n. tt }
kept_as (plain.GlobalGet x) h = record { token = kept.GlobalGet x; is_plain = λ labels. refl; within = λ n. tt }
kept_as (plain.GlobalSet x) h = record { token = kept.GlobalSet x; is_plain = λ labels. refl; within = λ n. tt }
kept_as (plain.Access op align offset) h = record { token = kept.Access op align offset; is_plain = λ labels. refl; within = λ n. tt }
kept_as plain.MemorySize h = record { token = kept.MemorySize; is_plain = λ labels. refl; within = λ n. tt }
kept_as plain.MemoryGrow h = record { token = kept.MemoryGrow; is_plain = λ labels. refl; within = λ n. tt }
kept_as (plain.I32Const z) h = record { token = kept.I32Const z; is_plain = λ labels. refl; within = λ n. tt }
kept_as (plain.I64Const z) h = record { token = kept.I64Const z; is_plain = λ labels. refl; within = λ n. tt }
kept_as (plain.F32Const word) h = record { token = kept.F32Const word; is_plain = λ labels. refl; within = λ n. tt }
kept_as (plain.F64Const word) h = record { token = kept.F64Const word; is_plain = λ labels. refl; within = λ n. tt }
kept_as (plain.Numeric op) h = record { token = kept.Numeric op; is_plain = λ labels. refl; within = λ n. tt }

abbrev as_tok : Result (Plain × List ℕ) ReadFault → Result (Tok × List ℕ) ReadFault
as_tok was = was >>= λ p. Ok (Simple p.0, p.1)

-- the token of an instruction that was read and typed
module _ (A : Ref → Found) (f : Function) (labels : List ℕ) (rest : List ℕ) (b next : Blocks) where
  record TokenTyped (was : Result (Plain × List ℕ) ReadFault) : Type 0 where
    token : Token
    plain : Plain × List ℕ
    is_read : was ≡ Ok plain
    read : as_tok was ≡ Ok (told labels token, rest)
    within : IsWithin (length labels) token
    typed : step_in A f (told labels token) b ≡ Ok next

  token_typed : (was : Result (Plain × List ℕ) ReadFault) → TypesRead A f was rest b (Ok tt) next → TokenTyped was
  token_typed (Ok p) h =
      let k = kept_as p.0 h.0 in
      record {
        token = k.token;
        plain = p;
        is_read = refl;
        read = rw (k.is_plain labels, h.1) refl;
        within = k.within (length labels);
        typed = rw (k.is_plain labels) h.2;
      }
  token_typed (Err e) h = absurd h

sign_at : (e : ReadFault) (end opcode : ℕ) (op : NumericOp) (bytes : List ℕ) → opcode ≤ 0xC4 → numeric_of opcode ≡ Some op
    → plain_at Extended e opcode end bytes ≡ Ok (Numeric op, bytes)
unfolding plain_at behind_form form_of
sign_at e end opcode op bytes le is =
    let form : any_form opcode ≡ Some (Alone (Numeric op)) = ap any_form (sym (numeric_of-opcode opcode op is)) ∙ any_form-numeric op in
    rw (le-ltb 0xC4 opcode le, form) refl

-- ---- a token with its opcode

-- the byte of an opcode stands in front of a place
abbrev Follows : Span → ℕ → Span → Type 0
Follows from opcode mid = (byte_at from.end from.rest ≡ Ok (opcode, mid.rest)) × (mid.end ≡ from.end)

-- a token is taken where what stands behind its opcode is read and typed
taken_behind : (A : Ref → Found) (f : Function) (profile : Profile) (old new : TokenReading) (from mid to : Span) (opcode : ℕ) (b next : Blocks)
    (token : Token) → Follows from opcode mid
    → TokenIs (behind_at profile old.kinds (from.end - length (opcode ∷ mid.rest)) opcode mid.end mid.rest) old new mid.end to token
    → step_in A f (told new.labels token) b ≡ Ok next → IsTaken A f profile old new from to b next
taken_behind A f profile old new from mid to opcode b next token front is typed =
    let at = from.end - length (opcode ∷ mid.rest) in
    let takes : from.rest ≡ opcode ∷ mid.rest = byte_at-takes from.end from.rest opcode mid.rest front.0 in
    record {
      token = token;
      read = record {
        read = ap (token_at profile old.kinds from.end) takes
            ∙ subst (λ (end : ℕ). behind_at profile old.kinds at opcode end mid.rest ≡ Ok (told new.labels token, to.rest)) front.1 is.is;
        same_end = is.same_end ∙ front.1;
        kinds = is.kinds;
        within = is.within;
        stands = is.stands;
      };
      typed = typed;
    }

-- opcodes of blocks, of `else` and of `end` begin no instruction of the table
apart : (k opcode : ℕ) (e : ReadFault) (end : ℕ) (bytes : List ℕ) (x : Plain × List ℕ) → form_of Core k ≡ None → plain_at Core e opcode end bytes ≡ Ok x
    → opcode ≡ k → ⊥
unfolding plain_at
apart k opcode e end bytes x none h is =
    let fails : plain_at Core e opcode end bytes ≡ Err e = rw (is, none) refl in
    absurd cc

pub taken : (A : Ref → Found) (f : Function) (profile : Profile) (r : TokenReading) (from mid to : Span) (opcode : ℕ) (b next : Blocks)
    → Follows from opcode mid → IsTakenBehind A f opcode mid to b next
    → IsTaken A f profile r r from to b next
unfolding form_of
taken A f profile r from mid to opcode b next front t =
    let at = from.end - length (opcode ∷ mid.rest) in
    let e : ReadFault = record { kind = UnknownOpcode; at = at } in
    let x = token_typed A f r.labels to.rest b next (plain_at profile e opcode mid.end mid.rest) (t.typed profile e) in
    let core = token_typed A f r.labels to.rest b next (plain_at Core e opcode mid.end mid.rest) (t.typed Core e) in
    let not = λ (k : ℕ) (none : form_of Core k ≡ None). apart k opcode e mid.end mid.rest core.plain none core.is_read in
    let is = plain_token profile r r opcode at mid to x.token (not 0x0B refl) (not 0x05 refl) (not 0x02 refl) (not 0x03 refl) (not 0x04 refl)
    (x.read, t.same_end) x.within refl in
    taken_behind A f profile r r from mid to opcode b next x.token front is x.typed

-- the same of a sign extension
pub sign_taken : (A : Ref → Found) (f : Function) (r : TokenReading) (from mid : Span) (opcode : ℕ) (b next : Blocks) → Follows from opcode mid
    → IsSigned A f opcode b next → IsTaken A f Extended r r from mid b next
sign_taken A f r from mid opcode b next front s =
    let at = from.end - length (opcode ∷ mid.rest) in
    let e : ReadFault = record { kind = UnknownOpcode; at = at } in
    let plain : plain_at Extended e opcode mid.end mid.rest ≡ Ok (Numeric s.op, mid.rest) = sign_at e mid.end opcode s.op mid.rest s.high s.is_op in
    let low = s.low in
    let is = plain_token Extended r r opcode at mid mid (kept.Numeric s.op) (λ k. omega (arith, low, k)) (λ k. omega (arith, low, k))
    (λ k. omega (arith, low, k)) (λ k. omega (arith, low, k)) (λ k. omega (arith, low, k))
    (rw plain refl, refl) tt refl in
    taken_behind A f Extended r r from mid mid opcode b next (kept.Numeric s.op) front is s.typed

-- ---- openers and ends

-- an else stands in the block of which one may come
stands_in : (ks : List Bool) → may_else ks ≡ true → MayStand (Otherwise 0) ks
stands_in [] may = absurd cc
stands_in (k ∷ ks) may = tt

module _ (A : Ref → Found) (f : Function) (profile : Profile) (old new : TokenReading) (from mid to : Span) (b next : Blocks) where
  pub block_taken : Follows from 0x02 mid → IsOpened A false frame_kinds.Block profile old new mid to b next → IsTaken A f profile old new from to b next
  unfolding behind_at type_here
  block_taken front o =
      taken_behind A f profile old new from mid to 0x02 b next (kept.Block o.block 0) front
      (record {
        is = rw (lt-ltb (length old.kinds) depth_limit o.shallow, o.read) refl;
        same_end = o.same_end;
        kinds = rw o.kinds refl;
        within =
            tt;
        stands = tt;
      }) o.typed

  pub loop_taken : Follows from 0x03 mid → IsOpened A false frame_kinds.Loop profile old new mid to b next → IsTaken A f profile old new from to b next
  unfolding behind_at type_here
  loop_taken front o =
      taken_behind A f profile old new from mid to 0x03 b next (kept.Loop o.block 0) front
      (record {
        is = rw (lt-ltb (length old.kinds) depth_limit o.shallow, o.read) refl;
        same_end = o.same_end;
        kinds = rw o.kinds refl;
        within =
            tt;
        stands = tt;
      }) o.typed

  pub if_taken : Follows from 0x04 mid → IsOpened A true frame_kinds.If profile old new mid to b next → IsTaken A f profile old new from to b next
  unfolding behind_at type_here
  if_taken front o =
      taken_behind A f profile old new from mid to 0x04 b next (kept.If o.block 0) front
      (record {
        is = rw (lt-ltb (length old.kinds) depth_limit o.shallow, o.read) refl;
        same_end = o.same_end;
        kinds = rw o.kinds refl;
        within =
            tt;
        stands = tt;
      }) o.typed

  pub else_taken : Follows from 0x05 mid → IsParted A old new b next → IsTaken A f profile old new from mid b next
  unfolding behind_at
  else_taken front o =
      taken_behind A f profile old new from mid mid 0x05 b next (kept.Else 0) front
      (record { is = rw o.may refl; same_end = refl; kinds = o.kinds; within = tt; stands = stands_in old.kinds o.may }) o.typed

  pub end_taken : Follows from 0x0B mid → IsClosed A old new b next → IsTaken A f profile old new from mid b next
  unfolding behind_at
  end_taken front o =
      taken_behind A f profile old new from mid mid 0x0B b next kept.End front
      (record { is = refl; same_end = refl; kinds = o.kinds; within = tt; stands = tt }) o.typed

  -- the end that closes no block
  pub last_end : Follows from 0x0B mid → old.kinds ≡ [] → NextRead profile old new from mid None
  unfolding behind_at
  last_end front none =
      let at = from.end - length (0x0B ∷ mid.rest) in
      let takes = byte_at-takes from.end from.rest 0x0B mid.rest front.0 in (
        ap (token_at profile old.kinds from.end) takes ∙ subst
            (λ (end : ℕ). behind_at profile old.kinds at 0x0B end mid.rest ≡ Ok (Close, mid.rest)) front.1 refl,
        none,
        front.1,
      )

-- ---- calls that say what is at the front

-- what holds where a call finds something holds in other words
pub peek_where : {X Y : Type 0} (peek : FastStep) (told : Result FastStep Stop) → (X → Y) → IfOk told (λ t. t ≡ peek → X) → IfOk told (λ t. t ≡ peek → Y)
peek_where peek (Ok t) f h = λ yes. f (h yes)
peek_where peek (Err e) f h = h

-- the same of calls that say whether they took something
pub true_where : {X Y : Type 0} (told : Result Bool Stop) → (X → Y) → IfOk told (λ t. t ≡ true → X) → IfOk told (λ t. t ≡ true → Y)
true_where (Ok t) f h = λ yes. f (h yes)
true_where (Err e) f h = h
