-- The laws of reading token by token: what is read of an expression is what its tokens give one after the other, and each
-- token takes a byte at least.
use Rattle.std.proofs.Common.{◌≡◌, ℕ, zero, suc, ◌<◌, ◌≤◌, Bool, true, false, cond, ltb, eqb, List, [], ◌∷◌, length, Option, Some, None, Result, Ok, Err, refl}
use Rattle.std.proofs.Common.{sym, ap, ◌∙◌, arith, length-append}
use Rattle.wk_bytes.specs.declared.fault.ReadKind.TheVariants.{BadByte, UnknownOpcode, TooDeep}
use Rattle.wk_bytes.specs.declared.fault.ReadFault.{ReadFault}
use Rattle.wk_bytes.specs.Leb.{◌>>=◌, or_fail}
use Rattle.wk_bytes.specs.LebLaws.{bind_ok}
use Rattle.wk_bytes.specs.Span.{Span, fault, byte_at, u32_at, signed_at, word_at}
use Rattle.wk_bytes.specs.SpanLaws.{ok_is, byte_at-takes, u32_at-shorter, signed_at-takes, word_at-takes}
use Rattle.wk_body.specs.declared.types.ValType.{ValType}
use Rattle.wk_body.specs.declared.types.Profile.{Profile}
use Rattle.wk_body.specs.declared.types.Profile.TheVariants.{Core, Extended}
use Rattle.wk_body.specs.declared.types.BlockType.{BlockType}
use Rattle.wk_body.specs.declared.types.BlockType.TheVariants.{Empty, Value, Index}
use Rattle.wk_body.specs.declared.types.BlockKind.TheVariants as kinds
use Rattle.wk_body.specs.declared.types.LocalGroup.{LocalGroup}
use Rattle.wk_body.specs.declared.token.Token.{Token}
use Rattle.wk_body.specs.ValTypes.{valtype_of}
use Rattle.wk_body.specs.Vectors.{items_at, vector_at}
use Rattle.wk_body.specs.Instructions.{Form, Alone, WithReserved, WithIndex, WithIndexReserved, WithLabels, WithMemarg, WithSigned, WithWord, form_of}
use Rattle.wk_body.specs.Tree.{Instrs, Tok, Simple, Open, OpenIf, Otherwise, Close, before, first_part}
use Rattle.wk_body.specs.Shape.{depth_limit}
use Rattle.wk_body.specs.Kept.{told}
use Rattle.wk_body.specs.Reading.{reserved_at, labels_at, behind_form, plain_at, tok_at, index_of, index_at, or_value, type_at, may_else, type_here, opening_at}
use Rattle.wk_body.specs.Reading.{behind_at, token_at, after, With, in_front, then_on, parts_at, expr_at, groups_at, body_at, all_body_at}
use Rattle.wk_body.specs.TokenReading.{TokenReading, NextToken, local_groups_at}

-- ---- what is read leaves no more bytes than there were

abbrev NoLonger : {A : Type 0} → List ℕ → Result (A × List ℕ) ReadFault → Type 0
NoLonger {A = A} bytes read = (x : A × List ℕ) → read ≡ Ok x → length x.1 ≤ length bytes

stays : {A : Type 0} (x : A) (bytes rest : List ℕ) → length rest ≤ length bytes → NoLonger bytes (Ok (x, rest))
stays {A = A} x bytes rest le = λ y e. let same = ap (λ (p : A × List ℕ). length p.1) (ok_is (x, rest) y e) in omega (arith, le, same)

refused : {A : Type 0} (bytes : List ℕ) (e : ReadFault) → NoLonger {A = A} bytes (Err e)
refused bytes e = λ x h. absurd cc

and_then : {A B : Type 0} (bytes : List ℕ) (read : Result (A × List ℕ) ReadFault) (f : A × List ℕ → Result (B × List ℕ) ReadFault) → NoLonger bytes read
    → ((x : A × List ℕ) → length x.1 ≤ length bytes → NoLonger bytes (f x)) → NoLonger bytes (read >>= f)
and_then bytes (Ok x) f le more = λ y e. more x (le x refl) y e
and_then bytes (Err d) f le more = λ y e. absurd cc

-- what goes on behind it
behind : {A : Type 0} (bytes rest : List ℕ) (read : Result (A × List ℕ) ReadFault) → length rest ≤ length bytes → NoLonger rest read → NoLonger bytes read
behind bytes rest read le h = λ x e. omega (arith, le, h x e)

either : {A : Type 0} (bytes : List ℕ) (b : Bool) (x y : Result (A × List ℕ) ReadFault) → NoLonger bytes x → NoLonger bytes y → NoLonger bytes (cond b x y)
either bytes true x y one two = one
either bytes false x y one two = two

byte_left : (end : ℕ) (bytes : List ℕ) → NoLonger bytes (byte_at end bytes)
byte_left end bytes = λ x e. omega (arith, ap (length {A = ℕ}) (byte_at-takes end bytes x.0 x.1 e))

u32_left : (end : ℕ) (bytes : List ℕ) → NoLonger bytes (u32_at end bytes)
u32_left end bytes = λ x e. omega (arith, u32_at-shorter end bytes x.0 x.1 e)

signed_left : (N end : ℕ) (bytes : List ℕ) → NoLonger bytes (signed_at N end bytes)
signed_left N end bytes = λ x e. let t = signed_at-takes N end bytes x.0 x.1 e in omega (arith, ap (length {A = ℕ}) t.2, length-append t.1 x.1)

word_left : (n end : ℕ) (bytes : List ℕ) → NoLonger bytes (word_at n end bytes)
word_left n end bytes = λ x e. let t = word_at-takes n end bytes x.0 x.1 e in omega (arith, ap (length {A = ℕ}) t.1, length-append t.0 x.1)

reserved_left : (end : ℕ) (bytes : List ℕ) → NoLonger bytes (reserved_at end bytes)
unfolding reserved_at
reserved_left end bytes =
    and_then bytes (byte_at end bytes) (λ x. cond (eqb x.0 0) (Ok x) (Err (fault BadByte end bytes))) (byte_left end bytes) (λ x le.
    either bytes (eqb x.0 0) (Ok x) (Err (fault BadByte end bytes)) (stays x.0 bytes x.1 le) (refused bytes (fault BadByte end bytes)))

items_left : (n end : ℕ) (bytes : List ℕ) → NoLonger bytes (items_at u32_at n end bytes)
items_left zero end bytes = stays [] bytes bytes (omega arith)
items_left (suc n) end bytes =
    and_then bytes (u32_at end bytes) (λ x. items_at u32_at n end x.1 >>= λ xs. Ok (x.0 ∷ xs.0, xs.1)) (u32_left end bytes) (λ x le.
    and_then bytes (items_at u32_at n end x.1) (λ xs. Ok (x.0 ∷ xs.0, xs.1)) (behind bytes x.1 (items_at u32_at n end x.1) le (items_left n end x.1))
    (λ xs more. stays (x.0 ∷ xs.0) bytes xs.1 more))

vector_left : (end : ℕ) (bytes : List ℕ) → NoLonger bytes (vector_at u32_at end bytes)
unfolding vector_at
vector_left end bytes =
    and_then bytes (u32_at end bytes) (λ n. items_at u32_at n.0 end n.1) (u32_left end bytes)
    (λ n le. behind bytes n.1 (items_at u32_at n.0 end n.1) le (items_left n.0 end n.1))

labels_left : (end : ℕ) (bytes : List ℕ) → NoLonger bytes (labels_at end bytes)
unfolding labels_at
labels_left end bytes =
    and_then bytes (vector_at u32_at end bytes) (λ ls. u32_at end ls.1 >>= λ other. Ok ((ls.0, other.0), other.1)) (vector_left end bytes) (λ ls le.
    and_then bytes (u32_at end ls.1) (λ other. Ok ((ls.0, other.0), other.1)) (behind bytes ls.1 (u32_at end ls.1) le (u32_left end ls.1))
    (λ other more. stays (ls.0, other.0) bytes other.1 more))

form_left : (f : Form) (end : ℕ) (bytes : List ℕ) → NoLonger bytes (behind_form f end bytes)
unfolding behind_form
form_left (Alone p) end bytes = stays p bytes bytes (omega arith)
form_left (WithReserved p) end bytes = and_then bytes (reserved_at end bytes) (λ z. Ok (p, z.1)) (reserved_left end bytes) (λ z le. stays p bytes z.1 le)
form_left (WithIndex make) end bytes = and_then bytes (u32_at end bytes) (λ x. Ok (make x.0, x.1)) (u32_left end bytes) (λ x le. stays (make x.0) bytes x.1 le)
form_left (WithIndexReserved make) end bytes =
    and_then bytes (u32_at end bytes) (λ x. reserved_at end x.1 >>= λ z. Ok (make x.0, z.1)) (u32_left end bytes) (λ x le.
    and_then bytes (reserved_at end x.1) (λ z. Ok (make x.0, z.1)) (behind bytes x.1 (reserved_at end x.1) le (reserved_left end x.1))
    (λ z more. stays (make x.0) bytes z.1 more))
form_left (WithLabels make) end bytes = and_then bytes (labels_at end bytes) (λ ls. Ok (make ls.0.0 ls.0.1, ls.1)) (labels_left end bytes)
    (λ ls le. stays (make ls.0.0 ls.0.1) bytes ls.1 le)
form_left (WithMemarg make) end bytes =
    and_then bytes (u32_at end bytes) (λ a. u32_at end a.1 >>= λ o. Ok (make a.0 o.0, o.1)) (u32_left end bytes) (λ a le.
    and_then bytes (u32_at end a.1) (λ o. Ok (make a.0 o.0, o.1)) (behind bytes a.1 (u32_at end a.1) le (u32_left end a.1))
    (λ o more. stays (make a.0 o.0) bytes o.1 more))
form_left (WithSigned bits make) end bytes = and_then bytes (signed_at bits end bytes) (λ z. Ok (make z.0, z.1)) (signed_left bits end bytes)
    (λ z le. stays (make z.0) bytes z.1 le)
form_left (WithWord size make) end bytes = and_then bytes (word_at size end bytes) (λ w. Ok (make w.0, w.1)) (word_left size end bytes)
    (λ w le. stays (make w.0) bytes w.1 le)

found_left : (o : Option Form) (e : ReadFault) (end : ℕ) (bytes : List ℕ) → NoLonger bytes (or_fail o e >>= λ f. behind_form f end bytes)
found_left (Some f) e end bytes = form_left f end bytes
found_left None e end bytes = refused bytes e

plain_left : (profile : Profile) (e : ReadFault) (opcode end : ℕ) (bytes : List ℕ) → NoLonger bytes (plain_at profile e opcode end bytes)
unfolding plain_at
plain_left profile e opcode end bytes = found_left (form_of profile opcode) e end bytes

index_left : (profile : Profile) (end : ℕ) (bytes : List ℕ) → NoLonger bytes (index_at profile end bytes)
unfolding index_at
index_left Core end bytes = refused bytes (fault BadByte end bytes)
index_left Extended end bytes =
    and_then bytes (signed_at 33 end bytes) (λ z. index_of z.0 (fault BadByte end bytes) >>= λ x. Ok (Index x, z.1)) (signed_left 33 end bytes) (λ z le y e.
    let a = bind_ok (index_of z.0 (fault BadByte end bytes)) (λ x. Ok (Index x, z.1)) y e in
    stays (Index a.0) bytes z.1 le y a.2)

value_left : (o : Option ValType) (bytes rest : List ℕ) (other : Result (BlockType × List ℕ) ReadFault) → length rest ≤ length bytes
    → NoLonger bytes other → NoLonger bytes (or_value o rest other)
value_left (Some t) bytes rest other le h = stays (Value t) bytes rest le
value_left None bytes rest other le h = h

type_left : (profile : Profile) (end : ℕ) (bytes : List ℕ) → NoLonger bytes (type_at profile end bytes)
unfolding type_at
type_left profile end bytes =
    and_then bytes (byte_at end bytes) (λ x. cond (eqb x.0 0x40) (Ok (Empty, x.1)) (or_value (valtype_of x.0) x.1 (index_at profile end bytes)))
    (byte_left end bytes) (λ x le.
    either bytes (eqb x.0 0x40) (Ok (Empty, x.1)) (or_value (valtype_of x.0) x.1 (index_at profile end bytes)) (stays Empty bytes x.1 le)
    (value_left (valtype_of x.0) bytes x.1 (index_at profile end bytes) le (index_left profile end bytes)))

opening_left : (make : BlockType → Tok) (profile : Profile) (ks : List Bool) (at end : ℕ) (bytes : List ℕ)
    → NoLonger bytes (opening_at make profile ks at end bytes)
unfolding type_here
opening_left make profile ks at end bytes =
    and_then bytes (type_here profile ks (record { kind = TooDeep; at = at }) end bytes) (λ ty. Ok (make ty.0, ty.1))
    (either bytes (ltb (length ks) depth_limit) (type_at profile end bytes) (Err (record { kind = TooDeep; at = at })) (type_left profile end bytes)
    (refused bytes (record { kind = TooDeep; at = at }))) (λ ty le. stays (make ty.0) bytes ty.1 le)

tok_left : (profile : Profile) (e : ReadFault) (opcode end : ℕ) (bytes : List ℕ) → NoLonger bytes (tok_at (plain_at profile e opcode) end bytes)
tok_left profile e opcode end bytes = and_then bytes (plain_at profile e opcode end bytes) (λ p. Ok (Simple p.0, p.1))
    (plain_left profile e opcode end bytes) (λ p le. stays (Simple p.0) bytes p.1 le)

behind_left : (profile : Profile) (ks : List Bool) (at opcode end : ℕ) (bytes : List ℕ) → NoLonger bytes (behind_at profile ks at opcode end bytes)
unfolding behind_at
behind_left profile ks at opcode end bytes =
    either bytes (eqb opcode 0x0B) _ _ (stays Close bytes bytes (omega arith)) (
    either bytes (eqb opcode 0x05) _ _ (either bytes (may_else ks) _ _ (stays (Otherwise 0) bytes bytes (omega arith)) (refused bytes _)) (
    either bytes (eqb opcode 0x02) _ _ (opening_left (λ ty. Open kinds.Block ty 0) profile ks at end bytes) (
    either bytes (eqb opcode 0x03) _ _ (opening_left (λ ty. Open kinds.Loop ty 0) profile ks at end bytes) (
    either bytes (eqb opcode 0x04) _ _ (opening_left (λ ty. OpenIf ty 0) profile ks at end bytes) (
    tok_left profile (record { kind = UnknownOpcode; at = at }) opcode end bytes)))))

-- a token takes a byte at least
pub token_shorter : (profile : Profile) (ks : List Bool) (end : ℕ) (bytes : List ℕ) (x : Tok × List ℕ) → token_at profile ks end bytes ≡ Ok x
    → length x.1 < length bytes
token_shorter profile ks end [] x e = absurd cc
token_shorter profile ks end (opcode ∷ bytes) x e = omega (arith, behind_left profile ks _ opcode end bytes x e)

pub token_is_shorter : (profile : Profile) (old new : TokenReading) (from to : Span) (token : Token) → NextToken profile old new from to token
    → length to.rest < length from.rest
token_is_shorter profile old new from to token n = token_shorter profile old.kinds from.end from.rest (told new.labels token, to.rest) n.read

-- ---- an expression from its tokens

on_more : (profile : Profile) (n m end : ℕ) (t : Tok) (rest : List ℕ) (o : Option (List Bool)) (x : With)
    → ((ks : List Bool) (y : With) → parts_at profile n ks end rest ≡ Ok y → parts_at profile m ks end rest ≡ Ok y)
    → then_on t rest o (λ next. parts_at profile n next end rest) ≡ Ok x → then_on t rest o (λ next. parts_at profile m next end rest) ≡ Ok x
on_more profile n m end t rest None x more e = e
on_more profile n m end t rest (Some next) x more e =
    let a = bind_ok (parts_at profile n next end rest) (λ y. Ok (before t y.0, y.1)) x e in
    ap (in_front t) (more next a.0 a.1) ∙ a.2

read_more : (profile : Profile) (n m end : ℕ) (ks : List Bool) (read : Result (Tok × List ℕ) ReadFault) (x : With)
    → ((rest : List ℕ) (next : List Bool) (y : With) → parts_at profile n next end rest ≡ Ok y → parts_at profile m next end rest ≡ Ok y)
    → (read >>= λ t. then_on t.0 t.1 (after t.0 ks) (λ next. parts_at profile n next end t.1)) ≡ Ok x
    → (read >>= λ t. then_on t.0 t.1 (after t.0 ks) (λ next. parts_at profile m next end t.1)) ≡ Ok x
read_more profile n m end ks (Ok t) x more e = on_more profile n m end t.0 t.1 (after t.0 ks) x (more t.1) e
read_more profile n m end ks (Err d) x more e = absurd cc

-- where so many tokens are enough, more give the same
more_tokens : (profile : Profile) (n m : ℕ) (ks : List Bool) (end : ℕ) (bytes : List ℕ) (x : With) → n ≤ m → parts_at profile n ks end bytes ≡ Ok x
    → parts_at profile m ks end bytes ≡ Ok x
unfolding parts_at
more_tokens profile zero m ks end bytes x le e = absurd cc
more_tokens profile (suc n) zero ks end bytes x le e = absurd (omega (arith, le))
more_tokens profile (suc n) (suc m) ks end bytes x le e =
    read_more profile n m end ks (token_at profile ks end bytes) x (λ rest next y h. more_tokens profile n m next end rest y (omega (arith, le)) h) e

one_before : (profile : Profile) (n end : ℕ) (ks next : List Bool) (bytes rest : List ℕ) (t : Tok) (x : With)
    → token_at profile ks end bytes ≡ Ok (t, rest) → after t ks ≡ Some next → parts_at profile n next end rest ≡ Ok x
    → parts_at profile (suc n) ks end bytes ≡ Ok (before t x.0, x.1)
unfolding parts_at
one_before profile n end ks next bytes rest t x e h more = rw (e, h, more) refl

-- a token in front of what the tokens behind it give
pub token_read : (profile : Profile) (old new : TokenReading) (from to : Span) (token : Token) → NextToken profile old new from to token
    → (x : With) → parts_at profile (suc (length to.rest)) new.kinds to.end to.rest ≡ Ok x
    → parts_at profile (suc (length from.rest)) old.kinds from.end from.rest ≡ Ok (before (told new.labels token) x.0, x.1)
token_read profile old new from to token n x e =
    let here : parts_at profile (suc (length to.rest)) new.kinds from.end to.rest ≡ Ok x =
    ap (λ (end : ℕ). parts_at profile (suc (length to.rest)) new.kinds end to.rest) (sym n.same_end) ∙ e in
    one_before profile (length from.rest) from.end old.kinds new.kinds from.rest to.rest (told new.labels token) x n.read n.kinds
    (more_tokens profile (suc (length to.rest)) (length from.rest) new.kinds from.end to.rest x
    (omega (arith, token_is_shorter profile old new from to token n)) here)

-- the end that closes no block
pub last_read : (profile : Profile) (end : ℕ) (rest behind : List ℕ) → token_at profile [] end rest ≡ Ok (Close, behind)
    → parts_at profile (suc (length rest)) [] end rest ≡ Ok (before Close [], behind)
unfolding parts_at
last_read profile end rest behind e = rw e refl

-- an expression, whose parts were read
pub expr_read : (profile : Profile) (end : ℕ) (rest : List ℕ) (x : With) → parts_at profile (suc (length rest)) [] end rest ≡ Ok x
    → expr_at profile end rest ≡ Ok (first_part x.0, x.1)
unfolding expr_at
expr_read profile end rest x e = rw e refl

-- ---- a body from its groups and its expression

groups_then : (profile : Profile) (end n : ℕ) (bytes counted after : List ℕ) (groups : List LocalGroup) (instrs : Instrs)
    → u32_at end bytes ≡ Ok (n, counted) → groups_at n 0 end counted ≡ Ok (groups, after) → expr_at profile end after ≡ Ok (instrs, [])
    → all_body_at profile end bytes ≡ Ok (record { groups = groups; instrs = instrs })
unfolding all_body_at body_at
groups_then profile end n bytes counted after groups instrs c g e = rw (c, g, e) refl

pub body_read : (profile : Profile) (end : ℕ) (bytes after : List ℕ) (groups : List LocalGroup) (instrs : Instrs)
    → local_groups_at end bytes ≡ Ok (groups, after) → expr_at profile end after ≡ Ok (instrs, [])
    → all_body_at profile end bytes ≡ Ok (record { groups = groups; instrs = instrs })
unfolding local_groups_at
body_read profile end bytes after groups instrs g e =
    let a = bind_ok (u32_at end bytes) (λ n. groups_at n.0 0 end n.1) (groups, after) g in
    groups_then profile end a.0.0 bytes a.0.1 after groups instrs a.1 a.2 e
