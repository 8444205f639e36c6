-- A code that is written again while it is read, token by token.
use Rattle.std.proofs.Common.{◌≡◌, ◌≢◌, ℕ, ◌-◌, ◌<◌, ◌≤◌, Bool, true, false, eqb, ltb, inl, inr, List, [], ◌∷◌, ◌++◌, length, take, Some, Ok, Err, refl, sym}
use Rattle.std.proofs.Common.{ap, subst, ◌∙◌, arith, length-append}
use Rattle.std.proofs.lemmas.Bool.{cases_eq, ne_eqb, lt-ltb}
use Rattle.std.proofs.lemmas.List.{take_at}
use Rattle.wk_bytes.specs.declared.fault.ReadKind.TheVariants.{UnknownOpcode, TooDeep}
use Rattle.wk_bytes.specs.declared.fault.ReadFault.{ReadFault}
use Rattle.wk_bytes.specs.LebLaws.{IsBytes, chosen}
use Rattle.wk_bytes.specs.Span.{byte_at}
use Rattle.wk_bytes.specs.SpanLaws.{byte_at-takes}
use Rattle.wk_body.specs.declared.types.Profile.{Profile}
use Rattle.wk_body.specs.declared.types.BlockType.{BlockType}
use Rattle.wk_body.specs.declared.types.BlockKind.TheVariants as kinds
use Rattle.wk_body.specs.declared.reencoder.Reencoder.{Reencoder}
use Rattle.wk_body.specs.Instructions.{Plain}
use Rattle.wk_body.specs.Tree.{Instrs, Finish, Tok, Simple, Open, OpenIf, Otherwise, Close, first_part}
use Rattle.wk_body.specs.Written.{type_bytes, tok_bytes, written_expr}
use Rattle.wk_body.specs.Reading.{type_at, type_here, behind_at, token_at, plain_at, after, may_else, With, parts_at, expr_at}
use Rattle.wk_body.specs.Shape.{depth_limit}
use Rattle.wk_body.specs.ToWrite.{IsNoElse}
use Rattle.wk_body.specs.ReencodedFront.{IsReencoded}
use Rattle.wk_body.specs.Reencoding.{Adds, Passes, PassesType, PassesPlain, Behind, GoesOn}
use Rattle.wk_body.proofs.GrammarTokens.{behind_plain}
use Rattle.wk_body.proofs.Pieces.{type_takes}
use Rattle.wk_body.proofs.OnlyShort.{type_only}
use Rattle.wk_body.proofs.ElseBranch.{is_empty, is_full}
use Rattle.wk_body.proofs.ReencodeLoop as loop
use Rattle.wk_body.proofs.Walking.{stays, adds_none, adds_then}

-- ---- block types

pub type_kept : (profile : Profile) (ks : List Bool) (e : ReadFault) (ty : BlockType) (out : List ℕ) (from to : Reencoder) → IsBytes from.cursor.rest
    → (type_here profile ks e from.cursor.end from.cursor.rest ≡ Ok (ty, to.cursor.rest)) × (to.cursor.end ≡ from.cursor.end)
    → to.pending.now ≡ from.pending.now
    → length from.cursor.rest - length to.cursor.rest ≡ length (type_bytes ty) → Passes (type_here profile ks e) ty (type_bytes ty) out from out to
unfolding type_here
type_kept profile ks e ty out from to fits read same long =
    elim (chosen (ltb (length ks) depth_limit) (type_at profile from.cursor.end from.cursor.rest) (Err e) (Ok (ty, to.cursor.rest)) read.0) [
      | inl p ↦
          let t = type_takes profile from.cursor.end from.cursor.rest (ty, to.cursor.rest) fits p.1 in
          let only = type_only profile ty t.front t.spelled (omega (arith, long, ap length t.parts, length-append t.front to.cursor.rest)) in
          record { is = read.0; same_end = read.1; adds = stays (type_bytes ty) t.front out from to t.parts same only }
      | inr p ↦ absurd cc
    ]

-- a type that is read above some blocks is read above more
pub type_above : (profile : Profile) (ks all : List Bool) (at : ℕ) (ty : BlockType) (out ended : List ℕ) (from to : Reencoder)
    → length all < depth_limit → PassesType profile ks at ty out from ended to → PassesType profile all at ty out from ended to
unfolding type_here
type_above profile ks all at ty out ended from to few p =
    elim (chosen (ltb (length ks) depth_limit) (type_at profile from.cursor.end from.cursor.rest) (Err (record { kind = TooDeep; at = at }))
    (Ok (ty, to.cursor.rest)) p.is) [
      | inl t ↦ record { is = rw (lt-ltb (length all) depth_limit few) t.1; same_end = p.same_end; adds = p.adds }
      | inr n ↦ absurd (let no = n.1 in cc)
    ]

-- ---- tokens

-- the opcode is read
pub behind_opcode : (opcode : ℕ) (from to : Reencoder) → (byte_at from.cursor.end from.cursor.rest ≡ Ok (opcode, to.cursor.rest))
    × (to.cursor.end ≡ from.cursor.end) → to.pending.now ≡ from.pending.now → Behind opcode from to
behind_opcode opcode from to e same =
    record { parts = byte_at-takes from.cursor.end from.cursor.rest opcode to.cursor.rest e.0; same_end = e.1; same_pending = same }

adds_opcode : (opcode : ℕ) (out : List ℕ) (from to : Reencoder) → Behind opcode from to → Adds (opcode ∷ []) out from out to
adds_opcode opcode out from to b = stays (opcode ∷ []) (opcode ∷ []) out from to b.parts b.same_pending refl

-- a token that is no else was read and written
token_goes : (profile : Profile) (before out ended : List ℕ) (first from to : Reencoder) (ks next : List Bool) (t : Tok) → IsNoElse t
    → after t ks ≡ Some next → token_at profile ks from.cursor.end from.cursor.rest ≡ Ok (t, to.cursor.rest) → to.cursor.end ≡ from.cursor.end
    → Adds (tok_bytes t) out from ended to
    → GoesOn profile before first ks out from → GoesOn profile before first next ended to
token_goes profile before out ended first from to ks next t no_else a read same adds g = (
  g.0 ++ tok_bytes t,
  loop.goes_on profile first.cursor from.cursor to.cursor ks next t g.0 no_else same read a g.1,
  adds_then g.0 (tok_bytes t) before out ended first from to g.2 adds,
)

token_plain : (profile : Profile) (ks : List Bool) (opcode end : ℕ) (p : Plain) (rest later : List ℕ) → (opcode ≡ 0x0B → ⊥) → (opcode ≡ 0x05 → ⊥)
    → (opcode ≡ 0x02 → ⊥) → (opcode ≡ 0x03 → ⊥) → (opcode ≡ 0x04 → ⊥) → ((e : ReadFault) → plain_at profile e opcode end rest ≡ Ok (p, later))
    → token_at profile ks end (opcode ∷ rest) ≡ Ok (Simple p, later)
token_plain profile ks opcode end p rest later n0 n1 n2 n3 n4 read =
    let at = end - length (opcode ∷ rest) in
    behind_plain profile ks at opcode end rest n0 n1 n2 n3 n4 ∙ rw (read (record { kind = UnknownOpcode; at = at })) refl

pub plain_goes : (profile : Profile) (before out ended : List ℕ) (first from mid to : Reencoder) (ks next : List Bool) (opcode : ℕ)
    → (opcode ≡ 0x0B → ⊥) → (opcode ≡ 0x05 → ⊥) → (opcode ≡ 0x02 → ⊥) → (opcode ≡ 0x03 → ⊥) → (opcode ≡ 0x04 → ⊥) → ks ≡ next
    → Behind opcode from mid → PassesPlain profile opcode out mid ended to → GoesOn profile before first ks out from → GoesOn profile before first next ended to
plain_goes profile before out ended first from mid to ks next opcode n0 n1 n2 n3 n4 same b p g =
    let here = λ (e : ReadFault). ap (λ (end : ℕ). plain_at profile e opcode end mid.cursor.rest) (sym b.same_end) ∙ p.is e in
    let read = ap (λ (r : List ℕ). token_at profile ks from.cursor.end r) b.parts
    ∙ token_plain profile ks opcode from.cursor.end p.instr mid.cursor.rest to.cursor.rest n0 n1 n2 n3 n4 here in
    let adds = subst (λ (bytes : List ℕ). Adds bytes out from ended to) (sym p.spelled)
    (adds_then (opcode ∷ []) p.bytes out out ended from mid to (adds_opcode opcode out from mid b) p.adds) in
    token_goes profile before out ended first from to ks next (Simple p.instr) tt (ap (λ (ks : List Bool). Some ks) same) read (p.same_end ∙ b.same_end) adds g

-- ---- tokens that open a block

abbrev TypeHere : Profile → List Bool → ℕ → ℕ → List ℕ → BlockType → List ℕ → Type 0
TypeHere profile ks opcode end rest ty later = type_here profile ks (record { kind = TooDeep; at = end - length (opcode ∷ rest) }) end rest ≡ Ok (ty, later)

token_block : (profile : Profile) (ks : List Bool) (end : ℕ) (ty : BlockType) (rest later : List ℕ) → TypeHere profile ks 0x02 end rest ty later
    → token_at profile ks end (0x02 ∷ rest) ≡ Ok (Open kinds.Block ty 0, later)
unfolding behind_at
token_block profile ks end ty rest later e = rw e refl

token_loop : (profile : Profile) (ks : List Bool) (end : ℕ) (ty : BlockType) (rest later : List ℕ) → TypeHere profile ks 0x03 end rest ty later
    → token_at profile ks end (0x03 ∷ rest) ≡ Ok (Open kinds.Loop ty 0, later)
unfolding behind_at
token_loop profile ks end ty rest later e = rw e refl

token_if : (profile : Profile) (ks : List Bool) (end : ℕ) (ty : BlockType) (rest later : List ℕ) → TypeHere profile ks 0x04 end rest ty later
    → token_at profile ks end (0x04 ∷ rest) ≡ Ok (OpenIf ty 0, later)
unfolding behind_at
token_if profile ks end ty rest later e = rw e refl

opening_goes : (profile : Profile) (before out ended : List ℕ) (first from mid to : Reencoder) (ks next : List Bool) (opcode at : ℕ) (ty : BlockType)
    (t : Tok) → (TypeHere profile ks opcode from.cursor.end mid.cursor.rest ty to.cursor.rest
    → token_at profile ks from.cursor.end (opcode ∷ mid.cursor.rest) ≡ Ok (t, to.cursor.rest))
    → IsNoElse t → after t ks ≡ Some next → tok_bytes t ≡ opcode ∷ type_bytes ty → at ≡ from.cursor.end - length from.cursor.rest
    → Behind opcode from mid → Passes (type_here profile ks (record { kind = TooDeep; at = at })) ty (type_bytes ty) out mid ended to
    → GoesOn profile before first ks out from → GoesOn profile before first next ended to
opening_goes profile before out ended first from mid to ks next opcode at ty t token no_else a bytes there b p g =
    let place : at ≡ from.cursor.end - length (opcode ∷ mid.cursor.rest) = there ∙ ap (λ (r : List ℕ). from.cursor.end - length r) b.parts in
    let here : TypeHere profile ks opcode from.cursor.end mid.cursor.rest ty to.cursor.rest =
    ap (λ (at : ℕ). type_here profile ks (record { kind = TooDeep; at = at }) from.cursor.end mid.cursor.rest) (sym place)
    ∙ ap (λ (end : ℕ). type_here profile ks (record { kind = TooDeep; at = at }) end mid.cursor.rest) (sym b.same_end) ∙ p.is in
    let read = ap (λ (r : List ℕ). token_at profile ks from.cursor.end r) b.parts ∙ token here in
    let adds = subst (λ (bytes : List ℕ). Adds bytes out from ended to) (sym bytes)
    (adds_then (opcode ∷ []) (type_bytes ty) out out ended from mid to (adds_opcode opcode out from mid b) p.adds) in
    token_goes profile before out ended first from to ks next t no_else a read (p.same_end ∙ b.same_end) adds g

-- at an opcode that was read, and a type behind it
module _ (profile : Profile) (before out ended : List ℕ) (first from mid to : Reencoder) (ks next : List Bool) (opcode at : ℕ) (ty : BlockType)
    (there : at ≡ from.cursor.end - length from.cursor.rest)
    (p : Passes (type_here profile ks (record { kind = TooDeep; at = at })) ty (type_bytes ty) out mid ended to)
    (g : GoesOn profile before first ks out from) where
  block_goes : opcode ≡ 0x02 → next ≡ false ∷ ks → Behind opcode from mid → GoesOn profile before first next ended to
  block_goes is opened b =
      opening_goes profile before out ended first from mid to ks next 0x02 at ty (Open kinds.Block ty 0)
      (token_block profile ks from.cursor.end ty mid.cursor.rest to.cursor.rest) tt (ap (λ (ks : List Bool). Some ks) (sym opened)) refl there
      (subst (λ (o : ℕ). Behind o from mid) is b) p g

  loop_goes : opcode ≡ 0x03 → next ≡ false ∷ ks → Behind opcode from mid → GoesOn profile before first next ended to
  loop_goes is opened b =
      opening_goes profile before out ended first from mid to ks next 0x03 at ty (Open kinds.Loop ty 0)
      (token_loop profile ks from.cursor.end ty mid.cursor.rest to.cursor.rest) tt (ap (λ (ks : List Bool). Some ks) (sym opened)) refl there
      (subst (λ (o : ℕ). Behind o from mid) is b) p g

  if_goes : opcode ≡ 0x04 → next ≡ true ∷ ks → Behind opcode from mid → GoesOn profile before first next ended to
  if_goes is opened b =
      opening_goes profile before out ended first from mid to ks next 0x04 at ty (OpenIf ty 0)
      (token_if profile ks from.cursor.end ty mid.cursor.rest to.cursor.rest) tt (ap (λ (ks : List Bool). Some ks) (sym opened)) refl there
      (subst (λ (o : ℕ). Behind o from mid) is b) p g

  pub opener_goes : 0x02 ≤ opcode → opcode ≤ 0x04 → next ≡ eqb opcode 0x04 ∷ ks → Behind opcode from mid → GoesOn profile before first next ended to
  opener_goes low high opened b =
      elim (cases_eq opcode 0x02) [
        | inl e ↦ block_goes e (opened ∙ ap (λ (o : ℕ). eqb o 0x04 ∷ ks) e) b
        | inr n2 ↦ elim (cases_eq opcode 0x03) [
          | inl e ↦ loop_goes e (opened ∙ ap (λ (o : ℕ). eqb o 0x04 ∷ ks) e) b
          | inr n3 ↦ let e : opcode ≡ 0x04 = omega (arith, n2, n3) in if_goes e (opened ∙ ap (λ (o : ℕ). eqb o 0x04 ∷ ks) e) b
        ]
      ]

-- ---- ends

token_close : (profile : Profile) (ks : List Bool) (end : ℕ) (rest : List ℕ) → token_at profile ks end (0x0B ∷ rest) ≡ Ok (Close, rest)
unfolding behind_at
token_close profile ks end rest = refl

close_read : (profile : Profile) (ks : List Bool) (from to : Reencoder) → Behind 0x0B from to
    → token_at profile ks from.cursor.end from.cursor.rest ≡ Ok (Close, to.cursor.rest)
close_read profile ks from to b = ap (λ (r : List ℕ). token_at profile ks from.cursor.end r) b.parts ∙ token_close profile ks from.cursor.end to.cursor.rest

pub close_goes : (profile : Profile) (before out : List ℕ) (first from to : Reencoder) (ks next : List Bool) (opcode : ℕ) → opcode ≡ 0x0B
    → after Close ks ≡ Some next → Behind opcode from to → GoesOn profile before first ks out from → GoesOn profile before first next out to
close_goes profile before out first from to ks next opcode is a b g =
    let c = subst (λ (o : ℕ). Behind o from to) is b in
    token_goes profile before out out first from to ks next Close tt a (close_read profile ks from to c) c.same_end (adds_opcode 0x0B out from to c) g

pub close_ends : (profile : Profile) (before out : List ℕ) (first from to : Reencoder) (ks : List Bool) (opcode : ℕ) → opcode ≡ 0x0B → ks ≡ []
    → Behind opcode from to → GoesOn profile before first ks out from → (t : Instrs) × Passes (expr_at profile) t (written_expr t) before first out to
close_ends profile before out first from to ks opcode is none b g =
    let c = subst (λ (o : ℕ). Behind o from to) is b in
    let u : IsReencoded profile first.cursor [] from.cursor g.0 = subst (λ (ks : List Bool). IsReencoded profile first.cursor ks from.cursor g.0) none g.1 in
    let t = loop.ends profile first.cursor from.cursor to.cursor g.0 (close_read profile [] from to c) u in (
      t.0,
      record {
        is = t.1;
        same_end = c.same_end ∙ u.same_end;
        adds = subst (λ (bytes : List ℕ). Adds bytes before first out to) (sym t.2)
            (adds_then g.0 (0x0B ∷ []) before out out first from to g.2 (adds_opcode 0x0B out from to c));
      },
    )

-- ---- else

token_else : (profile : Profile) (ks : List Bool) (end : ℕ) (rest : List ℕ) → token_at profile (true ∷ ks) end (0x05 ∷ rest) ≡ Ok (Otherwise 0, rest)
unfolding behind_at
token_else profile ks end rest = refl

else_read : (profile : Profile) (ks : List Bool) (from to : Reencoder) → Behind 0x05 from to
    → token_at profile (true ∷ ks) from.cursor.end from.cursor.rest ≡ Ok (Otherwise 0, to.cursor.rest)
else_read profile ks from to b = ap (λ (r : List ℕ). token_at profile (true ∷ ks) from.cursor.end r) b.parts
    ∙ token_else profile ks from.cursor.end to.cursor.rest

-- the branch holds something
pub else_stays : (profile : Profile) (before out : List ℕ) (first from to : Reencoder) (ks next : List Bool) (opcode : ℕ) (later : List ℕ)
    → may_else ks ≡ true → after (Otherwise 0) ks ≡ Some next → to.cursor.rest ≡ opcode ∷ later → (opcode ≡ 0x0B → ⊥)
    → Behind 0x05 from to → GoesOn profile before first ks out from → GoesOn profile before first next out to
else_stays profile before out first from to [] next opcode later may a parts other b g = absurd cc
else_stays profile before out first from to (false ∷ ks) next opcode later may a parts other b g = absurd cc
else_stays profile before out first from to (true ∷ ks) next opcode later may a parts other b g =
    let same : false ∷ ks ≡ next = cc in
    let holds : (n : ℕ) (x : With) → parts_at profile n (false ∷ ks) first.cursor.end to.cursor.rest ≡ Ok x
    → first_part x.0 ≢ Finish = λ n x e. is_full profile ks first.cursor.end opcode later n x (ne_eqb opcode 0x0B other)
    (ap (λ (r : List ℕ). parts_at profile n (false ∷ ks) first.cursor.end r) (sym parts) ∙ e) in
    subst (λ (ks : List Bool). GoesOn profile before first ks out to) same (
      g.0 ++ 0x05 ∷ [],
      loop.goes_else profile first.cursor from.cursor to.cursor ks 0 g.0 b.same_end (else_read profile ks from to b) holds g.1,
      adds_then g.0 (0x05 ∷ []) before out out first from to g.2 (adds_opcode 0x05 out from to b),
    )

-- all that was read is written, but for what stands in front of the cursor
written_out : (out ended : List ℕ) (left : ℕ) (from to : Reencoder) → left ≡ length from.cursor.rest
    → ended ≡ out ++ take (length from.pending.now - left) from.pending.now → to.pending.now ≡ to.cursor.rest → Adds [] out from ended to
written_out out ended left from to rest is same = λ written h.
    let long : length from.pending.now - left ≡ length h.0 = omega (arith, rest, ap length h.1, length-append h.0 from.cursor.rest) in
    let said : take (length from.pending.now - left) from.pending.now ≡ h.0 =
    ap (λ (n : ℕ). take n from.pending.now) long ∙ ap (take (length h.0)) h.1 ∙ take_at h.0 from.cursor.rest (length h.0) refl in
    ([], same, ap (λ (b : List ℕ). b ++ []) (h.2 ∙ ap (λ (b : List ℕ). out ++ b) (sym said) ∙ sym is))

-- the branch is empty
pub else_goes : (profile : Profile) (before out ended : List ℕ) (first from to : Reencoder) (ks next : List Bool) (later : List ℕ) (opcode left : ℕ)
    → may_else ks ≡ true → after (Otherwise 0) ks ≡ Some next → to.cursor.rest ≡ opcode ∷ later → opcode ≡ 0x0B
    → (0x05 ∷ to.cursor.rest ≡ from.cursor.rest) → to.cursor.end ≡ from.cursor.end
    → left ≡ length from.cursor.rest → (pending : List ℕ) → pending ≡ from.pending.now → ended ≡ out ++ take (length pending - left) pending
    → to.pending.now ≡ to.cursor.rest → GoesOn profile before first ks out from → GoesOn profile before first next ended to
else_goes profile before out ended first from to [] next later opcode left may a parts is five same_end rest pending same_pending written same g = absurd cc
else_goes profile before out ended first from to (false ∷ ks) next later opcode left may a parts is five same_end rest pending same_pending written same g =
    absurd cc
else_goes profile before out ended first from to (true ∷ ks) next later opcode left may a parts is five same_end rest pending same_pending written same g =
    let opened : false ∷ ks ≡ next = cc in
    let read = ap (λ (r : List ℕ). token_at profile (true ∷ ks) from.cursor.end r) (sym five) ∙ token_else profile ks from.cursor.end to.cursor.rest in
    let end_there : 0x0B ∷ later ≡ to.cursor.rest = ap (λ (o : ℕ). o ∷ later) (sym is) ∙ sym parts in
    let empty : (n : ℕ) (x : With) → parts_at profile n (false ∷ ks) first.cursor.end to.cursor.rest ≡ Ok x
    → first_part x.0 ≡ Finish = λ n x e. is_empty profile ks first.cursor.end later n x
    (ap (λ (r : List ℕ). parts_at profile n (false ∷ ks) first.cursor.end r) end_there ∙ e) in
    subst (λ (ks : List Bool). GoesOn profile before first ks ended to) opened (
      g.0 ++ [],
      loop.drops_else profile first.cursor from.cursor to.cursor ks 0 g.0 same_end read empty g.1,
      adds_then g.0 [] before out ended first from to g.2
          (written_out out ended left from to rest (written ∙ ap (λ (r : List ℕ). out ++ take (length r - left) r) same_pending) same),
    )

-- ---- the whole expression

pub expr_begins : (profile : Profile) (out : List ℕ) (from : Reencoder) (ks : List Bool) → ks ≡ [] → GoesOn profile out from ks out from
expr_begins profile out from ks none = subst (λ (ks : List Bool). GoesOn profile out from ks out from) (sym none)
    ([], loop.begins profile from.cursor, adds_none out from)
