-- Whether an else branch that begins at a place is empty: the next byte tells.
use Rattle.std.proofs.Common.{◌≡◌, ◌≢◌, ℕ, zero, suc, Bool, true, false, cond, eqb, List, [], ◌∷◌, length, ◌-◌, Option, Some, None, Result, Ok, Err, refl, sym}
use Rattle.std.proofs.Common.{ap, subst, ◌∙◌, arith}
use Rattle.wk_bytes.specs.declared.fault.ReadKind.TheVariants.{UnknownOpcode, TooDeep}
use Rattle.wk_body.specs.declared.types.BlockKind.TheVariants as kinds
use Rattle.wk_bytes.specs.declared.fault.ReadFault.{ReadFault}
use Rattle.wk_bytes.specs.Leb.{◌>>=◌}
use Rattle.wk_bytes.specs.SpanLaws.{ok_is}
use Rattle.wk_body.specs.declared.types.Profile.{Profile}
use Rattle.wk_body.specs.declared.types.BlockType.{BlockType}
use Rattle.wk_body.specs.Tree.{Finish, Tok, Simple, Open, OpenIf, Otherwise, Close, Part, before, first_part}
use Rattle.wk_body.specs.Reading.{after, behind_at, opening_at, plain_at, type_here, token_at, then_on, With, in_front, parts_at}
use Rattle.wk_body.specs.ToWrite.{Parted}
use Rattle.wk_body.proofs.Loop.{one_more}
use Rattle.wk_body.proofs.WrittenParts.{parts_len}

close_read : (profile : Profile) (ks : List Bool) (end : ℕ) (r : List ℕ) → token_at profile ks end (0x0B ∷ r) ≡ Ok (Close, r)
unfolding behind_at
close_read profile ks end r = refl

close_front : (read : Result With ReadFault) (x : With) → in_front Close read ≡ Ok x → first_part x.0 ≡ Finish
close_front (Err e) x h = absurd cc
close_front (Ok y) x h =
    let same : before Close y.0 ≡ x.0 = ap (λ (w : With). w.0) (ok_is (before Close y.0, y.1) x h) in
    ap first_part (sym same)

pub is_empty : (profile : Profile) (ks : List Bool) (end : ℕ) (r : List ℕ) (n : ℕ) (x : With) → parts_at profile n (false ∷ ks) end (0x0B ∷ r) ≡ Ok x
    → first_part x.0 ≡ Finish
unfolding parts_at
is_empty profile ks end r zero x e = absurd cc
is_empty profile ks end r (suc n) x e =
    close_front (parts_at profile n ks end r) x
    (sym (one_more profile n end (false ∷ ks) ks (0x0B ∷ r) r Close (close_read profile (false ∷ ks) end r) refl) ∙ e)

-- a token that begins an instruction
abbrev Begins : Tok → Type 0
Begins (Simple p) = Unit {0}
Begins (Open kind ty skip) = Unit {0}
Begins (OpenIf ty skip) = Unit {0}
Begins (Otherwise skip) = ⊥
Begins Close = ⊥

abbrev AllBegin : Result (Tok × List ℕ) ReadFault → Type 0
AllBegin read = (t : Tok × List ℕ) → read ≡ Ok t → Begins t.0

either : (c : Bool) (a b : Result (Tok × List ℕ) ReadFault) → AllBegin a → AllBegin b → AllBegin (cond c a b)
either true a b f g = f
either false a b f g = g

made : {A : Type 0} (make : A → Tok) → ((x : A) → Begins (make x)) → (read : Result (A × List ℕ) ReadFault) → AllBegin (read >>= λ x. Ok (make x.0, x.1))
made make h (Err e) = λ t e. absurd cc
made make h (Ok x) = λ t e. subst (λ (t : Tok × List ℕ). Begins t.0) (ok_is (make x.0, x.1) t e) (h x.0)

opens : (make : BlockType → Tok) → ((ty : BlockType) → Begins (make ty)) → (profile : Profile) (ks : List Bool) (at end : ℕ) (bytes : List ℕ)
    → AllBegin (opening_at make profile ks at end bytes)
opens make h profile ks at end bytes = made make h (type_here profile ks (record { kind = TooDeep; at = at }) end bytes)

-- where no else may come, what does not begin with an end begins an instruction
begins_some : (profile : Profile) (ks : List Bool) (at opcode end : ℕ) (bytes : List ℕ) → eqb opcode 0x0B ≡ false
    → AllBegin (behind_at profile (false ∷ ks) at opcode end bytes)
unfolding behind_at
begins_some profile ks at opcode end bytes other =
    rw other (
    either (eqb opcode 0x05) _ _ (λ t e. absurd cc) (
    either (eqb opcode 0x02) _ _ (opens (λ ty. Open kinds.Block ty 0) (λ ty. tt) profile (false ∷ ks) at end bytes) (
    either (eqb opcode 0x03) _ _ (opens (λ ty. Open kinds.Loop ty 0) (λ ty. tt) profile (false ∷ ks) at end bytes) (
    either (eqb opcode 0x04) _ _ (opens (λ ty. OpenIf ty 0) (λ ty. tt) profile (false ∷ ks) at end bytes)
    (made Simple (λ p. tt) (plain_at profile (record { kind = UnknownOpcode; at = at }) opcode end bytes))))))

some_front : (t : Tok) (ks next : List Bool) (read : Result With ReadFault) (x : With) → Begins t → after t ks ≡ Some next
    → ((y : With) → read ≡ Ok y → Parted next y.0) → in_front t read ≡ Ok x → first_part x.0 ≢ Finish
some_front t ks next (Err e) x b a more h = absurd cc
some_front t ks next (Ok y) x b a more h =
    let same : before t y.0 ≡ x.0 = ap (λ (w : With). w.0) (ok_is (before t y.0, y.1) x h) in
    subst (λ (xs : List Part). first_part xs ≢ Finish) same (some_part t ks next y.0 b a (more y refl))
  where
    some_part : (t : Tok) (ks next : List Bool) (xs : List Part) → Begins t → after t ks ≡ Some next → Parted next xs → first_part (before t xs) ≢ Finish
    some_part t ks next [] b a parted = absurd (omega (arith, parted))
    some_part (Simple p) ks next (x ∷ xs) b a parted = λ e. cc
    some_part (Open kind ty skip) ks next (x ∷ []) b a parted =
        let same : false ∷ ks ≡ next = cc in
        absurd (omega (arith, parted, ap length same))
    some_part (Open kind ty skip) ks next (x ∷ y ∷ ys) b a parted = λ e. cc
    some_part (OpenIf ty skip) ks next (x ∷ []) b a parted =
        let same : true ∷ ks ≡ next = cc in
        absurd (omega (arith, parted, ap length same))
    some_part (OpenIf ty skip) ks next (x ∷ y ∷ ys) b a parted = λ e. cc
    some_part (Otherwise skip) ks next (x ∷ xs) b a parted = absurd b
    some_part Close ks next (x ∷ xs) b a parted = absurd b

then_some : (t : Tok) (rest : List ℕ) (ks : List Bool) (o : Option (List Bool)) (more : List Bool → Result With ReadFault) (x : With) → Begins t
    → after t ks ≡ o → ((next : List Bool) (y : With) → more next ≡ Ok y → Parted next y.0) → then_on t rest o more ≡ Ok x → first_part x.0 ≢ Finish
then_some (Simple p) rest ks None more x b a h e = absurd cc
then_some (Open kind ty skip) rest ks None more x b a h e = absurd cc
then_some (OpenIf ty skip) rest ks None more x b a h e = absurd cc
then_some (Otherwise skip) rest ks None more x b a h e = absurd b
then_some Close rest ks None more x b a h e = absurd b
then_some t rest ks (Some next) more x b a h e = some_front t ks next (more next) x b a (h next) e

on_some : (ks : List Bool) (r : Result (Tok × List ℕ) ReadFault) (more : List ℕ → List Bool → Result With ReadFault) (x : With) → AllBegin r
    → ((rest : List ℕ) (next : List Bool) (y : With) → more rest next ≡ Ok y → Parted next y.0)
    → (r >>= λ t. then_on t.0 t.1 (after t.0 ks) (more t.1)) ≡ Ok x → first_part x.0 ≢ Finish
on_some ks (Err f) more x b h e = absurd cc
on_some ks (Ok t) more x b h e = then_some t.0 t.1 ks (after t.0 ks) (more t.1) x (b t refl) refl (h t.1) e

pub is_full : (profile : Profile) (ks : List Bool) (end opcode : ℕ) (r : List ℕ) (n : ℕ) (x : With) → eqb opcode 0x0B ≡ false
    → parts_at profile n (false ∷ ks) end (opcode ∷ r) ≡ Ok x → first_part x.0 ≢ Finish
unfolding parts_at
is_full profile ks end opcode r zero x other e = absurd cc
is_full profile ks end opcode r (suc n) x other e =
    on_some (false ∷ ks) (token_at profile (false ∷ ks) end (opcode ∷ r)) (λ rest next. parts_at profile n next end rest) x
    (begins_some profile ks (end - length (opcode ∷ r)) opcode end r other) (λ rest next y h. parts_len profile n next end rest y h) e
