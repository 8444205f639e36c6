-- A scratch that is given one token more.
use Rattle.std.proofs.Common.{◌≡◌, ℕ, ◌+◌, ◌≤◌, Bool, List, [], ◌∷◌, ◌++◌, length, map, reverse, Some, refl, sym, ap, ◌∙◌, append_assoc, arith, length-append}
use Rattle.std.specs.List.{AllByRecursion}
use Rattle.std.proofs.lemmas.List.{map-append, reverse-append, length-map, append-nil}
use Rattle.wk_body.specs.declared.types.BlockType.{BlockType}
use Rattle.wk_body.specs.declared.types.BlockKind.TheVariants as kinds
use Rattle.wk_body.specs.declared.token.Token.{Token}
use Rattle.wk_body.specs.declared.token.Token.TheVariants as kept
use Rattle.wk_body.specs.declared.scratch.Opened.{Opened}
use Rattle.wk_body.specs.declared.scratch.Opened.TheVariants as opened
use Rattle.wk_body.specs.declared.scratch.Scratch.{Scratch}
use Rattle.wk_body.specs.Tree.{Instrs, Finish, One, Block, If, Tok, Simple, Open, OpenIf, Close, Part, else_part, flatten, append, before, over}
use Rattle.wk_body.specs.TreeLaws.{over-append}
use Rattle.wk_body.specs.Reading.{after}
use Rattle.wk_body.specs.Kept.{told, all_told, IsWithin}
use Rattle.wk_body.specs.Building.{Frame, InBlock, InThen, written_frame, written_frames, place_of, toks_of, kind_of, kinds_of, size_of, Built, Good, Adds}
use Rattle.wk_body.specs.Building.{IsSimple}

pub flatten-append : (t s : Instrs) → flatten (append t s) ≡ flatten t ++ flatten s
flatten-append Finish s = refl
flatten-append (One p rest) s = ap (λ (r : List Tok). Simple p ∷ r) (flatten-append rest s)
flatten-append (Block kind ty inside rest) s =
    ap (λ (r : List Tok). Open kind ty (length (flatten inside)) ∷ (flatten inside ++ Close ∷ r)) (flatten-append rest s)
    ∙ ap (λ (r : List Tok). Open kind ty (length (flatten inside)) ∷ r) (sym (append_assoc (flatten inside) (Close ∷ flatten rest) (flatten s)))
flatten-append (If ty first second rest) s =
    let inside = flatten first ++ else_part (flatten second) in
    ap (λ (r : List Tok). OpenIf ty (length inside) ∷ (inside ++ Close ∷ r)) (flatten-append rest s)
    ∙ ap (λ (r : List Tok). OpenIf ty (length inside) ∷ r) (sym (append_assoc inside (Close ∷ flatten rest) (flatten s)))

pub all-push : {X : Type 0} (P : X → Type 0) (xs : List X) (x : X) → AllByRecursion P xs → P x → AllByRecursion P (xs ++ x ∷ [])
all-push P [] x h p = (p, tt)
all-push P (y ∷ ys) x h p = (h.0, all-push P ys x h.1 p)

pub told-push : (pool : List ℕ) (ts : List Token) (t : Token) → all_told pool (ts ++ t ∷ []) ≡ all_told pool ts ++ told pool t ∷ []
told-push pool ts t = map-append (told pool) ts (t ∷ [])

pub over-push : (ts : List Tok) (t : Tok) (xs : List Part) → over (ts ++ t ∷ []) xs ≡ over ts (before t xs)
over-push ts t xs = over-append ts (t ∷ []) xs

pub kinds-push : (os : List Opened) (o : Opened) → reverse (map kind_of (os ++ o ∷ [])) ≡ kind_of o ∷ reverse (map kind_of os)
kinds-push os o = ap (reverse {A = Bool}) (map-append kind_of os (o ∷ [])) ∙ reverse-append (map kind_of os) (kind_of o ∷ [])

-- a token at the end, and the frames that are open then
pub record Grown (old new : Scratch) (token : Token) : Type 0 where
  pub tokens : new.tokens.items ≡ old.tokens.items ++ token ∷ []
  pub labels : new.labels.items ≡ old.labels.items

written-push : (pool : List ℕ) (tokens : List Token) (token : Token) (a b : List Tok) → all_told pool tokens ≡ a → a ++ told pool token ∷ [] ≡ b
    → all_told pool (tokens ++ token ∷ []) ≡ b
written-push pool tokens token a b e f = told-push pool tokens token ∙ ap (λ (w : List Tok). w ++ told pool token ∷ []) e ∙ f

grown_adds : (old new : Scratch) (token : Token) (t : Tok) → Grown old new token → told old.labels.items token ≡ t
    → (frames : List Frame) (current : Instrs) → Built old.labels.items (old.tokens.items ++ token ∷ []) new.blocks.items frames current
    → (xs : List Part) → over (toks_of new) xs ≡ over (toks_of old) (before t xs)
grown_adds old new token t g e frames current b xs = rw (g.labels, g.tokens, told-push old.labels.items old.tokens.items token, e)
    (over-push (toks_of old) t xs)

grown_good : (old new : Scratch) (token : Token) → Grown old new token → (frames : List Frame) (current : Instrs)
    → Built old.labels.items (old.tokens.items ++ token ∷ []) new.blocks.items frames current → Good new
grown_good old new token g frames current b = record { frames = frames; current = current; built = rw (g.labels, g.tokens) b }

grown_size : (old new : Scratch) (token : Token) → Grown old new token → size_of new ≤ size_of old + 1
grown_size old new token g = rw (g.labels, g.tokens) (omega (arith, length-append old.tokens.items (token ∷ [])))

pub push_adds : (old new : Scratch) (token : Token) → Grown old new token → new.blocks.items ≡ old.blocks.items → Good old
    → IsSimple (told old.labels.items token) → IsWithin (length old.labels.items) token → Adds old new (told old.labels.items token)
push_adds old new token g same good simple within =
    let pool = old.labels.items in
    let w : all_told pool (old.tokens.items ++ token ∷ []) ≡ written_frames good.frames ++ flatten (append good.current (One simple.0 Finish)) =
    written-push pool old.tokens.items token (written_frames good.frames ++ flatten good.current) _ good.built.written
    (ap (λ (t : Tok). (written_frames good.frames ++ flatten good.current) ++ t ∷ []) simple.1
    ∙ append_assoc (written_frames good.frames) (flatten good.current) (Simple simple.0 ∷ [])
    ∙ ap (λ (r : List Tok). written_frames good.frames ++ r) (sym (flatten-append good.current (One simple.0 Finish)))) in
    let b : Built pool (old.tokens.items ++ token ∷ []) new.blocks.items good.frames (append good.current (One simple.0 Finish)) =
    record { written = w; places = same ∙ good.built.places; within = all-push (IsWithin (length pool)) old.tokens.items token good.built.within within } in
    record {
      good = grown_good old new token g good.frames (append good.current (One simple.0 Finish)) b;
      parts = grown_adds old new token (told pool token) g refl good.frames (append good.current (One simple.0 Finish)) b;
      kinds = rw (simple.1, same) refl;
      size = grown_size old new token g;
    }

-- where the next token stands
next_place : (pool : List ℕ) (tokens : List Token) (frames : List Frame) (current : Instrs)
    → all_told pool tokens ≡ written_frames frames ++ flatten current → length tokens ≡ length (written_frames frames) + length (flatten current)
next_place pool tokens frames current e = sym (length-map tokens (told pool)) ∙ ap (length {A = Tok}) e
    ∙ length-append (written_frames frames) (flatten current)

-- A token that opens a block, and the frame of the block.
pub record OpensBlock (token : Token) (t : Tok) (o : ℕ → Opened) (frame : Instrs → Frame) : Type 0 where
  pub told_as : (pool : List ℕ) → told pool token ≡ t
  pub within : (n : ℕ) → IsWithin n token
  pub written : (front : Instrs) → written_frame (frame front) ≡ flatten front ++ t ∷ []
  pub place : (n : ℕ) (front : Instrs) → place_of n (frame front) ≡ o (n + length (flatten front))
  pub kinds : (n : ℕ) (ks : List Bool) → after t ks ≡ Some (kind_of (o n) ∷ ks)

pub opening_adds : (old new : Scratch) (token : Token) (t : Tok) (o : ℕ → Opened) (frame : Instrs → Frame) → OpensBlock token t o frame
    → Grown old new token → new.blocks.items ≡ old.blocks.items ++ o (length old.tokens.items) ∷ [] → Good old → Adds old new t
opening_adds old new token t o frame opens g more good =
    let pool = old.labels.items in
    let frames = frame good.current ∷ good.frames in
    let b : Built pool (old.tokens.items ++ token ∷ []) new.blocks.items frames Finish = record {
      written = written-push pool old.tokens.items token _ _ good.built.written
          (rw (opens.told_as pool, opens.written good.current)
          (append_assoc (written_frames good.frames) (flatten good.current) (t ∷ []) ∙ sym (append-nil _)));
      places = more ∙ rw (
        good.built.places,
        next_place pool old.tokens.items good.frames good.current good.built.written,
        opens.place (length (written_frames good.frames)) good.current,
      ) refl;
      within = all-push (IsWithin (length pool)) old.tokens.items token good.built.within (opens.within (length pool));
    } in
    record {
      good = grown_good old new _ g frames Finish b;
      parts = grown_adds old new _ t g (opens.told_as pool) frames Finish b;
      kinds = opens.kinds (length old.tokens.items) (kinds_of old) ∙ ap Some (sym (rw more (kinds-push old.blocks.items (o (length old.tokens.items)))));
      size = grown_size old new _ g;
    }

pub opens_block : (ty : BlockType) → OpensBlock (kept.Block ty 0) (Open kinds.Block ty 0) opened.Block (InBlock kinds.Block ty)
opens_block ty = record { told_as = λ pool. refl; within = λ n. tt; written = λ front. refl; place = λ n front. refl; kinds = λ n ks. refl }

pub opens_loop : (ty : BlockType) → OpensBlock (kept.Loop ty 0) (Open kinds.Loop ty 0) opened.Block (InBlock kinds.Loop ty)
opens_loop ty = record { told_as = λ pool. refl; within = λ n. tt; written = λ front. refl; place = λ n front. refl; kinds = λ n ks. refl }

pub opens_if : (ty : BlockType) → OpensBlock (kept.If ty 0) (OpenIf ty 0) opened.Then (InThen ty)
opens_if ty = record { told_as = λ pool. refl; within = λ n. tt; written = λ front. refl; place = λ n front. refl; kinds = λ n ks. refl }
