-- What words say is what they spell, and the other way round.
use Rattle.std.proofs.Common.{◌≡◌, ◌==◌, not, ℕ, ◌<◌, Bool, true, false, cond, inl, inr, ◌⊎◌, List, [], ◌∷◌, ◌++◌, length, take, drop, map, Option, Some, None}
use Rattle.std.proofs.Common.{Result, Ok, Err, codes, refl, sym, ap, subst, ◌∙◌, arith}
use Rattle.std.specs.Prelude.{All, ◌≢◌, if◌then◌else◌, slice_index_or}
use Rattle.std.specs.List.{AllPass, join_with_byte, list_all}
use Rattle.std.specs.Str.{IsUtf8, bytes_eq, is_utf8}
use Rattle.std.proofs.lemmas.Bool.{false_from_ne_true}
use Rattle.std.proofs.lemmas.List.{take-append-drop}
use Rattle.std.proofs.lemmas.List.Elements.{All-nil, All-cons, All-append}
use Rattle.std.proofs.lemmas.List.Sums.{AllPass-from_list_all, list_all-from_AllPass}
use Rattle.std.proofs.lemmas.List.Splits.{join_with_byte-slice_split, length-slice_split}
use Rattle.std.proofs.lemmas.Slice.Eq.{bytes_eq-Decides}
use Rattle.std.proofs.lemmas.Str.{is_utf8-from_IsUtf8, IsUtf8-from_is_utf8}
use Rattle.hex.specs.Hex.{decode_of, is_hex_digit}
use Rattle.hex.specs.declared.error.FromHexError.{FromHexError}
use Rattle.hex.proofs.HexLemmas.{decode_of-ok}
use Rattle.wk_bytes.specs.LebLaws.{some_is}
use Rattle.wk_body.specs.declared.types.ValType.{ValType}
use Rattle.wk_body.specs.declared.types.ValType.TheVariants.{I32, I64, F32, F64}
use Rattle.wk_module.specs.declared.types.Kind.{Kind}
use Rattle.wk_module.specs.declared.types.Kind.TheVariants as kinds
use Rattle.wk_edit.specs.Pieces.{pieces}
use Rattle.wk_edit.specs.Words.{◌>>=◌, kind_named, mutable_named, type_named, all_named, types_of, is_graphic, is_plain, utf8_of, name_of, spelled_of, data_of}
use Rattle.wk_edit.specs.ScriptGrammar.{kind_word, mutable_word, type_name, types_word, IsPlainName, IsHexName, SpellsName, SpellsData}
use Rattle.wk_edit.proofs.Joining.{IsWithout, pieces-join, All-join}

-- ---- tests and steps

pub bind_some : {A B : Type 0} (o : Option A) (f : A → Option B) (y : B) → (o >>= f) ≡ Some y → (x : A) × (o ≡ Some x) × (f x ≡ Some y)
bind_some (Some x) f y e = (x, refl, e)
bind_some None f y e = absurd cc

-- what is there only where a test holds
pub tested_some : {A : Type 0} (b : Bool) (x y : A) → (if b then Some x else None) ≡ Some y → (b ≡ true) × (x ≡ y)
tested_some true x y e = (refl, some_is x y e)
tested_some false x y e = absurd cc

-- which way a test of bytes went
pub tested : {A : Type 0} (a b : List ℕ) (x y z : A) → cond (bytes_eq a b) x y ≡ z → ((a ≡ b) × (x ≡ z)) ⊎ ((bytes_eq a b ≡ false) × (y ≡ z))
tested {A} a b x y z e = by (bytes_eq a b) refl e
  where
    by : (t : Bool) → bytes_eq a b ≡ t → cond t x y ≡ z → ((a ≡ b) × (x ≡ z)) ⊎ ((bytes_eq a b ≡ false) × (y ≡ z))
    by true is h = inl ((bytes_eq-Decides a b).0 is, h)
    by false is h = inr (is, h)

pub unequal : (a b : List ℕ) → a ≢ b → bytes_eq a b ≡ false
unequal a b differ = false_from_ne_true (bytes_eq a b) (λ is. differ ((bytes_eq-Decides a b).0 is))

-- which of the values a word names, where each has a word
abbrev pub named_of : {A : Type 0} → (A → List ℕ) → List A → List ℕ → Option A
named_of word [] w = None
named_of word (x ∷ xs) w = if bytes_eq w (word x) then Some x else named_of word xs w

-- a word that names a value is the value's word
pub named_told : {A : Type 0} (word : A → List ℕ) (xs : List A) (w : List ℕ) (x : A) → named_of word xs w ≡ Some x → w ≡ word x
named_told word [] w x e = absurd cc
named_told word (y ∷ ys) w x e = elim (tested w (word y) (Some y) (named_of word ys w) (Some x) e) [
  | inl p ↦ p.0 ∙ ap word (some_is y x p.1)
  | inr p ↦ named_told word ys w x p.1
]

-- ---- types

pub type_is : (w : List ℕ) (t : ValType) → type_named w ≡ Some t → w ≡ type_name t
type_is w t e = named_told type_name (I32 ∷ I64 ∷ F32 ∷ F64 ∷ []) w t e

types_are : (ws : List (List ℕ)) (ts : List ValType) → all_named ws ≡ Some ts → ws ≡ map type_name ts
unfolding all_named
types_are [] ts e = ap (map type_name) (some_is [] ts e)
types_are (w ∷ ws) ts e =
    let a = bind_some (type_named w) (λ t. all_named ws >>= λ more. Some (t ∷ more)) ts e in
    let b = bind_some (all_named ws) (λ more. Some (a.0 ∷ more)) ts a.2 in
    let front : w ≡ type_name a.0 = type_is w a.0 a.1 in
    let back : ws ≡ map type_name b.0 = types_are ws b.0 b.1 in
    subst (λ (us : List ValType). w ∷ ws ≡ map type_name us) (some_is (a.0 ∷ b.0) ts b.2) cc

some_pieces : (w : List ℕ) → 0 < length (pieces 44 w)
some_pieces w = omega (arith, length-slice_split (λ b. b == 44) w)

joined_types : (w : List ℕ) (ts : List ValType) → pieces 44 w ≡ map type_name ts → w ≡ types_word ts
joined_types w [] e = absurd (omega (arith, some_pieces w, ap length e))
joined_types w (t ∷ ts) e = sym (join_with_byte-slice_split 44 w) ∙ ap (join_with_byte 44) e

-- a word that says types is theirs
pub types_told : (w : List ℕ) (ts : List ValType) → types_of w ≡ Some ts → w ≡ types_word ts
types_told w ts e = elim (tested w (codes "-") (Some []) (all_named (pieces 44 w)) (Some ts) e) [
  | inl p ↦ p.0 ∙ ap types_word (some_is [] ts p.1)
  | inr p ↦ joined_types w ts (types_are (pieces 44 w) ts p.1)
]

pub type_back : (t : ValType) → type_named (type_name t) ≡ Some t
type_back I32 = refl
type_back t = refl

types_back : (ts : List ValType) → all_named (map type_name ts) ≡ Some ts
unfolding all_named
types_back [] = refl
types_back (t ∷ ts) = rw (type_back t, types_back ts) refl

pub graphic_type : (t : ValType) → AllPass is_graphic (type_name t)
graphic_type I32 = AllPass-from_list_all is_graphic (type_name I32) refl
graphic_type t = AllPass-from_list_all is_graphic (type_name t) refl

not_true : (b : Bool) → not b ≡ true → b ≡ false
not_true true e = absurd cc
not_true false e = refl

without : (c : ℕ) (w : List ℕ) → list_all (λ x. not (x == c)) w ≡ true → IsWithout c w
without c w e k d within = not_true _ (AllPass-from_list_all (λ x. not (x == c)) w e k d within)

free_type : (t : ValType) → IsWithout 44 (type_name t)
free_type I32 = without 44 (type_name I32) refl
free_type t = without 44 (type_name t) refl

each_type : (P : List ℕ → Type 0) → ((t : ValType) → P (type_name t)) → (ts : List ValType) → All P (map type_name ts)
each_type P holds [] = All-nil P
each_type P holds (t ∷ ts) = All-cons P (type_name t) (map type_name ts) (holds t) (each_type P holds ts)

no_dash : (t : ValType) (ts : List ValType) → bytes_eq (types_word (t ∷ ts)) (codes "-") ≡ false
no_dash I32 [] = refl
no_dash I32 (u ∷ ts) = refl
no_dash t [] = refl
no_dash t (u ∷ ts) = refl

-- the word of types says them
pub types_said : (ts : List ValType) → types_of (types_word ts) ≡ Some ts
types_said [] = refl
types_said (t ∷ ts) =
    rw (no_dash t ts) (ap all_named (pieces-join 44 (type_name t) (map type_name ts) (each_type (IsWithout 44) free_type (t ∷ ts))) ∙ types_back (t ∷ ts))

pub graphic_types : (ts : List ValType) → AllPass is_graphic (types_word ts)
graphic_types [] = AllPass-from_list_all is_graphic (codes "-") refl
graphic_types (t ∷ ts) = All-join (λ x. is_graphic x ≡ true) 44 (map type_name (t ∷ ts)) refl (each_type (AllPass is_graphic) graphic_type (t ∷ ts))

-- ---- kinds and globals

pub kind_told : (w : List ℕ) (k : Kind) → kind_named w ≡ Some k → w ≡ kind_word k
kind_told w k e = named_told kind_word (kinds.Func ∷ kinds.Table ∷ kinds.Memory ∷ kinds.Global ∷ []) w k e

pub kind_said : (k : Kind) → kind_named (kind_word k) ≡ Some k
kind_said kinds.Func = refl
kind_said k = refl

pub graphic_kind : (k : Kind) → AllPass is_graphic (kind_word k)
graphic_kind kinds.Func = AllPass-from_list_all is_graphic (kind_word kinds.Func) refl
graphic_kind k = AllPass-from_list_all is_graphic (kind_word k) refl

pub mutable_told : (w : List ℕ) (b : Bool) → mutable_named w ≡ Some b → w ≡ mutable_word b
mutable_told w b e = named_told mutable_word (false ∷ true ∷ []) w b e

pub mutable_said : (b : Bool) → mutable_named (mutable_word b) ≡ Some b
mutable_said false = refl
mutable_said true = refl

pub graphic_mutable : (b : Bool) → AllPass is_graphic (mutable_word b)
graphic_mutable false = AllPass-from_list_all is_graphic (codes "const") refl
graphic_mutable true = AllPass-from_list_all is_graphic (codes "var") refl

-- ---- names

utf8_told : (r : Result (List ℕ) FromHexError) (name : List ℕ) → utf8_of r ≡ Some name → (r ≡ Ok name) × IsUtf8 name
utf8_told (Err d) name e = absurd cc
utf8_told (Ok bytes) name e =
    let p = tested_some (is_utf8 bytes) bytes name e in
    (ap Ok p.1, subst IsUtf8 p.1 (IsUtf8-from_is_utf8 bytes p.0))

plain_told : (w name : List ℕ) → take 2 w ≢ codes "x:" → (if is_plain w then Some w else None) ≡ Some name → IsPlainName w name
plain_told w name bare e =
    let p = tested_some (is_plain w) w name e in
    subst (IsPlainName w) p.1 (record {
      same = refl;
      some = λ none. absurd (grind (arith, p.0, none));
      graphic = AllPass-from_list_all is_graphic w (grind (arith, p.0));
      bare = bare;
    })

-- a word that says a name spells it
pub name_told : (w name : List ℕ) → name_of w ≡ Some name → SpellsName w name
name_told w name e = elim (tested (take 2 w) (codes "x:") (utf8_of (decode_of (drop 2 w))) (if is_plain w then Some w else None) (Some name) e) [
  | inl p ↦
      let u = utf8_told (decode_of (drop 2 w)) name p.1 in
      inr (record {
        digits = drop 2 w;
        parts = sym (take-append-drop 2 w) ∙ ap (λ (front : List ℕ). front ++ drop 2 w) p.0;
        spelled = u.0;
        utf8 = u.1;
      })
  | inr p ↦ inl (plain_told w name (λ is. absurd (cc (p.0, (bytes_eq-Decides (take 2 w) (codes "x:")).1 is))) p.1)
]

plain_said : (w name : List ℕ) → IsPlainName w name → name_of w ≡ Some name
plain_said w name n =
    let filled : (length name == 0) ≡ false = grind (arith, n.some) in
    rw (n.same, unequal (take 2 name) (codes "x:") n.bare, filled, list_all-from_AllPass is_graphic name n.graphic) refl

hex_said : (w name : List ℕ) → IsHexName w name → name_of w ≡ Some name
hex_said w name n = rw (n.parts, n.spelled, is_utf8-from_IsUtf8 name n.utf8) refl

-- a word that spells a name says it
pub name_said : (w name : List ℕ) → SpellsName w name → name_of w ≡ Some name
name_said w name (inl n) = plain_said w name n
name_said w name (inr n) = hex_said w name n

hex_graphic : (x : ℕ) → is_hex_digit x ≡ true → is_graphic x ≡ true
hex_graphic x e = grind (arith, e)

pub graphic_name : (w name : List ℕ) → SpellsName w name → AllPass is_graphic w
graphic_name w name (inl n) = subst (AllPass is_graphic) (sym n.same) n.graphic
graphic_name w name (inr n) =
    let digits = (decode_of-ok n.digits name n.spelled).1 in
    subst (AllPass is_graphic) (sym n.parts)
    (All-append (λ x. is_graphic x ≡ true) (codes "x:") n.digits (AllPass-from_list_all is_graphic (codes "x:") refl)
    (λ k d within. hex_graphic (slice_index_or n.digits k d) (digits k d within)))

-- ---- bytes

some_word : (x : ℕ) (w : List ℕ) → (x ∷ w) ≢ []
some_word x w none = absurd cc

filled : (x : ℕ) (w : List ℕ) → (length (x ∷ w) == 0) ≡ false
filled x w = grind (arith)

hex_told : (w bytes : List ℕ) (r : Result (List ℕ) FromHexError) → (if length w == 0 then None else spelled_of r) ≡ Some bytes → (w ≢ []) × (r ≡ Ok bytes)
hex_told [] bytes r e = absurd cc
hex_told (x ∷ w) bytes (Err d) e = let never : spelled_of (Err d) ≡ Some bytes = rw (filled x w) at e in absurd cc
hex_told (x ∷ w) bytes (Ok found) e = (some_word x w, ap Ok (some_is found bytes (rw (filled x w) at e)))

-- a word that says bytes spells them
pub data_told : (w bytes : List ℕ) → data_of w ≡ Some bytes → SpellsData w bytes
data_told w bytes e = elim (tested w (codes "-") (Some []) (if length w == 0 then None else spelled_of (decode_of w)) (Some bytes) e) [
  | inl p ↦ inl (p.0, sym (some_is [] bytes p.1))
  | inr p ↦ inr (hex_told w bytes (decode_of w) p.1)
]

-- no digits begin with `-`
not_dash : (w bytes : List ℕ) → decode_of w ≡ Ok bytes → w ≢ codes "-"
not_dash w bytes spelled is = let fault : decode_of (codes "-") ≡ Ok bytes = ap decode_of (sym is) ∙ spelled in absurd cc

hex_said_data : (w bytes : List ℕ) → w ≢ [] → decode_of w ≡ Ok bytes → data_of w ≡ Some bytes
hex_said_data [] bytes some spelled = absurd (some refl)
hex_said_data (x ∷ w) bytes some spelled = rw (unequal (x ∷ w) (codes "-") (not_dash (x ∷ w) bytes spelled), filled x w, spelled) refl

-- a word that spells bytes says them
pub data_said : (w bytes : List ℕ) → SpellsData w bytes → data_of w ≡ Some bytes
data_said w bytes (inl p) = rw (p.0, p.1) refl
data_said w bytes (inr p) = hex_said_data w bytes p.0 p.1

pub graphic_data : (w bytes : List ℕ) → SpellsData w bytes → AllPass is_graphic w
graphic_data w bytes (inl p) = subst (AllPass is_graphic) (sym p.0) (AllPass-from_list_all is_graphic (codes "-") refl)
graphic_data w bytes (inr p) = let digits = (decode_of-ok w bytes p.1).1 in λ k d within. hex_graphic (slice_index_or w k d) (digits k d within)
