-- A module put out piece after piece.
use Rattle.std.proofs.Common.{◌≡◌, ◌≢◌, ℕ, zero, suc, ◌+◌, ◌<◌, ◌≤◌, Bool, if◌then◌else◌, Option, Some, List, [], ◌∷◌, ◌++◌, length, map, take, drop, slice_get}
use Rattle.std.proofs.Common.{slice_index_or, refl, sym, ap, ◌∙◌, arith, append_assoc, length-append}
use Rattle.std.specs.Prelude.{Result, Ok, Err, OnOk, OnErr}
use Rattle.std.specs.Result.{IsErr, IsErrAnd}
use Rattle.std.proofs.lemmas.Bool.{eq-eqb}
use Rattle.std.proofs.lemmas.List.{flat_map_more, length-map, take_more}
use Rattle.std.proofs.lemmas.List.Sums.{sum_by-cons}
use Rattle.std.proofs.lemmas.Option.{get_or_from_slice_get, slice_get_within}
use Rattle.std.specs.List.{flat_map}
use Rattle.std.specs.Io.KnownBytes.{Appends}
use Rattle.wk_bytes.specs.Frames.{limit, magic, version}
use Rattle.wk_bytes.specs.Short.{short}
use Rattle.wk_bytes.specs.ShortLaws.{short-some}
use Rattle.wk_bytes.specs.Taken.{TakesFront}
use Rattle.wk_bytes.specs.TakenLaws.{Appends-then, TakesFront-first, TakesFront-then, on_err_known}
use Rattle.wk_body.specs.Vectors.{written_vector}
use Rattle.wk_module.specs.declared.types.Custom.{Custom}
use Rattle.wk_module.specs.declared.types.Parts.{Parts}
use Rattle.wk_module.specs.Formats.{written_bytes}
use Rattle.wk_module.specs.Sections.{of_number}
use Rattle.wk_module.specs.Shape.{lists_of}
use Rattle.wk_module.specs.Sizes.{entry_size}
use Rattle.wk_module.specs.Writing.{contents_by, customs_at, encoded, framed, ids, section_of}
use Rattle.wk_module.specs.WritingLaws.{at_place, contents_by-lent, customs_at-cons, id_is, piece_le, section_none, section_some, written_frame}
use Rattle.wk_pieces.specs.Overlays.{with_items}
use Rattle.wk_pieces.specs.Pieces.{code_of, code_section, entries_size, framed_some, section_piece, section_pieces}
use Rattle.wk_pieces.specs.Puts.{Takes}
use Rattle.wk_pieces.specs.Recoded.{encoded_with, place_with}
use Rattle.wk_pieces.specs.RecodedLaws.{recoded}

-- ---- what calls take, one after the other

module _ {T E : Type 0} where
  -- the first of them failed
  pub fails_first : (r : Result T E) (a b : Option (List ℕ)) (xs ys all : List ℕ) → TakesFront a b xs → all ≡ xs ++ ys → OnErr r (TakesFront a b all)
  fails_first r a b xs ys all p is = on_err_known r (rw is (TakesFront-first a b xs ys p))

  -- the first of them took all of its bytes, and the others may have failed
  pub fails_later : (r : Result T E) (a b c : Option (List ℕ)) (xs ys all : List ℕ) → Appends a b xs → OnErr r (TakesFront b c ys) → all ≡ xs ++ ys
      → OnErr r (TakesFront a c all)
  fails_later (Ok x) a b c xs ys all p q is = tt
  fails_later (Err e) a b c xs ys all p q is = rw is (TakesFront-then a b c xs ys p q)

  -- the same of calls that take all of their bytes, or fail
  pub takes : (r : Result T E) (a b : Option (List ℕ)) (xs : List ℕ) → OnOk r (Appends a b xs) → OnErr r (TakesFront a b xs) → Takes a b xs r
  takes (Ok x) a b xs ok err = ok
  takes (Err e) a b xs ok err = err

  pub takes_first : (r : Result T E) (a b : Option (List ℕ)) (xs ys all : List ℕ) (f : E) → IsErr r × IsErrAnd r (λ e. e ≡ f) → TakesFront a b xs
      → all ≡ xs ++ ys → Takes a b all r
  takes_first (Ok x) a b xs ys all f returns p is = absurd cc
  takes_first (Err e) a b xs ys all f returns p is = rw is (TakesFront-first a b xs ys p)

  pub takes_later : (r : Result T E) (a b c : Option (List ℕ)) (xs ys all : List ℕ) → Appends a b xs → Takes b c ys r → all ≡ xs ++ ys → Takes a c all r
  takes_later (Ok x) a b c xs ys all p q is = rw is (Appends-then a b c xs ys p q)
  takes_later (Err e) a b c xs ys all p q is = rw is (TakesFront-then a b c xs ys p q)

-- ---- pieces of lists

-- what comes of the items up to one, of it, and of those behind
pub flat_split : {A : Type 0} (f : A → List ℕ) (xs : List A) (i : ℕ) (x : A) → i < length xs → x ≡ slice_index_or xs i x
    → flat_map f xs ≡ flat_map f (take i xs) ++ (f x ++ flat_map f (drop (suc i) xs))
flat_split f [] i x within is = absurd (omega arith)
flat_split f (y ∷ xs) zero x within is = ap (λ z. f z ++ flat_map f xs) (sym is)
flat_split f (y ∷ xs) (suc i) x within is =
    ap (λ (b : List ℕ). f y ++ b) (flat_split f xs i x (omega arith) is)
    ∙ sym (append_assoc (f y) (flat_map f (take i xs)) (f x ++ flat_map f (drop (suc i) xs)))

-- one item more
flat_more : {A : Type 0} (f : A → List ℕ) (xs : List A) (i : ℕ) (x : A) → i < length xs → x ≡ slice_index_or xs i x
    → flat_map f (take (i + 1) xs) ≡ flat_map f (take i xs) ++ f x
flat_more f xs i x within is = ap (flat_map f) (take_more xs i x within ∙ ap (λ y. take i xs ++ y ∷ []) (sym is)) ∙ sym (flat_map_more f [] (take i xs) x)

pub customs_split : (place : ℕ) (cs : List Custom) (i : ℕ) (c : Custom) → i < length cs → c ≡ slice_index_or cs i c
    → customs_at place cs ≡ customs_at place (take i cs) ++ (at_place c.place (written_frame c) place ++ customs_at place (drop (suc i) cs))
customs_split place [] i c within is = absurd (omega arith)
customs_split place (d ∷ cs) zero c within is = customs_at-cons d cs place
    ∙ ap (λ (e : Custom). at_place e.place (written_frame e) place ++ customs_at place cs) (sym is)
customs_split place (d ∷ cs) (suc i) c within is =
    let first = at_place d.place (written_frame d) place in
    let later = at_place c.place (written_frame c) place ++ customs_at place (drop (suc i) cs) in
    customs_at-cons d cs place
    ∙ ap (λ (b : List ℕ). first ++ b) (customs_split place cs i c (omega arith) is)
    ∙ sym (append_assoc first (customs_at place (take i cs)) later)
    ∙ ap (λ (b : List ℕ). b ++ later) (sym (customs_at-cons d (take i cs) place))

-- where it stands at the place
pub custom_split : (place : ℕ) (cs : List Custom) (i : ℕ) (c : Custom) → i < length cs → c ≡ slice_index_or cs i c → c.place ≡ place
    → customs_at place cs ≡ customs_at place (take i cs) ++ (written_frame c ++ customs_at place (drop (suc i) cs))
custom_split place cs i c within is here =
    customs_split place cs i c within is
    ∙ ap (λ (b : Bool). customs_at place (take i cs) ++ ((if b then written_frame c else []) ++ customs_at place (drop (suc i) cs))) (eq-eqb c.place place here)

-- an item of a list that is mapped
pub at_map : {A B : Type 0} (f : A → B) (xs : List A) (i : ℕ) (x : A) (y : B) → i < length xs → x ≡ slice_index_or xs i x
    → y ≡ slice_index_or (map f xs) i y → y ≡ f x
at_map f [] i x y within is at = absurd (omega arith)
at_map f (z ∷ xs) zero x y within is at = at ∙ ap f (sym is)
at_map f (z ∷ xs) (suc i) x y within is at = at_map f xs i x y (omega arith) is at

-- ---- sections

framed_is : (m : Parts) (id : ℕ) (contents : List ℕ) → contents_by (lists_of m) (of_number id) ≡ contents → section_of m id ≡ framed_some id contents
framed_is m id [] is = section_none (lists_of m) (of_number id) (ap length is)
framed_is m id (x ∷ xs) is = section_some (lists_of m) id (of_number id) refl (omega (arith, ap length is)) ∙ ap (framed id) is

pub framed_within : (id : ℕ) (contents : List ℕ) → length contents ≤ length (framed_some id contents)
framed_within id [] = omega arith
framed_within id (x ∷ xs) = omega (arith, length-append (short (length (x ∷ xs))) (x ∷ xs))

pub section_framed : (m : Parts) (id : ℕ) → id ≢ 10 → section_of m id ≡ framed_some id (section_piece id m)
section_framed m id other = framed_is m id (section_piece id m) (sym (contents_by-lent (lists_of m) id other))

pub piece_at : (m : Parts) (id : ℕ) (piece : List ℕ) → id < 12 → piece ≡ slice_index_or (section_pieces m) id piece → piece ≡ section_piece id m
piece_at m id piece within is = at_map (λ (i : ℕ). section_piece i m) ids id id piece within (id_is id within) is

-- ---- codes

pub entries_length : (codes : List (List ℕ)) → entries_size codes ≡ length (flat_map written_bytes codes)
entries_length [] = refl
entries_length (c ∷ cs) =
    omega (
      arith,
      sum_by-cons (λ (code : List ℕ). entry_size (length code)) c cs,
      entries_length cs,
      length-append (short (length c)) c,
      length-append (written_bytes c) (flat_map written_bytes cs),
    )

entries_most : (codes : List (List ℕ)) → length codes ≤ entries_size codes
entries_most [] = omega arith
entries_most (c ∷ cs) = omega (arith, sum_by-cons (λ (code : List ℕ). entry_size (length code)) c cs, entries_most cs, short-some (length c))

some_codes : (codes : List (List ℕ)) → length codes ≢ 0 → code_section codes ≡ framed 10 (written_vector written_bytes codes)
some_codes [] some = absurd (some refl)
some_codes (c ∷ cs) some = refl

-- the code section in the order in which it is put out
pub code_section_is : (codes : List (List ℕ)) (size : ℕ) → length codes ≢ 0 → size ≡ length (short (length codes)) + entries_size codes
    → code_section codes ≡ (10 ∷ short size) ++ (short (length codes) ++ flat_map written_bytes codes)
code_section_is codes size some is =
    let whole = written_vector written_bytes codes in
    let same : length whole ≡ size = omega (arith, is, entries_length codes, length-append (short (length codes)) (flat_map written_bytes codes)) in
    some_codes codes some ∙ ap (λ (n : ℕ). 10 ∷ (short n ++ whole)) same

-- what stands in the section of some codes
pub contents_within : (codes : List (List ℕ)) → length codes ≢ 0 → length (short (length codes)) + entries_size codes ≤ length (code_section codes)
contents_within codes some =
    let whole = written_vector written_bytes codes in
    let section = ap length (some_codes codes some) in
    omega (
      arith,
      section,
      entries_length codes,
      length-append (short (length codes)) (flat_map written_bytes codes),
      length-append (short (length whole)) whole,
    )

-- the same of any codes, none or some
pub entries_within : (codes : List (List ℕ)) → (length codes ≤ entries_size codes) × (entries_size codes ≤ length (code_section codes))
entries_within [] = (omega arith, omega arith)
entries_within (c ∷ cs) = (entries_most (c ∷ cs), omega (arith, contents_within (c ∷ cs) (λ none. absurd (omega (arith, none)))))

-- a code among them
module _ (codes : List (List ℕ)) (i : ℕ) (code : List ℕ) (there : slice_get codes i ≡ Some code) where
  within : i < length codes
  within = slice_get_within codes i code there

  at : code ≡ slice_index_or codes i code
  at = sym (get_or_from_slice_get codes i code code there)

  pub code_split : flat_map written_bytes codes ≡ flat_map written_bytes (take i codes) ++ (written_bytes code ++ flat_map written_bytes (drop (suc i) codes))
  code_split = flat_split written_bytes codes i code within at

  pub code_more : flat_map written_bytes (take (i + 1) codes) ≡ flat_map written_bytes (take i codes) ++ written_bytes code
  code_more = flat_more written_bytes codes i code within at

  pub code_few : entries_size codes ≤ limit → length code ≤ limit
  code_few few = omega (arith, few, entries_length codes, piece_le written_bytes codes i code within at, length-append (short (length code)) code)

pub codes_length : (m : Parts) (codes : List (List ℕ)) → codes ≡ map code_of m.funcs → length codes ≡ length m.funcs
codes_length m codes is = ap length is ∙ length-map m.funcs code_of

-- ---- a module with these codes

module _ (m : Parts) (codes : List (List ℕ)) where
  -- the magic and the version come first
  pub form_first : encoded_with m codes ≡ (magic ++ version) ++ flat_map (place_with m codes) ids
  unfolding encoded_with
  form_first = refl

  -- the form up to a place, what stands there, and the rest
  pub form_split : (id : ℕ) → id < 12
      → encoded_with m codes
      ≡ ((magic ++ version) ++ flat_map (place_with m codes) (take id ids)) ++ (place_with m codes id ++ flat_map (place_with m codes) (drop (suc id) ids))
  form_split id lt =
      let later = place_with m codes id ++ flat_map (place_with m codes) (drop (suc id) ids) in
      form_first
      ∙ ap (λ (b : List ℕ). (magic ++ version) ++ b) (flat_split (place_with m codes) ids id id lt (id_is id lt))
      ∙ sym (append_assoc (magic ++ version) (flat_map (place_with m codes) (take id ids)) later)

  -- one place more
  pub form_more : (id : ℕ) → id < 12
      → (magic ++ version) ++ flat_map (place_with m codes) (take (id + 1) ids)
      ≡ ((magic ++ version) ++ flat_map (place_with m codes) (take id ids)) ++ place_with m codes id
  form_more id lt =
      ap (λ (b : List ℕ). (magic ++ version) ++ b) (flat_more (place_with m codes) ids id id lt (id_is id lt))
      ∙ sym (append_assoc (magic ++ version) (flat_map (place_with m codes) (take id ids)) (place_with m codes id))

  -- what stands at a place is within the form
  pub place_within : (id : ℕ) → id < 12 → length (place_with m codes id) ≤ length (encoded_with m codes)
  place_within id lt =
      let all = flat_map (place_with m codes) ids in
      omega (arith, ap length form_first, piece_le (place_with m codes) ids id id lt (id_is id lt), length-append (magic ++ version) all)

  -- so are the codes
  pub entries_in_form : entries_size codes ≤ length (encoded_with m codes)
  entries_in_form = omega (arith, (entries_within codes).1, place_within 10 (omega arith), length-append (code_section codes) (customs_at 10 m.customs))

-- ---- a session's module

-- with codes in the place of those that are kept
pub session_codes : (p m n : Parts) (kept : List (List ℕ)) (news : List (Option (List ℕ))) → p ≡ m → m ≡ n → kept ≡ map code_of m.funcs
    → encoded_with p (with_items kept news) ≡ encoded_with n (with_items (map code_of n.funcs) news)
session_codes p m n kept news first second is =
    ap (λ (q : Parts). encoded_with q (with_items kept news)) (first ∙ second)
    ∙ ap (λ (codes : List (List ℕ)). encoded_with n (with_items codes news)) (is ∙ ap (λ (q : Parts). map code_of q.funcs) second)

-- with those
pub session_form : (p m n : Parts) (kept : List (List ℕ)) → p ≡ m → m ≡ n → kept ≡ map code_of m.funcs → encoded_with p kept ≡ encoded n
session_form p m n kept first second is =
    ap (λ (q : Parts). encoded_with q kept) first ∙ ap (encoded_with m) is ∙ recoded m m refl refl ∙ ap encoded second
