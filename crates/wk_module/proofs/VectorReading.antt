-- Items read one after the other, as a loop reads them.
use Rattle.std.proofs.Common.{◌≡◌, ℕ, suc, ◌+◌, ◌-◌, ◌<◌, ◌≤◌, List, [], ◌∷◌, ◌++◌, length, get_or, Result, Ok, Err, refl, sym, ap, ◌∙◌, inl, inr, append_assoc}
use Rattle.std.proofs.Common.{arith}
use Rattle.std.proofs.lemmas.Bool.{cases_lt, lt-ltb}
use Rattle.std.proofs.lemmas.List.{append-nil}
use Rattle.wk_bytes.specs.declared.fault.ReadKind.TheVariants.{LongInput}
use Rattle.wk_bytes.specs.declared.fault.ReadFault.{ReadFault}
use Rattle.wk_bytes.specs.Leb.{◌>>=◌}
use Rattle.wk_bytes.specs.LebLaws.{done}
use Rattle.wk_bytes.specs.Frames.{limit, header_at, sections_of}
use Rattle.wk_body.specs.declared.types.Profile.{Profile}
use Rattle.wk_body.specs.Bodies.{BodyOf}
use Rattle.wk_body.specs.Vectors.{items_at}
use Rattle.wk_module.specs.declared.types.Func.{Func}
use Rattle.wk_module.specs.Formats.{Reader, all_at}
use Rattle.wk_module.specs.Reading.{Progress, sections_read, zipped}

-- what was read before, and what is still read
abbrev pub with_front : {A : Type 0} → List A → Result (List A × List ℕ) ReadFault → Result (List A × List ℕ) ReadFault
with_front front read = read >>= λ x. Ok (front ++ x.0, x.1)

pub nothing_before : {A : Type 0} (r : Result (List A × List ℕ) ReadFault) → with_front [] r ≡ r
nothing_before (Ok x) = refl
nothing_before (Err e) = refl

module _ {A : Type 0} (read : ℕ → List ℕ → Result (A × List ℕ) ReadFault) where
  regroup : (front : List A) (x : A) (r : Result (List A × List ℕ) ReadFault)
      → with_front front (r >>= λ xs. Ok (x ∷ xs.0, xs.1)) ≡ with_front (front ++ x ∷ []) r
  regroup front x (Ok xs) = ap (λ (ys : List A). done (ys, xs.1)) (simp append_assoc)
  regroup front x (Err f) = refl

  pub goes_on : (front : List A) (count i end : ℕ) (bytes : List ℕ) (x : A) (after : List ℕ) → i < count → read end bytes ≡ Ok (x, after)
      → with_front front (items_at read (count - i) end bytes) ≡ with_front (front ++ x ∷ []) (items_at read (count - (i + 1)) end after)
  goes_on front count i end bytes x after lt h =
      let k : count - i ≡ suc (count - (i + 1)) = omega arith in
      rw (k, h) (regroup front x (items_at read (count - (i + 1)) end after))

  pub stops : (front : List A) (count i end : ℕ) (bytes : List ℕ) (f : ReadFault) → i < count → read end bytes ≡ Err f
      → with_front front (items_at read (count - i) end bytes) ≡ Err f
  stops front count i end bytes f lt h =
      let k : count - i ≡ suc (count - (i + 1)) = omega arith in
      rw (k, h) refl

  pub stops_all : (front : List A) (count i end : ℕ) (bytes : List ℕ) (f : ReadFault) (whole : Result (List A × List ℕ) ReadFault) → i < count
      → with_front front (items_at read (count - i) end bytes) ≡ whole → read end bytes ≡ Err f → whole ≡ Err f
  stops_all front count i end bytes f whole lt so_far h = sym so_far ∙ stops front count i end bytes f lt h

  pub is_done : (front : List A) (count i end : ℕ) (bytes : List ℕ) → count ≤ i → with_front front (items_at read (count - i) end bytes) ≡ Ok (front, bytes)
  is_done front count i end bytes le =
      let k : count - i ≡ 0 = omega arith in
      rw k (ap (λ (ys : List A). done (ys, bytes)) (append-nil front))

-- ---- faults

abbrev pub failed : (A : Type 0) → ReadFault → Result A ReadFault
failed A e = Err e

-- what fails does not reach the end
pub all_fails : {A : Type 0} (read : Reader A) (end : ℕ) (bytes : List ℕ) (e : ReadFault) → read end bytes ≡ Err e → all_at read end bytes ≡ Err e
all_fails read end bytes e bad = rw bad refl

err_ok : {A : Type 0} (e : ReadFault) (x : A) → failed A e ≡ Ok x → ⊥
err_ok e x is = absurd cc

-- what sections are read of is no longer than the limit
pub read_few : (profile : Profile) (p q : Progress) (bytes : List ℕ) → sections_read profile p (sections_of bytes) ≡ Ok q → length bytes ≤ limit
unfolding header_at sections_read
read_few profile p q bytes read =
    elim (cases_lt limit (length bytes)) [
      | inl lt ↦
          let none : sections_read profile p (sections_of bytes) ≡ Err (record { kind = LongInput; at = limit }) = rw (lt-ltb limit (length bytes) lt) refl in
          absurd (err_ok _ q (sym none ∙ read))
      | inr le ↦ le
    ]

-- ---- functions

abbrev function : ℕ → BodyOf → Func
function t b = record { ty = t; body = b }

pub zipped_none : (types : List ℕ) → zipped types [] ≡ []
zipped_none [] = refl
zipped_none (t ∷ types) = refl

-- one more function
pub zipped_more : (types : List ℕ) (bodies : List BodyOf) (place : ℕ) (body : BodyOf) → length bodies < length types → place ≡ length bodies
    → zipped types (bodies ++ body ∷ []) ≡ zipped types bodies ++ function (get_or types place 0) body ∷ []
zipped_more [] bodies place body lt is = absurd (omega arith)
zipped_more (t ∷ types) [] place body lt is = rw is (ap (λ fs. function t body ∷ fs) (zipped_none types))
zipped_more (t ∷ types) (b ∷ bodies) place body lt is = rw is (ap (λ fs. function t b ∷ fs) (zipped_more types bodies (length bodies) body (omega arith) refl))
