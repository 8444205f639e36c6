-- The work of edits, by how many bodies are typed and encoded.
use Rattle.std.proofs.Common.{◌≡◌, ◌<◌, ◌^◌, ℕ, Bool, false, cond, List, [], ◌∷◌, count_by, refl, sym, ap, ◌∙◌, arith}
use Rattle.std.specs.List.{AllByRecursion}
use Rattle.std.proofs.lemmas.List.Sums.{count_by-le-length, sum_by-cons}
use Rattle.wk_body.specs.declared.references.Ref.{Ref}
use Rattle.wk_module.specs.declared.types.Func.{Func}
use Rattle.wk_module.specs.declared.types.Parts.{Parts}
use Rattle.wk_module.specs.NumberedLaws.{funcs_numbered}
use Rattle.wk_module.specs.Shape.{IsFormed}
use Rattle.wk_typing.specs.Answers.{Found}
use Rattle.wk_check.specs.SpacesLaws.{answers_of}
use Rattle.wk_session.specs.declared.edit.Edit.{Edit}
use Rattle.wk_session.specs.declared.edit.Work.{Work}
use Rattle.wk_session.specs.Dependents.{answers_after, given, held, left, is_retyped, is_retyped_in, is_reencoded, sections_made, work_of}
use Rattle.wk_session.proofs.Judging.{agree_none}

-- ---- lists of which all items are alike

pub all_of : {A : Type 0} (P : A → Type 0) → ((x : A) → P x) → (xs : List A) → AllByRecursion P xs
all_of P h [] = tt
all_of P h (x ∷ xs) = (h x, all_of P h xs)

-- where no item passes that all items are known to be
pub count_zero_in : {A : Type 0} (p : A → Bool) (P : A → Type 0) → ((x : A) → P x → p x ≡ false) → (xs : List A) → AllByRecursion P xs → count_by p xs ≡ 0
count_zero_in p P none [] all = refl
count_zero_in p P none (x ∷ xs) all =
    omega (arith, sum_by-cons (λ y. cond (p y) 1 0) x xs, ap {B = ℕ} (λ (b : Bool). cond b 1 0) (none x all.0), count_zero_in p P none xs all.1)

pub count_zero : {A : Type 0} (p : A → Bool) → ((x : A) → p x ≡ false) → (xs : List A) → count_by p xs ≡ 0
count_zero p none xs = count_zero_in p (λ x. p x ≡ false) (λ x is. is) xs (all_of (λ x. p x ≡ false) none xs)

-- no function is typed again, where each reference finds what it found
pub none_retyped : (A B : Ref → Found) → ((r : Ref) → B r ≡ A r) → (fs : List Func) → count_by (is_retyped_in A B) fs ≡ 0
none_retyped A B same = count_zero (is_retyped_in A B) (λ f. agree_none A B (held f) (all_of (λ r. B r ≡ A r) same (held f)))

-- so many functions of a module have a number of 32 bits
pub few_counted : (m : Parts) (p : Func → Bool) (n : ℕ) → IsFormed m → n ≡ count_by p m.funcs → n < 2 ^ 32
few_counted m p n formed is = omega (arith, is, count_by-le-length p m.funcs, funcs_numbered m formed)

-- ---- works by their numbers

pub work_is : (typed encoded sections : ℕ) (w : Work) → typed ≡ w.typed → encoded ≡ w.encoded → sections ≡ w.sections
    → record { typed = typed; encoded = encoded; sections = sections } ≡ w
work_is typed encoded sections w a b c =
    ap (λ (n : ℕ). record w { typed = n; encoded = encoded; sections = sections }) a
    ∙ ap (λ (n : ℕ). record w { encoded = n; sections = sections }) b
    ∙ ap (λ (n : ℕ). record w { sections = n }) c

-- the work of an edit that gives no code and moves nothing
module _ (e : Edit) (m n : Parts) (none : given e ≡ 0) (stay : (f : Func) → is_reencoded e m f ≡ false) where
  pub codeless_work : (typed sections : ℕ) → typed ≡ count_by (is_retyped e m n) (left e m) → sections ≡ sections_made e m
      → record { typed = typed; encoded = 0; sections = sections } ≡ work_of e m n
  codeless_work typed sections counted made =
      let encoded = count_zero (is_reencoded e m) stay (left e m) in
      work_is typed 0 sections (work_of e m n) (omega (arith, none, counted)) (omega (arith, none, encoded)) made

  -- by which references find what they found, too
  pub typeless_work : (sections : ℕ) → ((r : Ref) → answers_after e m n r ≡ answers_of m r) → sections ≡ sections_made e m
      → record { typed = 0; encoded = 0; sections = sections } ≡ work_of e m n
  typeless_work sections finds = codeless_work 0 sections (sym (none_retyped (answers_of m) (answers_after e m n) finds (left e m)))
