-- What an `Out` takes of a text, piece after piece.
use Rattle.std.proofs.Common.{◌≡◌, ℕ, List, ◌++◌, refl, [], Option, sym, ap, ◌∙◌, subst, append_assoc, append-nil}
use Rattle.std.specs.Prelude.{Result, Ok, Err}
use Rattle.std.specs.Result.{IsErr, IsErrAnd}
use Rattle.wk_bytes.specs.Taken.{TakesFront}
use Rattle.wk_bytes.specs.TakenLaws.{Appends-none, Appends-then}
use Rattle.wk_list.specs.declared.fault.ListFault.{ListFault}
use Rattle.wk_list.specs.declared.fault.ListFault.TheVariants.{Write, Memory}
use Rattle.wk_list.specs.Taken.{Leaves, PutsOut, failed_after}

-- on the way: of the text that goes out, so much is left
abbrev pub IsLeft : {W : Type 0} → (W → Option (List ℕ)) → (W → ℕ) → W → W → List ℕ → List ℕ → Type 0
IsLeft taken failed old new text left = PutsOut {T = Unit} taken failed old new text left (Ok tt)

-- a call that answers something
pub on_unit : {W T : Type 0} {taken : W → Option (List ℕ)} {failed : W → ℕ} {a b : W} {all left : List ℕ} {x : T}
    → PutsOut taken failed a b all left (Ok x) → IsLeft taken failed a b all left
on_unit p = record { ok = p.ok; err = tt; failures = p.failures }

-- nothing was taken
pub all_left : {W : Type 0} {taken : W → Option (List ℕ)} {failed : W → ℕ} {a : W} {all left : List ℕ} → all ≡ left → IsLeft taken failed a a all left
all_left {taken = taken} {a = a} e = record { ok = ([], e, Appends-none (taken a)); err = tt; failures = refl }

-- the same text in other words
pub puts_same : {W T : Type 0} {taken : W → Option (List ℕ)} {failed : W → ℕ} {a b : W} {left x y : List ℕ} {r : Result T ListFault} → x ≡ y
    → PutsOut taken failed a b x left r → PutsOut taken failed a b y left r
puts_same {taken = taken} {failed = failed} {a = a} {b = b} {left = left} {r = r} e p = subst (λ (z : List ℕ). PutsOut taken failed a b z left r) e p

-- what is left in other words
pub puts_left : {W T : Type 0} {taken : W → Option (List ℕ)} {failed : W → ℕ} {a b : W} {all x y : List ℕ} {r : Result T ListFault} → x ≡ y
    → PutsOut taken failed a b all x r → PutsOut taken failed a b all y r
puts_left {taken = taken} {failed = failed} {a = a} {b = b} {all = all} {r = r} e p = subst (λ (z : List ℕ). PutsOut taken failed a b all z r) e p

-- ---- of what is left a front goes out next

leaves_on : (a b c : Option (List ℕ)) (all left now rest new : List ℕ) → Leaves a b all left → left ≡ now ++ rest → Leaves b c now new
    → Leaves a c all (new ++ rest)
leaves_on a b c all left now rest new p e q = (
  p.0 ++ q.0,
  p.1 ∙ ap (λ (r : List ℕ). p.0 ++ r) (e ∙ ap (λ (r : List ℕ). r ++ rest) q.1 ∙ append_assoc q.0 new rest)
      ∙ sym (append_assoc p.0 q.0 (new ++ rest)),
  Appends-then a b c p.0 q.0 p.2 q.2,
)

pub stops_on : (a b c : Option (List ℕ)) (all left now rest : List ℕ) → Leaves a b all left → left ≡ now ++ rest → TakesFront b c now → TakesFront a c all
stops_on a b c all left now rest p e q = (
  p.0 ++ q.0,
  q.1 ++ rest,
  p.1 ∙ ap (λ (r : List ℕ). p.0 ++ r) (e ∙ ap (λ (r : List ℕ). r ++ rest) q.2 ∙ append_assoc q.0 q.1 rest)
      ∙ sym (append_assoc p.0 q.0 (q.1 ++ rest)),
  Appends-then a b c p.0 q.0 p.2 q.3,
)

pub puts_on : {W U T : Type 0} {taken : W → Option (List ℕ)} {failed : W → ℕ} {a b c : W} {all left now new : List ℕ} {u : U} {r : Result T ListFault}
    (rest : List ℕ) → PutsOut taken failed a b all left (Ok u) → left ≡ now ++ rest → PutsOut taken failed b c now new r
    → PutsOut taken failed a c all (new ++ rest) r
puts_on {all = all} {left = left} {now = now} {new = new} {r = Ok x} rest p e q =
    record { ok = leaves_on _ _ _ all left now rest new p.ok e q.ok; err = tt; failures = q.failures ∙ p.failures }
puts_on {T = T} {all = all} {left = left} {now = now} {r = Err f} rest p e q =
    record { ok = tt; err = stops_on _ _ _ all left now rest p.ok e q.err; failures = q.failures ∙ ap (λ (n : ℕ). failed_after {T = T} n (Err f)) p.failures }

-- ... and nothing comes behind it
pub puts_last : {W U T : Type 0} {taken : W → Option (List ℕ)} {failed : W → ℕ} {a b c : W} {all left now new : List ℕ} {u : U} {r : Result T ListFault}
    → PutsOut taken failed a b all left (Ok u) → left ≡ now → PutsOut taken failed b c now new r → PutsOut taken failed a c all new r
puts_last {now = now} {new = new} p e q = puts_left (append-nil new) (puts_on [] p (e ∙ sym (append-nil now)) q)

-- ---- a call that hands a fault on

failed_same : (U T : Type 0) (n : ℕ) (f : ListFault) → failed_after {T = U} n (Err f) ≡ failed_after {T = T} n (Err f)
failed_same U T n Write = refl
failed_same U T n Memory = refl

pub stopped : {W U T : Type 0} {taken : W → Option (List ℕ)} {failed : W → ℕ} {a b : W} {all left new : List ℕ} {f : ListFault} {r : Result T ListFault}
    → PutsOut {T = U} taken failed a b all left (Err f) → IsErr r × IsErrAnd r (λ e. e ≡ f) → PutsOut taken failed a b all new r
stopped {r = Ok x} p e = absurd cc
stopped {U = U} {T = T} {failed = failed} {a = a} {b = b} {f = f} {r = Err h} p e =
    let same = p.failures ∙ failed_same U T (failed a) f in
    record { ok = tt; err = p.err; failures = subst (λ (k : ListFault). failed b ≡ failed_after {T = T} (failed a) (Err k)) (sym e.1) same }

-- memory was refused
pub refused : {W U T : Type 0} {taken : W → Option (List ℕ)} {failed : W → ℕ} {a b : W} {all left new : List ℕ} {u : U} {r : Result T ListFault}
    → PutsOut taken failed a b all left (Ok u) → IsErr r × IsErrAnd r (λ e. e ≡ Memory) → PutsOut taken failed a b all new r
refused {U = U} {left = left} p e = stopped {U = U} {left = left} (record { ok = tt; err = (p.ok.0, left, p.ok.1, p.ok.2); failures = p.failures }) e
