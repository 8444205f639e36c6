-- What standard error gets, one text behind the other.
use Rattle.std.proofs.Common.{◌≡◌, ℕ, ◌+◌, Option, List, [], ◌∷◌, ◌++◌, refl, sym, subst, ap, ◌∙◌, inl, inr, arith}
use Rattle.std.specs.Prelude.{◌≢◌, Result, Ok, Err, OnErr, OnOk}
use Rattle.std.specs.Io.KnownBytes.{Appends}
use Rattle.wk_bytes.specs.Taken.{failures_after, TakesFront}
use Rattle.wk_bytes.specs.TakenLaws.{Appends-none, Appends-then, TakesFront-first, TakesFront-then}
use Rattle.wasmkit.specs.Runs.{Gets, GetsNothing, GetsOrFails, Hears, printing}

-- nothing is what an output gets of no text
gets_none : (first before : Option (List ℕ)) (start n : ℕ) → GetsNothing (printing first before start n) → Gets [] (printing first before start n)
gets_none first before start n h = record { taken = subst (λ b. Appends first b []) (sym h.taken) (Appends-none first); failed = h.failed }

heard : (told : List ℕ) (first before : Option (List ℕ)) (start n : ℕ) → Hears told (printing first before start n) → GetsOrFails told (printing first before start n)
heard [] first before start n h = inl (gets_none first before start n h)
heard (x ∷ told) first before start n h = h

module _ (told text : List ℕ) (first before after : Option (List ℕ)) (start : ℕ) where
  -- all of the text is taken
  all_said : (n m : ℕ) → n ≡ start → Hears told (printing first before start n) → Appends before after text → m ≡ n
      → GetsOrFails (told ++ text) (printing first after start m)
  all_said n m same h taken failed = go (heard told first before start n h)
    where
      go : GetsOrFails told (printing first before start n) → GetsOrFails (told ++ text) (printing first after start m)
      go (inl got) = inl (record { taken = Appends-then first before after told text got.taken taken; failed = failed ∙ same })
      go (inr fails) = absurd (omega (arith, same, fails.failed))

  -- a beginning of it is taken
  front_said : (n m : ℕ) → n ≡ start → Hears told (printing first before start n) → TakesFront before after text → m ≡ n + 1
      → GetsOrFails (told ++ text) (printing first after start m)
  front_said n m same h taken failed = go (heard told first before start n h)
    where
      go : GetsOrFails told (printing first before start n) → GetsOrFails (told ++ text) (printing first after start m)
      go (inl got) = inr (record { taken = TakesFront-then first before after told text got.taken taken; failed = failed ∙ ap (λ k. k + 1) same })
      go (inr fails) = absurd (omega (arith, same, fails.failed))

  pub said : {T E : Type 0} (r : Result T E) (n m : ℕ) → n ≡ start → Hears told (printing first before start n) → OnOk r (Appends before after text)
      → OnErr r (TakesFront before after text) → m ≡ failures_after n r → GetsOrFails (told ++ text) (printing first after start m)
  said (Ok x) n m same h taken front failed = all_said n m same h taken failed
  said (Err e) n m same h taken front failed = front_said n m same h front failed

-- it failed before
pub not_said : (told text : List ℕ) (first before : Option (List ℕ)) (start n : ℕ) → n ≢ start → Hears told (printing first before start n)
    → GetsOrFails (told ++ text) (printing first before start n)
not_said told text first before start n shut h = go (heard told first before start n h)
  where
    go : GetsOrFails told (printing first before start n) → GetsOrFails (told ++ text) (printing first before start n)
    go (inl got) = absurd (shut got.failed)
    go (inr fails) = inr (record { taken = TakesFront-first first before told text fails.taken; failed = fails.failed })

-- a text that is not empty is heard
pub hears_more : (told text : List ℕ) (first after : Option (List ℕ)) (start n : ℕ) → (text ≡ [] → ⊥) → GetsOrFails (told ++ text) (printing first after start n)
    → Hears (told ++ text) (printing first after start n)
hears_more [] [] first after start n some h = absurd (some refl)
hears_more [] (x ∷ text) first after start n some h = h
hears_more (y ∷ told) text first after start n some h = h

-- an output is as it was
pub unheard : (first : Option (List ℕ)) (start : ℕ) → Hears [] (printing first first start start)
unheard first start = record { taken = refl; failed = refl }
