-- A custom given other bytes, or put behind all others.
use Rattle.std.proofs.Common.{◌≡◌, ℕ, zero, suc, ◌+◌, ◌<◌, ◌≤◌, nat_lt, inl, inr, Some, None, List, [], ◌∷◌, ◌++◌, length}
use Rattle.std.proofs.Common.{slice_index_or, slice_set, refl, ap, ◌∙◌, arith, length-append}
use Rattle.std.proofs.lemmas.Bool.{cases_Bool}
use Rattle.std.specs.List.{flat_map, position, position_or_len}
use Rattle.std.specs.Str.{IsUtf8}
use Rattle.wk_bytes.specs.LebLaws.{found_below, none_below}
use Rattle.wk_module.specs.declared.types.Parts.{Parts}
use Rattle.wk_module.specs.declared.types.Custom.{Custom}
use Rattle.wk_module.specs.Shape.{IsInOrderFrom, AreNamed, IsFormed}
use Rattle.wk_module.specs.ShapeLaws.{customs_formed, push_formed}
use Rattle.wk_module.specs.Writing.{encoded}
use Rattle.wk_module.specs.WritingLaws.{length-encoded, written_frame}
use Rattle.wk_session.specs.Customs.{bytes_at, last_custom}
use Rattle.wk_session.specs.Edits.{is_named, with_bytes, custom_put}

-- ---- the first custom of a name

module _ (name bytes : List ℕ) where
  put_first : (cs : List Custom) → position_or_len (is_named name) cs < length cs
      → custom_put name bytes cs ≡ bytes_at (position_or_len (is_named name) cs) bytes cs
  put_first [] less = absurd (omega arith)
  put_first (c ∷ cs) less =
      elim (cases_Bool (is_named name c)) [
        | inl t ↦ rw t refl
        | inr f ↦
            let n = position_or_len (is_named name) cs in
            let next : suc n ≡ 1 + n = omega arith in
            rw f (ap (λ (ds : List Custom). c ∷ ds) (put_first cs (omega (arith, (rw f at less)))) ∙ ap (λ k. bytes_at k bytes (c ∷ cs)) next)
      ]

  put_new : (cs : List Custom) → length cs ≤ position_or_len (is_named name) cs → custom_put name bytes cs ≡ cs ++ last_custom name bytes ∷ []
  put_new [] past = refl
  put_new (c ∷ cs) past =
      elim (cases_Bool (is_named name c)) [
        | inl t ↦ absurd (omega (arith, (rw t at past)))
        | inr f ↦ rw f (ap (λ (ds : List Custom). c ∷ ds) (put_new cs (omega (arith, (rw f at past)))))
      ]

  pub put_at : (cs : List Custom) (i : ℕ) → position (is_named name) cs ≡ Some i → custom_put name bytes cs ≡ bytes_at i bytes cs
  put_at cs i e =
      let n = position_or_len (is_named name) cs in
      let f = found_below (nat_lt n (length cs)) n (length cs) i refl e in
      put_first cs f.0 ∙ ap (λ k. bytes_at k bytes cs) f.1

  pub put_last : (cs : List Custom) → position (is_named name) cs ≡ None → custom_put name bytes cs ≡ cs ++ last_custom name bytes ∷ []
  put_last cs e =
      let n = position_or_len (is_named name) cs in
      put_new cs (none_below (nat_lt n (length cs)) n (length cs) refl e)

-- ---- other bytes

pub set_bytes : (i : ℕ) (bytes : List ℕ) (cs : List Custom) (d : Custom) → i < length cs
    → slice_set cs i (with_bytes bytes (slice_index_or cs i d)) ≡ bytes_at i bytes cs
set_bytes i bytes [] d less = absurd (omega arith)
set_bytes zero bytes (c ∷ cs) d less = refl
set_bytes (suc i) bytes (c ∷ cs) d less = ap (λ (ds : List Custom). c ∷ ds) (set_bytes i bytes cs d (omega arith))

in_order_bytes : (i : ℕ) (bytes : List ℕ) (least : ℕ) (cs : List Custom) → IsInOrderFrom least cs → IsInOrderFrom least (bytes_at i bytes cs)
in_order_bytes i bytes least [] o = tt
in_order_bytes zero bytes least (c ∷ cs) o = o
in_order_bytes (suc i) bytes least (c ∷ cs) o = (o.0, o.1, in_order_bytes i bytes c.place cs o.2)

named_bytes : (i : ℕ) (bytes : List ℕ) (cs : List Custom) → AreNamed cs → AreNamed (bytes_at i bytes cs)
named_bytes i bytes [] n = tt
named_bytes zero bytes (c ∷ cs) n = n
named_bytes (suc i) bytes (c ∷ cs) n = (n.0, named_bytes i bytes cs n.1)

-- a module with other bytes in a custom is formed
pub bytes_formed : (i : ℕ) (bytes : List ℕ) (m : Parts) → IsFormed m → IsFormed (record m { customs = bytes_at i bytes m.customs })
bytes_formed i bytes m f = customs_formed (bytes_at i bytes m.customs) m (in_order_bytes i bytes 0 m.customs f.order) (named_bytes i bytes m.customs f.names) f

pub last_formed : (name bytes : List ℕ) (m : Parts) → IsUtf8 name → IsFormed m → IsFormed (record m { customs = m.customs ++ last_custom name bytes ∷ [] })
last_formed name bytes m text f = push_formed (last_custom name bytes) m refl text f

-- ---- lengths

abbrev frames : List Custom → ℕ
frames cs = length (flat_map written_frame cs)

frames_more : (c : Custom) (cs : List Custom) → frames (c ∷ cs) ≡ length (written_frame c) + frames cs
frames_more c cs = length-append (written_frame c) (flat_map written_frame cs)

pub frame_within : (i : ℕ) (cs : List Custom) (d : Custom) → i < length cs → d ≡ slice_index_or cs i d → length (written_frame d) ≤ frames cs
frame_within i [] d less at = absurd (omega arith)
frame_within zero (c ∷ cs) d less at = omega (arith, frames_more c cs, ap (λ (x : Custom). length (written_frame x)) at)
frame_within (suc i) (c ∷ cs) d less at = omega (arith, frames_more c cs, frame_within i cs d (omega arith) at)

frames_bytes : (i : ℕ) (bytes : List ℕ) (cs : List Custom) (d : Custom) → i < length cs → d ≡ slice_index_or cs i d
    → frames (bytes_at i bytes cs) + length (written_frame d) ≡ frames cs + length (written_frame (with_bytes bytes d))
frames_bytes i bytes [] d less at = absurd (omega arith)
frames_bytes zero bytes (c ∷ cs) d less at =
    omega (
      arith,
      frames_more c cs,
      frames_more (with_bytes bytes c) cs,
      ap (λ (x : Custom). length (written_frame x)) at,
      ap (λ (x : Custom). length (written_frame (with_bytes bytes x))) at,
    )
frames_bytes (suc i) bytes (c ∷ cs) d less at = omega (arith, frames_more c cs, frames_more c (bytes_at i bytes cs), frames_bytes i bytes cs d (omega arith) at)

frames_last : (cs : List Custom) (d : Custom) → frames (cs ++ d ∷ []) ≡ frames cs + length (written_frame d)
frames_last [] d = frames_more d [] ∙ omega arith
frames_last (c ∷ cs) d = omega (arith, frames_more c cs, frames_more c (cs ++ d ∷ []), frames_last cs d)

-- other customs change a module's length by their own
pub length_customs : (m : Parts) (cs : List Custom) → IsInOrderFrom 0 m.customs → IsInOrderFrom 0 cs
    → length (encoded (record m { customs = cs })) + frames m.customs ≡ length (encoded m) + frames cs
length_customs m cs order new = omega (arith, length-encoded m order, length-encoded (record m { customs = cs }) new)

pub length_bytes : (i : ℕ) (bytes : List ℕ) (m : Parts) (d : Custom) → IsInOrderFrom 0 m.customs → i < length m.customs → d ≡ slice_index_or m.customs i d
    → length (encoded (record m { customs = bytes_at i bytes m.customs })) + length (written_frame d)
    ≡ length (encoded m) + length (written_frame (with_bytes bytes d))
length_bytes i bytes m d order less at =
    omega (arith, length_customs m (bytes_at i bytes m.customs) order (in_order_bytes i bytes 0 m.customs order), frames_bytes i bytes m.customs d less at)

in_order_last : (name bytes : List ℕ) (least : ℕ) (cs : List Custom) → least ≤ 11 → IsInOrderFrom least cs
    → IsInOrderFrom least (cs ++ last_custom name bytes ∷ [])
in_order_last name bytes least [] most o = (most, omega arith, tt)
in_order_last name bytes least (c ∷ cs) most o = (o.0, o.1, in_order_last name bytes c.place cs o.1 o.2)

pub length_last : (name bytes : List ℕ) (m : Parts) → IsInOrderFrom 0 m.customs
    → length (encoded (record m { customs = m.customs ++ last_custom name bytes ∷ [] })) ≡ length (encoded m) + length (written_frame (last_custom name bytes))
length_last name bytes m order =
    omega (
      arith,
      length_customs m (m.customs ++ last_custom name bytes ∷ []) order (in_order_last name bytes 0 m.customs (omega arith) order),
      frames_last m.customs (last_custom name bytes),
    )
