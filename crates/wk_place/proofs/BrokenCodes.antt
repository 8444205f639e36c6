-- The first code that spells no body, as a loop looks for it, and what that says of the bytes.
use Rattle.std.proofs.Common.{◌≡◌, ℕ, suc, ◌+◌, ◌-◌, ◌<◌, List, Option, None, Result, Ok, Err, refl, sym, arith}
use Rattle.wk_bytes.specs.declared.fault.ReadFault.{ReadFault}
use Rattle.wk_bytes.specs.Span.{Span, u32_at}
use Rattle.wk_body.specs.declared.types.Profile.{Profile}
use Rattle.wk_body.specs.Reading.{all_body_at}
use Rattle.wk_place.specs.Seeking.{sized_at, fault_met, broken_from, broken_at}

abbrev Met : Type 0
Met = Result (Option (ℕ × ReadFault)) ReadFault

-- ---- steps of the loop

pub starts : (profile : Profile) (end count : ℕ) (bytes after : List ℕ) → u32_at end bytes ≡ Ok (count, after)
    → broken_from profile 0 (count - 0) end after ≡ broken_at profile end bytes
unfolding broken_at
starts profile end count bytes after is = let k : count - 0 ≡ count = omega arith in rw (is, k) refl

pub fails : (profile : Profile) (count i end : ℕ) (bytes : List ℕ) (e : ReadFault) (whole : Met) → i < count → sized_at end bytes ≡ Err e
    → broken_from profile i (count - i) end bytes ≡ whole → whole ≡ Err e
fails profile count i end bytes e whole lt bad before =
    let k : count - i ≡ suc (count - (i + 1)) = omega arith in
    sym (rw (k, bad) at before)

pub goes_on : (profile : Profile) (count i end now : ℕ) (bytes after : List ℕ) (code : Span) (whole : Met) → i < count
    → sized_at end bytes ≡ Ok (code, after) → now ≡ end → fault_met (all_body_at profile code.end code.rest) ≡ None
    → broken_from profile i (count - i) end bytes ≡ whole → broken_from profile (i + 1) (count - (i + 1)) now after ≡ whole
goes_on profile count i end now bytes after code whole lt is same none before =
    let k : count - i ≡ suc (count - (i + 1)) = omega arith in
    rw same (rw (k, is, none) at before)
