-- Indices that are read one after the other, and whether each is one of a space.
use Rattle.std.proofs.Common.{◌≡◌, ℕ, suc, ◌+◌, ◌-◌, ◌<◌, ◌≤◌, List, ◌∷◌, Bool, true, false, nat_lt, if◌then◌else◌, Result, Ok, Err, refl, sym, ap, ◌∙◌, arith}
use Rattle.wk_bytes.specs.declared.fault.ReadFault.{ReadFault}
use Rattle.wk_bytes.specs.Leb.{◌>>=◌}
use Rattle.wk_bytes.specs.Span.{u32_at}
use Rattle.wk_body.specs.Vectors.{items_at, vector_at}
use Rattle.wk_module.specs.Formats.{made_at}
use Rattle.wk_check.specs.Items.{all_within}

-- those that are still to be read, where it is known of those before
abbrev pub rest_within : ℕ → Bool → Result (List ℕ × List ℕ) ReadFault → Result (Bool × List ℕ) ReadFault
rest_within n so_far r = r >>= λ xs. Ok (if so_far then all_within n xs.0 else false, xs.1)

regroup : (n x : ℕ) (so_far : Bool) (r : Result (List ℕ × List ℕ) ReadFault)
    → rest_within n so_far (r >>= λ xs. Ok (x ∷ xs.0, xs.1)) ≡ rest_within n (if so_far then nat_lt x n else false) r
regroup n x true (Ok xs) = refl
regroup n x false (Ok xs) = refl
regroup n x so_far (Err e) = refl

-- one more
pub index_read : (n count i end end_now x : ℕ) (bytes after : List ℕ) (so_far now : Bool) (whole : Result (Bool × List ℕ) ReadFault) → i < count
    → u32_at end bytes ≡ Ok (x, after) → end_now ≡ end → now ≡ (if so_far then nat_lt x n else false)
    → rest_within n so_far (items_at u32_at (count - i) end bytes) ≡ whole
    → rest_within n now (items_at u32_at (count - (i + 1)) end_now after) ≡ whole
index_read n count i end end_now x bytes after so_far now whole lt read same is before =
    let k : count - i ≡ suc (count - (i + 1)) = omega arith in
    rw (same, is) (sym (regroup n x so_far (items_at u32_at (count - (i + 1)) end after)) ∙ (rw (k, read) at before))

-- none that can be read
pub index_stops : (n count i end : ℕ) (bytes : List ℕ) (so_far : Bool) (e : ReadFault) (whole : Result (Bool × List ℕ) ReadFault) → i < count
    → u32_at end bytes ≡ Err e → rest_within n so_far (items_at u32_at (count - i) end bytes) ≡ whole → whole ≡ Err e
index_stops n count i end bytes so_far e whole lt bad before =
    let k : count - i ≡ suc (count - (i + 1)) = omega arith in
    sym (rw (k, bad) at before)

-- before the first, behind their number
pub indices_begin : (n end count : ℕ) (bytes after : List ℕ) → u32_at end bytes ≡ Ok (count, after)
    → rest_within n true (items_at u32_at (count - 0) end after) ≡ made_at (all_within n) (vector_at u32_at) end bytes
unfolding made_at vector_at
indices_begin n end count bytes after read = let k : count - 0 ≡ count = omega arith in rw (k, read) refl

pub no_indices : (n end : ℕ) (bytes : List ℕ) (e : ReadFault) → u32_at end bytes ≡ Err e → made_at (all_within n) (vector_at u32_at) end bytes ≡ Err e
unfolding made_at vector_at
no_indices n end bytes e bad = rw bad refl

-- behind the last
last_of : (so_far : Bool) → (if so_far then true else false) ≡ so_far
last_of true = refl
last_of false = refl

pub indices_end : (n count i end : ℕ) (bytes : List ℕ) (so_far : Bool) (whole : Result (Bool × List ℕ) ReadFault) → count ≤ i
    → rest_within n so_far (items_at u32_at (count - i) end bytes) ≡ whole → whole ≡ Ok (so_far, bytes)
indices_end n count i end bytes so_far whole past before =
    let k : count - i ≡ 0 = omega arith in
    sym (rw k at before) ∙ ap (λ (b : Bool). Ok (b, bytes)) (last_of so_far)
