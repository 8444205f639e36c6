-- Imported functions that are counted one after the other, as a loop counts them.
use Rattle.std.proofs.Common.{◌≡◌, ℕ, suc, ◌+◌, ◌-◌, ◌<◌, ◌≤◌, List, ◌∷◌, Result, Ok, Err, refl, sym, ap, ◌∙◌, arith}
use Rattle.wk_bytes.specs.declared.fault.ReadFault.{ReadFault}
use Rattle.wk_bytes.specs.Leb.{◌>>=◌}
use Rattle.wk_bytes.specs.LebLaws.{done}
use Rattle.wk_bytes.specs.Span.{u32_at}
use Rattle.wk_body.specs.Vectors.{items_at, vector_at}
use Rattle.wk_module.specs.declared.types.Import.{Import}
use Rattle.wk_module.specs.declared.types.ImportDesc.{ImportDesc}
use Rattle.wk_module.specs.declared.types.Kind.TheVariants as kinds
use Rattle.wk_module.specs.Formats.{made_at}
use Rattle.wk_module.specs.Imports.{is_of_kind, import_count}
use Rattle.wk_module.specs.InPlace.{import_desc_at}
use Rattle.wk_module.specs.Items.{import_at}
use Rattle.wk_module.proofs.Formats.{made_steps}
use Rattle.wk_place.specs.Seeking.{one_if, funcs_at}

-- those that were counted, and those that are still to be read
abbrev pub counted : ℕ → Result (List Import × List ℕ) ReadFault → Result (ℕ × List ℕ) ReadFault
counted n r = r >>= λ is. Ok (n + import_count kinds.Func is.0, is.1)

regroup : (n : ℕ) (i : Import) (r : Result (List Import × List ℕ) ReadFault)
    → counted n (r >>= λ is. Ok (i ∷ is.0, is.1)) ≡ counted (n + one_if (is_of_kind kinds.Func i.desc)) r
regroup n i (Ok is) =
    let e : n + (one_if (is_of_kind kinds.Func i.desc) + import_count kinds.Func is.0) ≡ n + one_if (is_of_kind kinds.Func i.desc) + import_count kinds.Func is.0
    = omega arith in
    ap (λ (k : ℕ). done (k, is.1)) e
regroup n i (Err e) = refl

abbrev count_of : List Import × List ℕ → Result (ℕ × List ℕ) ReadFault
count_of is = Ok (import_count kinds.Func is.0, is.1)

none_before : (r : Result (List Import × List ℕ) ReadFault) → counted 0 r ≡ (r >>= count_of)
none_before (Ok is) = let e : 0 + import_count kinds.Func is.0 ≡ import_count kinds.Func is.0 = omega arith in ap (λ (k : ℕ). done (k, is.1)) e
none_before (Err e) = refl

pub begins : (end count : ℕ) (bytes after : List ℕ) → u32_at end bytes ≡ Ok (count, after)
    → counted 0 (items_at import_at (count - 0) end after) ≡ funcs_at end bytes
unfolding made_at vector_at
begins end count bytes after read =
    let k : count - 0 ≡ count = omega arith in
    rw (read, k) (none_before (items_at import_at count end after))

pub no_count : (end : ℕ) (bytes : List ℕ) (e : ReadFault) → u32_at end bytes ≡ Err e → funcs_at end bytes ≡ Err e
unfolding made_at vector_at
no_count end bytes e bad = rw bad refl

pub one_more : (count i end now n next : ℕ) (bytes after : List ℕ) (d : ImportDesc) (whole : Result (ℕ × List ℕ) ReadFault) → i < count
    → import_desc_at end bytes ≡ Ok (d, after) → now ≡ end → next ≡ n + one_if (is_of_kind kinds.Func d)
    → counted n (items_at import_at (count - i) end bytes) ≡ whole → counted next (items_at import_at (count - (i + 1)) now after) ≡ whole
one_more count i end now n next bytes after d whole lt read same is before =
    let k : count - i ≡ suc (count - (i + 1)) = omega arith in
    let m = made_steps (λ (i : Import). i.desc) import_at end bytes d after read in
    let sum : next ≡ n + one_if (is_of_kind kinds.Func m.0.desc) = is ∙ ap (λ (x : ImportDesc). n + one_if (is_of_kind kinds.Func x)) (sym m.2) in
    rw (same, sum) (sym (regroup n m.0 (items_at import_at (count - (i + 1)) end after)) ∙ (rw (k, m.1) at before))

abbrev desc_of : Import × List ℕ → Result (ImportDesc × List ℕ) ReadFault
desc_of i = Ok (i.0.desc, i.1)

failed : (e : ReadFault) (r : Result (Import × List ℕ) ReadFault) → (r >>= desc_of) ≡ Err e → r ≡ Err e
failed e (Ok i) bad = absurd cc
failed e (Err d) bad = cc

pub stops : (count i end n : ℕ) (bytes : List ℕ) (e : ReadFault) (whole : Result (ℕ × List ℕ) ReadFault) → i < count
    → import_desc_at end bytes ≡ Err e → counted n (items_at import_at (count - i) end bytes) ≡ whole → whole ≡ Err e
unfolding made_at
stops count i end n bytes e whole lt bad before =
    let k : count - i ≡ suc (count - (i + 1)) = omega arith in
    let none = failed e (import_at end bytes) bad in
    sym (rw (k, none) at before)

pub ends : (count i end n : ℕ) (bytes : List ℕ) (whole : Result (ℕ × List ℕ) ReadFault) → count ≤ i
    → counted n (items_at import_at (count - i) end bytes) ≡ whole → whole ≡ Ok (n, bytes)
ends count i end n bytes whole past before =
    let k : count - i ≡ 0 = omega arith in
    let e : n + 0 ≡ n = omega arith in
    sym (rw k at before) ∙ ap (λ (x : ℕ). done (x, bytes)) e
