-- The functions of a segment that are looked at one after the other, as a loop looks at them.
use Rattle.std.proofs.Common.{◌≡◌, ℕ, suc, ◌+◌, ◌-◌, ◌<◌, ◌≤◌, List, Option, Some, None, Result, Ok, Err, sym, arith}
use Rattle.std.proofs.lemmas.Bool.{lt-ltb, le-ltb}
use Rattle.wk_bytes.specs.declared.fault.ReadFault.{ReadFault}
use Rattle.wk_bytes.specs.Span.{u32_at}
use Rattle.wk_place.specs.Seeking.{unknown_from}

abbrev pub EntryFound : Type 0
EntryFound = Result (Option ℕ) ReadFault

pub fails : (known count i end : ℕ) (bytes : List ℕ) (e : ReadFault) (whole : EntryFound) → i < count → u32_at end bytes ≡ Err e
    → unknown_from known i (count - i) end bytes ≡ whole → whole ≡ Err e
fails known count i end bytes e whole lt bad before =
    let k : count - i ≡ suc (count - (i + 1)) = omega arith in
    sym (rw (k, bad) at before)

pub meets : (known count i end func : ℕ) (bytes after : List ℕ) (whole : EntryFound) → i < count → u32_at end bytes ≡ Ok (func, after) → known ≤ func
    → unknown_from known i (count - i) end bytes ≡ whole → whole ≡ Ok (Some i)
meets known count i end func bytes after whole lt read unknown before =
    let k : count - i ≡ suc (count - (i + 1)) = omega arith in
    sym (rw (k, read, le-ltb func known unknown) at before)

pub goes_on : (known count i end now func : ℕ) (bytes after : List ℕ) (whole : EntryFound) → i < count → u32_at end bytes ≡ Ok (func, after) → now ≡ end
    → func < known → unknown_from known i (count - i) end bytes ≡ whole → unknown_from known (i + 1) (count - (i + 1)) now after ≡ whole
goes_on known count i end now func bytes after whole lt read same less before =
    let k : count - i ≡ suc (count - (i + 1)) = omega arith in
    rw same (rw (k, read, lt-ltb func known less) at before)

pub ends : (known count i end : ℕ) (bytes : List ℕ) (whole : EntryFound) → count ≤ i → unknown_from known i (count - i) end bytes ≡ whole
    → whole ≡ Ok None
ends known count i end bytes whole past before =
    let k : count - i ≡ 0 = omega arith in
    sym (rw k at before)
