-- What a host holds of a validator from one call to the next.
use Rattle.std.specs.Prelude.{◌≡◌, ◌≢◌, ℕ, ◌⊎◌}
use Rattle.std.specs.Ptr.{if_non_null}
use Rattle.std.specs.Box.Ownership.{box_owns}
use Rattle.std.specs.Global.{Global}
use Rattle.std.specs.contracts.impls.GlobalAllocator.TheImpl.{ghosts}
use Rattle.wk_judging.specs.contracts.validator.Validator.{the_row}
use Rattle.wk_ffi.specs.declared.code.Code.TheVariants.{Fine, NoMemory}
use Rattle.wk_ffi.specs.Told.{code_number}
use denote.RawPtr.{Ptr, null_ptr}
use denote.Memory.{lone}
use base.Fml.{Fml}
use mir.Raw.{raw}

-- the right to free it
abbrev pub token : Global → Ptr → Fml
token alloc = ghosts.dealloc_token alloc (raw (lone the_row.mir))

-- the memory of a validator, which lies there, and the right to free it
abbrev pub validator_at : Global → Ptr → Fml
validator_at alloc p = box_owns (ghosts.dealloc_token alloc) the_row p tt

-- what a new pointer comes with: the memory of a validator, and nothing where it is null
abbrev pub handed_out : Global → Ptr → Fml
handed_out alloc p = if_non_null p (validator_at alloc p)

-- a validator is there, or memory was wanting and the pointer is null
abbrev pub IsNew : Ptr → ℕ → Type 0
IsNew p result = ((result ≡ code_number Fine) × (p ≢ null_ptr)) ⊎ ((result ≡ code_number NoMemory) × (p ≡ null_ptr))
