-- The faults of items that are read where they stand lie in the bytes that were left.
use Rattle.std.proofs.Common.{◌≡◌, ◌≢◌, ◌≤◌, length, ap, subst, inl, inr}
use Rattle.wk_bytes.specs.declared.fault.ReadKind.{ReadKind}
use Rattle.wk_bytes.specs.declared.fault.ReadKind.TheVariants.{Memory}
use Rattle.wk_bytes.specs.declared.fault.ReadFault.{ReadFault}
use Rattle.wk_bytes.specs.Span.{Span}
use Rattle.wk_bytes.specs.Stands.{StandsAt, Stands, StandsOrMemory}
use Rattle.wk_bytes.specs.StandsLaws.{ReadsFront}
use Rattle.wk_body.specs.Reads.{FailsAs}
use Rattle.wk_module.specs.declared.types.Import.{Import}
use Rattle.wk_module.specs.Formats.{Reader, bytes_at}
use Rattle.wk_module.specs.InPlace.{import_desc_at}
use Rattle.wk_module.specs.Items.{import_at, export_at}
use Rattle.wk_module.specs.Types.{limits_at, tabletype_at, globaltype_at, functype_at}
use Rattle.wk_module.proofs.Formats.{made_front, bytes_format}
use Rattle.wk_module.proofs.ItemFormats.{functype_format, limits_format, tabletype_format, globaltype_format, import_format, export_format}
use Rattle.wk_module.proofs.Standing.{memory_or_read}

-- what stands in bytes is no want of memory
pub stands_sure : (s : Span) (e : ReadFault) → Stands s e → e.kind ≡ Memory → ⊥
stands_sure s e stood is = subst (λ (k : ReadKind). StandsAt k stood.skipped stood.from) is stood.stands

-- a fault that is answered and is no want of memory stands in the bytes left
sure_stands : {A : Type 0} (read : Reader A) → ReadsFront read → (s : Span) (e : ReadFault) → length s.rest ≤ s.end → e.kind ≢ Memory
    → FailsAs e e.kind (read s.end s.rest) → Stands s e
sure_stands read fronts s e fits sure fails =
    elim (memory_or_read e (read s.end s.rest) fails) [
      | inl none ↦ absurd (sure (ap (λ (f : ReadFault). f.kind) none))
      | inr is ↦ fronts.faults s.end s.rest e is fits
    ]

-- the fault that is answered stands in the bytes left, or memory was wanted
pub fault_stands : {A : Type 0} (read : Reader A) → ReadsFront read → (s : Span) (e : ReadFault) → length s.rest ≤ s.end
    → FailsAs e e.kind (read s.end s.rest) → StandsOrMemory s e
fault_stands read fronts s e fits fails =
    elim (memory_or_read e (read s.end s.rest) fails) [
      | inl none ↦ inl none
      | inr is ↦ inr (fronts.faults s.end s.rest e is fits)
    ]

pub import_desc_stands : (s : Span) (e : ReadFault) → length s.rest ≤ s.end → e.kind ≢ Memory → FailsAs e e.kind (import_desc_at s.end s.rest) → Stands s e
import_desc_stands = sure_stands import_desc_at (made_front (λ (i : Import). i.desc) import_at import_format.fronts)

pub export_stands : (s : Span) (e : ReadFault) → length s.rest ≤ s.end → e.kind ≢ Memory → FailsAs e e.kind (export_at s.end s.rest) → Stands s e
export_stands = sure_stands export_at export_format.fronts

pub limits_stand : (s : Span) (e : ReadFault) → length s.rest ≤ s.end → e.kind ≢ Memory → FailsAs e e.kind (limits_at s.end s.rest) → Stands s e
limits_stand = sure_stands limits_at limits_format.fronts

pub tabletype_stands : (s : Span) (e : ReadFault) → length s.rest ≤ s.end → e.kind ≢ Memory → FailsAs e e.kind (tabletype_at s.end s.rest) → Stands s e
tabletype_stands = sure_stands tabletype_at tabletype_format.fronts

pub functype_stands : (s : Span) (e : ReadFault) → length s.rest ≤ s.end → FailsAs e e.kind (functype_at s.end s.rest) → StandsOrMemory s e
functype_stands = fault_stands functype_at functype_format.fronts

pub globaltype_stands : (s : Span) (e : ReadFault) → length s.rest ≤ s.end → e.kind ≢ Memory → FailsAs e e.kind (globaltype_at s.end s.rest)
    → Stands s e
globaltype_stands = sure_stands globaltype_at globaltype_format.fronts

pub bytes_stand : (s : Span) (e : ReadFault) → length s.rest ≤ s.end → e.kind ≢ Memory → FailsAs e e.kind (bytes_at s.end s.rest) → Stands s e
bytes_stand = sure_stands bytes_at bytes_format.fronts
