-- Exports that are judged while they are read, each with the names of those before.
use Rattle.std.proofs.Common.{◌≡◌, ◌≢◌, ℕ, ◌+◌, ◌<◌, ◌≤◌, true, false, List, [], ◌∷◌, ◌++◌, Option, Some, None, Result, Ok, Err, refl, ap, ◌∙◌}
use Rattle.std.specs.Option.{is_some}
use Rattle.wk_bytes.specs.declared.fault.ReadKind.TheVariants.{SectionSize}
use Rattle.wk_bytes.specs.declared.fault.ReadFault.{ReadFault}
use Rattle.wk_bytes.specs.Leb.{◌>>=◌}
use Rattle.wk_bytes.specs.Span.{Span, fault, u32_at}
use Rattle.wk_body.specs.Vectors.{vector_at}
use Rattle.wk_module.specs.declared.types.Export.{Export}
use Rattle.wk_module.specs.Formats.{all_at}
use Rattle.wk_module.specs.Items.{export_at}
use Rattle.wk_typing.specs.declared.fault.Flaw.{Flaw}
use Rattle.wk_typing.specs.declared.fault.Fault.{Fault}
use Rattle.wk_judging.specs.Contexts.{ModuleContext, ExportsSoFar, add_export, next_export_flaw, items_judged}
use Rattle.wk_judging.proofs.JudgedItems.{by_flaw}
use Rattle.wk_judging.proofs.MadeReading.{InSection, no_count, goes_on_in, stops_in, ends_in, goes_past}

-- ---- the first fault

pub is_none : {X : Type 0} (first : Option X) → is_some first ≡ false → first ≡ None
is_none None is = refl
is_none (Some x) is = absurd cc

pub none_none : {X : Type 0} (first : Option X) → is_some first ≡ true → first ≡ None → ⊥
none_none None is none = absurd cc
none_none (Some x) is none = absurd cc

pub some_none : {X : Type 0} (first : Option X) (x : X) → first ≡ Some x → first ≡ None → ⊥
some_none first x is none = absurd cc

module _ (end : ℕ) (bytes : List ℕ) (c : ModuleContext) (before : Option Fault) where
  abbrev start : ExportsSoFar
  start = record { context = c; names = [] }

  abbrev behind : List (List ℕ) → ExportsSoFar
  behind names = record { context = c; names = names }

  abbrev fault_alone : ExportsSoFar × Option Fault → Result (Option Fault) ReadFault
  fault_alone x = Ok x.1

  abbrev failed : ReadFault → Result (Option Fault) ReadFault
  failed e = Err e

  abbrev together : List Export → Result (ExportsSoFar × Option Fault) ReadFault
  together es = Ok (items_judged next_export_flaw add_export 7 start before 0 es)

  abbrev apart : List Export → Result (Option Fault) ReadFault
  apart es = fault_alone (items_judged next_export_flaw add_export 7 start before 0 es)

  -- of what all exports come to the first fault alone
  alone : (r : Result (List Export) ReadFault) → (r >>= apart) ≡ (r >>= together >>= fault_alone)
  alone (Ok es) = refl
  alone (Err e) = refl

  abbrev whole : Result (Option Fault) ReadFault
  whole = all_at (vector_at export_at) end bytes >>= apart

  by_all : (r : Result (ExportsSoFar × Option Fault) ReadFault) → (all_at (vector_at export_at) end bytes >>= together) ≡ r → whole ≡ (r >>= fault_alone)
  by_all r is =
      alone (all_at (vector_at export_at) end bytes) ∙ ap (λ (x : Result (ExportsSoFar × Option Fault) ReadFault). x >>= fault_alone) is

  -- their number cannot be read
  pub exports_uncounted : (at : Span) (e : ReadFault) → at ≡ record { rest = bytes; end = end } → u32_at at.end at.rest ≡ Err e → whole ≡ Err e
  exports_uncounted at e is bad = by_all (Err e) (no_count export_at next_export_flaw add_export 7 end bytes start before at e is bad)

  module _ {count item : ℕ} {at : Span} {names : List (List ℕ)} {first : Option Fault}
      (inside : InSection export_at next_export_flaw add_export 7 end bytes start before count item at (behind names) first) where
    -- behind a fault an export is only read
    passes : (new : Span) (e : Export) (o : Option Fault) → o ≡ first → is_some o ≡ true → item < count → export_at at.end at.rest ≡ Ok (e, new.rest)
        → new.end ≡ at.end
        → InSection export_at next_export_flaw add_export 7 end bytes start before count (item + 1) new (behind (names ++ e.name ∷ [])) o
    passes new e None is some here read same = absurd cc
    passes new e (Some f) is some here read same =
        goes_on_in export_at next_export_flaw add_export 7 end bytes start before count item at (behind names) (Some f) (rw is inside)
        new e (behind (names ++ e.name ∷ []), None) (Some f) here read same refl refl

    pub export_passes : (new : Span) (e : Export) → is_some first ≡ true → item < count → export_at at.end at.rest ≡ Ok (e, new.rest)
        → new.end ≡ at.end
        → InSection export_at next_export_flaw add_export 7 end bytes start before count (item + 1) new (behind (names ++ e.name ∷ [])) first
    export_passes new e some here read same = passes new e first refl some here read same

    -- else it is judged
    pub export_judged : (new : Span) (e : Export) (wrong : Option Flaw) (first' : Option Fault) → first ≡ None → item < count
        → export_at at.end at.rest ≡ Ok (e, new.rest) → new.end ≡ at.end → wrong ≡ next_export_flaw (behind names) e → first' ≡ by_flaw first 7 item wrong
        → InSection export_at next_export_flaw add_export 7 end bytes start before count (item + 1) new (behind (names ++ e.name ∷ [])) first'
    export_judged new e wrong first' none here read same is first_is =
        goes_on_in export_at next_export_flaw add_export 7 end bytes start before count item at (behind names) first inside
        new e (behind (names ++ e.name ∷ []), wrong) first' here read same (rw none (ap (λ (w : Option Flaw). with_flaw w) is)) first_is
      where
        with_flaw : Option Flaw → ExportsSoFar × Option Flaw
        with_flaw w = (behind (names ++ e.name ∷ []), w)

    -- it cannot be read
    pub export_stops : (e : ReadFault) → item < count → export_at at.end at.rest ≡ Err e → whole ≡ Err e
    export_stops e here bad =
        by_all (Err e) (stops_in export_at next_export_flaw add_export 7 end bytes start before count item at (behind names) first inside e here bad)

    -- none is left, nor any byte
    pub exports_end : count ≤ item → at.rest ≡ [] → whole ≡ Ok first
    exports_end past none =
        by_all (Ok (behind names, first))
        (ends_in export_at next_export_flaw add_export 7 end bytes start before count item at (behind names) first inside past none)

    -- bytes are left
    pub exports_past : count ≤ item → at.rest ≢ [] → whole ≡ Err (fault SectionSize at.end at.rest)
    exports_past past some =
        by_all (Err (fault SectionSize at.end at.rest))
        (goes_past export_at next_export_flaw add_export 7 end bytes start before count item at (behind names) first inside past some)
