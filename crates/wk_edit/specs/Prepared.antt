-- An outcome before it is written.
use Rattle.std.specs.Prelude.{◌≡◌, ℕ, Bool, true, false, List, [], map, Option, Some, None, Result, Ok, Err, string_bytes}
use Rattle.wk_body.specs.declared.types.Profile.{Profile}
use Rattle.wk_body.specs.Written.{written_body}
use Rattle.wk_module.specs.declared.types.Func.{Func}
use Rattle.wk_module.specs.declared.types.Parts.{Parts}
use Rattle.wk_module.specs.Modules.{Spells}
use Rattle.wk_module.specs.Outlines.{outlined}
use Rattle.wk_module.specs.Reading.{module_at}
use Rattle.wk_module.specs.Writing.{encoded}
use Rattle.wk_session.specs.declared.edit.EditFault.{EditFault}
use Rattle.wk_edit.specs.declared.prepare.EditedModule.{EditedModule}
use Rattle.wk_edit.specs.declared.prepare.EditedModule.TheVariants.{Nothing, Session, Edited}
use Rattle.wk_edit.specs.declared.prepare.Opened.{Opened}
use Rattle.wk_edit.specs.declared.prepare.Opened.TheVariants.{Whole, Outlined}
use Rattle.wk_edit.specs.declared.prepare.Prepared.{Prepared}
use Rattle.wk_edit.specs.Outcome.{Outcome, out_of}

-- the module, or bytes that spell it and its outline
abbrev pub IsOpened : Profile → Parts → Opened → Type 0
IsOpened profile m (Whole s) = s ≡ m
IsOpened profile m (Outlined outline input) =
    (module_at profile input.items ≡ Ok m) × (outline.module ≡ outlined m) × (outline.codes.items ≡ map (λ (f : Func). written_body f.body) m.funcs)

-- whether an edit was made, whatever it is told
abbrev pub is_made : {A : Type 0} → Result A EditFault → Bool
is_made (Ok told) = true
is_made (Err fault) = false

-- what is written of the module
abbrev pub made_bytes : EditedModule → List ℕ
made_bytes Nothing = []
made_bytes (Session m) = encoded m
made_bytes (Edited bytes) = bytes

-- the written form of a module spells it, and no other of its profile
abbrev pub IsSpelled : Option Parts → Type 0
IsSpelled None = Unit {0}
IsSpelled (Some m) = Spells (encoded m) m × ((n : Parts) → n.profile ≡ m.profile → Spells (encoded m) n → n ≡ m)

pub record IsPrepared (o : Outcome) (p : Prepared) : Type 0 where
  pub made : made_bytes p.made ≡ out_of o
  pub spelled : IsSpelled o.edited
  pub report : string_bytes p.text ≡ o.report
  pub status : p.status ≡ o.status
