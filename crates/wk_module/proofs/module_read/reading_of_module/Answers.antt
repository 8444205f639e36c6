use Rattle.std.proofs.Common.{◌≡◌, ℕ, List, Result, Ok, Err, IfOk, refl, arith}
use Rattle.wk_bytes.specs.LebLaws.{IsBytes}
use Rattle.wk_bytes.specs.declared.fault.ReadFault.{ReadFault}
use Rattle.wk_body.specs.declared.types.Profile.{Profile}
use Rattle.wk_module.specs.declared.types.Parts.{Parts}
use Rattle.wk_module.specs.FormatLaws.{SectionLaws}
use Rattle.wk_module.specs.ListReading.{IsReading}
use Rattle.wk_module.specs.Reading.{module_at}
use Rattle.wk_module.specs.Writing.{Fits}
use Rattle.wk_module.proofs.Fitting.{fits_spelled}
use Rattle.wk_module.proofs.FirstFaults.{module_first}
use Rattle.wk_module.proofs.ListReading.{lists_of_module, sections_rise}
use Rattle.wk_module.proofs.ModuleReading.{module_found, module_none, answer_only}
use Rattle.wk_module.proofs.Shaped.{shaped}
use Rattle.wk_module.proofs.Standing.{module_stands}
use Rattle.wk_module.proofs.module_read.reading_of_module.Goals as goal

reading_is : (profile : Profile) (laws : SectionLaws profile) (b : List ℕ) (r : Result Parts ReadFault) → IsBytes b → module_at profile b ≡ r
    → IsReading profile b r
reading_is profile laws b (Ok m) fits is =
    let found = module_found profile laws b m fits is in
    (found.1, found.0, answer_only profile laws b (Ok m) is, shaped profile laws b m found.1 fits found.0)
reading_is profile laws b (Err e) fits is = (module_none profile laws b e is, module_stands profile laws b e is, module_first profile laws b e fits is)

fits_read : (profile : Profile) (laws : SectionLaws profile) (b : List ℕ) (r : Result Parts ReadFault) → IsBytes b → module_at profile b ≡ r
    → IfOk r (λ m. Fits m)
fits_read profile laws b (Ok m) fits is = let found = module_found profile laws b m fits is in fits_spelled profile laws b m found.1 found.0
fits_read profile laws b (Err e) fits is = tt

pub returns : goal.returns
returns c =
    let laws = c.laws_of_sections.ensures c.args.profile in
    record {
      is = reading_is c.args.profile laws c.args.bytes.now (module_at c.args.profile c.args.bytes.now) (λ i. omega (arith, c.type_inv.bytes i)) refl;
      fits = fits_read c.args.profile laws c.args.bytes.now (module_at c.args.profile c.args.bytes.now) (λ i. omega (arith, c.type_inv.bytes i)) refl;
      lists = lists_of_module c.args.profile c.args.bytes.now;
      rise = sections_rise c.args.bytes.now;
    }
