-- The verdict of a module of which the sections in front of the code section are read and judged.
use Rattle.std.proofs.Common.{◌≡◌, ℕ, List, Result, Ok, Err, Option, Some, ap, sym, subst, ◌∙◌, arith}
use Rattle.wk_bytes.specs.declared.fault.ReadFault.{ReadFault}
use Rattle.wk_bytes.specs.declared.raw.RawSection.{RawSection}
use Rattle.wk_bytes.specs.Frames.{Section, sections_of}
use Rattle.wk_bytes.specs.Leb.{◌>>=◌}
use Rattle.wk_bytes.specs.Raw.{raw_view}
use Rattle.wk_body.specs.declared.types.Profile.{Profile}
use Rattle.wk_body.specs.Reads.{Reads}
use Rattle.wk_body.specs.ReadsLaws.{fails_on}
use Rattle.wk_module.specs.declared.types.Parts.{Parts}
use Rattle.wk_module.specs.ListReading.{AreListsOfModule, IsReading}
use Rattle.wk_module.specs.Reading.{module_at}
use Rattle.wk_module.specs.Sections.{SectionLists}
use Rattle.wk_typing.specs.declared.fault.Fault.{Fault}
use Rattle.wk_judging.specs.Contexts.{AreOmittedFrom, ModuleContext, IsFront, behind_at_once, context_of}
use Rattle.wk_check.specs.Flaws.{verdict_by}
use Rattle.wk_judging.specs.Spelled.{judged, codes_judged}
use Rattle.wk_check.specs.Verdict.{front_fault}
use Rattle.wk_judging.proofs.JudgedCodes.{codes_fail, codes_read, judged_behind}
use Rattle.wk_judging.proofs.SectionFaults.{front_is}

with_verdict : (answer read : Result (Option Fault) ReadFault) → Reads (λ f. f) answer read → Reads verdict_by answer (read >>= λ f. Ok (verdict_by f))
with_verdict (Ok f) read reads = ap (λ r. r >>= λ g. Ok (verdict_by g)) reads
with_verdict (Err e) read reads = fails_on e e.kind read (read >>= λ f. Ok (verdict_by f)) (λ bad. ap (λ r. r >>= λ g. Ok (verdict_by g)) bad) reads

module _ (profile : Profile) (b : List ℕ) (is : IsReading profile b (module_at profile b)) (lists : AreListsOfModule profile b)
    {c : ModuleContext} {left : List (Result Section ReadFault)} {fault : Option Fault} {code : RawSection}
    (front : IsFront profile (sections_of b) c left fault (Some code)) where
  -- the context and the fault are those of the lists in front
  codes_are : codes_judged profile c fault (raw_view code)
      ≡ codes_judged profile (context_of front.lists) (front_fault profile front.lists) (raw_view code)
  codes_are =
      ap (λ x. codes_judged profile x fault (raw_view code)) front.context_is
      ∙ ap (λ f. codes_judged profile (context_of front.lists) f (raw_view code)) (front.fault_is ∙ front_is profile front.lists front.omitted)

  -- the codes can't be read
  pub front_fails : (e : ReadFault) → codes_judged profile c fault (raw_view code) ≡ Err e → judged (module_at profile b) ≡ Err e
  front_fails e bad =
      codes_fail profile b is lists front.lists (raw_view code) left front.ends.0 front.no_codes front.ends.1 front.ends.2 e (sym codes_are ∙ bad)

  -- they can where the bytes spell a module
  pub front_reads : (m : Parts) → module_at profile b ≡ Ok m → (o : Option Fault) × (codes_judged profile c fault (raw_view code) ≡ Ok o)
  front_reads m spelled =
      let codes = codes_read profile b is lists front.lists (raw_view code) left front.ends.0 front.no_codes front.ends.1 front.ends.2 m spelled in
      (codes.0, codes_are ∙ codes.1)

  -- they were, and the rest decides
  front_judged : (o : Option Fault) → codes_judged profile c fault (raw_view code) ≡ Ok o
      → judged (module_at profile b) ≡ (behind_at_once profile front.lists o left >>= λ f. Ok (verdict_by f))
  front_judged o codes =
      judged_behind profile b is lists front.lists (raw_view code) left front.ends.0 front.no_codes front.ends.1 front.ends.2 o (sym codes_are ∙ codes)

  -- the sections behind it are read and judged behind their lists
  pub front_goes_on : (o : Option Fault) (d : ModuleContext) (answer : Result (Option Fault) ReadFault) → codes_judged profile c fault (raw_view code) ≡ Ok o
      → d ≡ c → ((l : SectionLists) → d ≡ context_of l → AreOmittedFrom 11 l → Reads (λ f. f) answer (behind_at_once profile l o left))
      → Reads verdict_by answer (judged (module_at profile b))
  front_goes_on o d answer codes same behind =
      subst (Reads verdict_by answer) (sym (front_judged o codes))
      (with_verdict answer (behind_at_once profile front.lists o left)
      (behind front.lists (same ∙ front.context_is) (λ k le. front.omitted k (omega (arith, le)))))
