-- What the length and the verdict of a module say of whether it may stay.
use Rattle.std.proofs.Common.{◌≡◌, ℕ, Bool, Option, Some, Result, List, length, map, ap, ◌∙◌}
use Rattle.wk_bytes.specs.Leb.{◌>>=◌}
use Rattle.wk_body.specs.declared.types.Profile.{Profile}
use Rattle.wk_body.specs.Lengths.{limited}
use Rattle.wk_module.specs.declared.lists.Lists.{Lists}
use Rattle.wk_module.specs.declared.types.Parts.{Parts}
use Rattle.wk_module.specs.Listed.{listed}
use Rattle.wk_module.specs.Sections.{SectionLists}
use Rattle.wk_module.specs.Shape.{IsInOrderFrom, lists_of, settle}
use Rattle.wk_module.specs.Writing.{encoded}
use Rattle.wk_typing.specs.declared.fault.BodyVerdict.{BodyVerdict}
use Rattle.wk_check.specs.Flaws.{first_in}
use Rattle.wk_typing.specs.Faults.{body_flaw}
use Rattle.wk_check.specs.Verdict.{verdict_around, module_verdict}
use Rattle.wk_session.specs.declared.edit.EditFault.{EditFault}
use Rattle.wk_session.specs.Edits.{lasting}
use Rattle.wk_session.specs.Kept.{IsPending, standing}
use Rattle.wk_session.proofs.Leading.{fits_settled}

-- their verdict is that of the module
pub verdict_lent : (l : Lists) (vs : List BodyVerdict) (len : Option ℕ) (n : Parts) → IsPending l vs len n
    → verdict_around l.profile (listed l) (first_in 10 0 (map body_flaw vs)) ≡ module_verdict n
verdict_lent l vs len n p =
    ap (λ (f : Profile). verdict_around f (listed l) (first_in 10 0 (map body_flaw vs))) p.profile
    ∙ ap (λ (s : SectionLists). verdict_around n.profile s (first_in 10 0 (map body_flaw vs))) p.lists
    ∙ ap (λ (ws : List BodyVerdict). verdict_around n.profile (lists_of n) (first_in 10 0 (map body_flaw ws))) p.verdicts

pub fitting_stands : (keep : Bool) (n : Parts) → IsInOrderFrom 0 n.customs → (len : ℕ) → limited (length (encoded n)) ≡ Some len
    → standing keep n ≡ lasting keep (settle n)
fitting_stands keep n order len some = ap (λ (r : Result Parts EditFault). r >>= lasting keep) (fits_settled n len order some)
