-- What a session keeps beside its module.
use Rattle.std.specs.Prelude.{◌≡◌, ◌≢◌, ℕ, Bool, false, Option, Some, List, length, map, Result, Ok, Err}
use Rattle.wk_bytes.specs.Leb.{◌>>=◌}
use Rattle.wk_body.specs.declared.references.Ref.{Ref}
use Rattle.wk_body.specs.Lengths.{limited}
use Rattle.wk_module.specs.declared.lists.Lists.{Lists}
use Rattle.wk_module.specs.declared.types.Func.{Func}
use Rattle.wk_module.specs.declared.types.Parts.{Parts}
use Rattle.wk_module.specs.Listed.{listed, listed_with}
use Rattle.wk_module.specs.Shape.{IsFormed, settle}
use Rattle.wk_module.specs.Writing.{encoded}
use Rattle.wk_typing.specs.declared.fault.BodyVerdict.{BodyVerdict}
use Rattle.wk_typing.specs.declared.fault.Verdict.{Verdict}
use Rattle.wk_check.specs.SpacesLaws.{answers_of}
use Rattle.wk_check.specs.Verdict.{func_verdict, module_verdict}
use Rattle.wk_list.specs.Uses.{in_order}
use Rattle.wk_pieces.specs.Pieces.{ArePieces}
use Rattle.wk_session.specs.declared.verdict_and_len.Appraisal.{Appraisal}
use Rattle.wk_session.specs.declared.edit.Edit.{Edit}
use Rattle.wk_session.specs.declared.edit.EditFault.{EditFault}
use Rattle.wk_session.specs.declared.edit.EditFault.TheVariants.{Memory}
use Rattle.wk_session.specs.declared.edit.Work.{Work}
use Rattle.wk_session.specs.declared.cache.Cache.{Cache as Kept}
use Rattle.wk_session.specs.Dependents.{held, work_of}
use Rattle.wk_session.specs.Edits.{fitting, lasting, made, is_decided}

-- ---- what a function refers to, in order

abbrev pub uses_of : Func → List Ref
uses_of f = in_order (held f)

-- ---- each part that is kept is what computing it from the module gives

pub record IsKept (m : Parts) (k : Kept) : Type 0 where
  pub verdict : k.verdict ≡ module_verdict m
  pub len : limited (length (encoded m)) ≡ Some k.len
  pub types : k.types.items ≡ map (λ f. f.ty) m.funcs
  pub verdicts : k.verdicts.items ≡ map (func_verdict (answers_of m)) m.funcs
  pub refs : map (λ s. s.keys) k.refs.items ≡ map uses_of m.funcs
  pub pieces : ArePieces m k.pieces

-- ---- a module that an edit would make, by lists that are lent, the verdicts of its bodies, and its length

pub record IsPending (l : Lists) (vs : List BodyVerdict) (size : Option ℕ) (n : Parts) : Type 0 where
  pub formed : IsFormed n
  pub profile : l.profile ≡ n.profile
  pub lists : listed l ≡ listed_with (map (λ f. f.ty) n.funcs) n
  pub verdicts : vs ≡ map (func_verdict (answers_of n)) n.funcs
  pub len : size ≡ limited (length (encoded n))

-- the module, or why the edit that makes it is refused where `keep` says whether it has to be valid
abbrev pub standing : Bool → Parts → Result Parts EditFault
standing keep n = fitting (settle n) >>= lasting keep

-- the verdict and the length of a module that may stay; or why it may not, unless memory was wanted
abbrev pub IsAppraised : Bool → Parts → Result Appraisal EditFault → Type 0
IsAppraised keep n (Ok a) = (standing keep n ≡ Ok (settle n)) × (a.verdict ≡ module_verdict n) × (limited (length (encoded n)) ≡ Some a.len)
IsAppraised keep n (Err e) = e ≢ Memory → standing keep n ≡ Err e

-- whether modules of this verdict may stay, or why they may not
abbrev pub MayLast : {A : Type 0} → Bool → Verdict → Result A EditFault → Type 0
MayLast keep v (Ok x) = (n : Parts) → module_verdict n ≡ v → lasting keep n ≡ Ok n
MayLast keep v (Err e) = (e ≢ Memory) × ((n : Parts) → module_verdict n ≡ v → lasting keep n ≡ Err e)

-- ---- what an edit leaves

-- From m, of which k is kept, an accepted edit goes to the module that it makes, but that its customs are not settled. A refused one leaves
-- all as it was, and the refusal is the one that is due. Or memory was wanted, but not where the outcome is decided without any.
abbrev pub Leads : Bool → Edit → Parts → Result Work EditFault → Parts → Kept → Type 0
Leads keep e m (Ok w) n k = (made keep e m ≡ Ok (settle n)) × (w ≡ work_of e m (settle n)) × IsFormed n × IsKept n k
Leads keep e m (Err f) n k = (f ≢ Memory → made keep e m ≡ Err f) × (f ≡ Memory → is_decided e m ≡ false) × (n ≡ m) × IsKept m k
