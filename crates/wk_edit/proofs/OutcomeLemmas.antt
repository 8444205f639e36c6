-- What is prepared is the outcome.
use Rattle.std.proofs.Common.{◌≡◌, ◌≢◌, ℕ, Bool, true, false, codes, List, [], ◌∷◌, Result, Ok, Err, refl, sym, ap, subst, ◌∙◌, inl, inr}
use Rattle.std.specs.Prelude.{◌↔◌, IfOk, OnOk, Some, string_bytes}
use Rattle.std.specs.List.{list_any}
use Rattle.std.proofs.lemmas.Bool.{or_parts}
use Rattle.wk_bytes.specs.declared.fault.ReadKind.{ReadKind}
use Rattle.wk_bytes.specs.declared.fault.ReadFault.{ReadFault}
use Rattle.wk_module.specs.declared.types.Parts.{Parts}
use Rattle.wk_body.specs.declared.types.Profile.{Profile}
use Rattle.wk_body.specs.Reads.{FailsAs}
use Rattle.wk_body.specs.ReadsLaws.{other_fault}
use Rattle.wk_module.specs.ListReading.{IsReading}
use Rattle.wk_module.specs.ModuleLaws.{SpellOne}
use Rattle.wk_module.specs.Modules.{Spells}
use Rattle.wk_module.specs.Reading.{module_at}
use Rattle.wk_module.specs.Shape.{IsShaped}
use Rattle.wk_module.specs.Writing.{encoded, Fits}
use Rattle.wk_typing.specs.declared.fault.Verdict.{Verdict}
use Rattle.wk_typing.specs.declared.fault.Verdict.TheVariants.{Valid}
use Rattle.wk_check.specs.Valid.{IsValidModule}
use Rattle.wk_check.specs.Verdict.{module_verdict}
use Rattle.wk_session.specs.declared.edit.Edit.{Edit}
use Rattle.wk_session.specs.declared.edit.Work.{Work}
use Rattle.wk_session.specs.declared.edit.EditFault.{EditFault}
use Rattle.wk_session.specs.LastingLaws.{stays_valid}
use Rattle.wk_session.specs.MakingLaws.{edits_made}
use Rattle.wk_session.specs.Runs.{is_memory, reply_of, after_one, replies_of, after, refused_for_memory}
use Rattle.wk_edit.specs.declared.fault.ScriptFault.{ScriptFault}
use Rattle.wk_edit.specs.declared.fault.RunFault.{RunFault}
use Rattle.wk_edit.specs.declared.prepare.Prepared.{Prepared}
use Rattle.wk_edit.specs.Script.{script_of}
use Rattle.wk_edit.specs.ScriptGrammar.{IsScript, IsOnlyScript, IsNoScript, IsFaultOf}
use Rattle.wk_edit.specs.ReportText.{report_text}
use Rattle.wk_edit.specs.Outcome.{malformed_outcome, run_status, run_outcome, script_outcome, outcome_on, outcome_of}
use Rattle.wk_edit.specs.Prepared.{made_bytes, IsPrepared, IsSpelled}
use Rattle.wk_edit.specs.Theorem.{HasLastLine, IsRun, IsRead, IsReport}
use Rattle.wk_edit.proofs.LastLine.{valid_line}
use Rattle.wk_edit.proofs.ScriptBytes.{script_bytes}
use Rattle.wk_session.specs.ToldLaws.{ReadsCode, all_told}

-- ---- the written form of a module spells it, and no other

pub spelled_once : ((m : Parts) → IsShaped m → Fits m → Spells (encoded m) m) → SpellOne → (m : Parts) → IsShaped m → Fits m → IsSpelled (Some m)
spelled_once spells one m shaped fits =
    let own = spells m shaped fits in
    (own, λ n same other. one (encoded m) n m same other own)

-- ---- no edit was refused for want of memory

module _ (keep : Bool) where
  after_unmarked : (es : List Edit) (rs : List (Result Work EditFault)) (m : Parts) → list_any is_memory rs ≡ false
      → after keep es (refused_for_memory rs) m ≡ after keep es [] m
  after_unmarked [] rs m h = refl
  after_unmarked (e ∷ es) [] m h = refl
  after_unmarked (e ∷ es) (r ∷ rs) m h =
      let parts = or_parts (is_memory r) (list_any is_memory rs) h in
      rw parts.0 (after_unmarked es rs (after_one keep e false m) parts.1)

  replies_unmarked : (es : List Edit) (rs : List (Result Work EditFault)) (m : Parts) → list_any is_memory rs ≡ false
      → replies_of keep es (refused_for_memory rs) m ≡ replies_of keep es [] m
  replies_unmarked [] rs m h = refl
  replies_unmarked (e ∷ es) [] m h = refl
  replies_unmarked (e ∷ es) (r ∷ rs) m h =
      let parts = or_parts (is_memory r) (list_any is_memory rs) h in
      rw parts.0 (ap (λ (more : List (Result Work EditFault)). reply_of keep e false m ∷ more)
      (replies_unmarked es rs (after_one keep e false m) parts.1))

-- what a session made of a module is prepared
pub ran_prepared : (keep : Bool) (m n : Parts) (es : List Edit) (rs : List (Result Work EditFault)) (v w : Verdict) (p : Prepared)
    → list_any is_memory rs ≡ false → rs ≡ replies_of keep es (refused_for_memory rs) m → n ≡ after keep es (refused_for_memory rs) m
    → IsSpelled (Some n) → v ≡ module_verdict n → w ≡ module_verdict n
    → made_bytes p.made ≡ encoded n → string_bytes p.text ≡ report_text 1 rs v → p.status ≡ run_status rs w
    → IsPrepared (run_outcome keep m es) p
ran_prepared keep m n es rs v w p no_memory replies module_is own v_is w_is made text status =
    let n_is : n ≡ after keep es [] m = module_is ∙ after_unmarked keep es rs m no_memory in
    let rs_are : rs ≡ replies_of keep es [] m = replies ∙ replies_unmarked keep es rs m no_memory in
    record { made = made ∙ ap encoded n_is; spelled = subst (λ (x : Parts). IsSpelled (Some x)) n_is own; report = cc; status = cc }

-- ---- the outcome by what was read

outcome_ran : (keep : Bool) (profile : Profile) (input script : List ℕ) (m : Parts) (s : Result (List Edit) ScriptFault)
    → module_at profile input ≡ Ok m → script_of script ≡ s → outcome_of keep profile input script ≡ outcome_on keep m s
unfolding outcome_of
outcome_ran keep profile input script m s read said = rw (read, said) refl

outcome_malformed : (keep : Bool) (profile : Profile) (input script : List ℕ) (e : ReadFault) → module_at profile input ≡ Err e
    → outcome_of keep profile input script ≡ malformed_outcome e
unfolding outcome_of
outcome_malformed keep profile input script e read = rw read refl

-- bytes that are read again spell the same module
pub same_module : (profile : Profile) (lent bytes : List ℕ) (s m : Parts) → lent ≡ bytes → module_at profile lent ≡ Ok s
    → module_at profile bytes ≡ Ok m → s ≡ m
same_module profile lent bytes s m same exact at =
    let both : (let r : Result Parts ReadFault = Ok s in r) ≡ Ok m = sym exact ∙ ap (module_at profile) same ∙ at in
    cc

-- ---- what is valid

-- what `meaning_of_verdicts` of `wk_check` says
abbrev pub VerdictsMean : Type 0
VerdictsMean = (m : Parts) → module_verdict m ≡ Valid ↔ IsValidModule m

module _ (mean : VerdictsMean) where
  -- where each edit has to leave a valid module
  stays : (keep : Bool) → keep ≡ true → (es : List Edit) (m : Parts) → IsValidModule m → IsValidModule (after keep es [] m)
  stays true is es m valid = (mean (after true es [] m)).0 (stays_valid es [] m ((mean m).1 valid))
  stays false is es m valid = absurd cc

  -- the last line says so exactly where the module is
  said_valid : (m : Parts) (replies : List (Result Work EditFault)) → HasLastLine (report_text 1 replies (module_verdict m)) (codes "valid") ↔ IsValidModule m
  said_valid m replies =
      let line = valid_line 1 replies (module_verdict m) in
      (λ last. (mean m).0 (line.0 last), λ valid. line.1 ((mean m).1 valid))

-- ---- what `prepare` answers

module _ (keep : Bool) (profile : Profile) (input script : List ℕ) where
  pub malformed_ok : (r : Result Prepared RunFault) (e : ReadFault) → IfOk r (IsPrepared (malformed_outcome e)) → OnOk r (e.kind ≢ ReadKind.Memory)
      → FailsAs e e.kind (module_at profile input) → IfOk r (IsPrepared (outcome_of keep profile input script))
  malformed_ok (Ok p) e is other fails =
      rw (outcome_malformed keep profile input script e (other_fault e e.kind (module_at profile input) other fails)) is
  malformed_ok (Err f) e is other fails = tt

  pub malformed_means : (r : Result Prepared RunFault) (e : ReadFault) → OnOk r (e.kind ≢ ReadKind.Memory) → FailsAs e e.kind (module_at profile input)
      → IsReading profile input (module_at profile input)
      → OnOk r (IsReport keep profile input script (outcome_of keep profile input script))
  malformed_means (Ok p) e other fails is =
      let read = other_fault e e.kind (module_at profile input) other fails in
      let told = rw read at is in
      rw (outcome_malformed keep profile input script e read)
      (inl (record { fault = e; none = told.0; stands = told.1; first = told.2; other = other; out = refl; report = refl; status = refl }))
  malformed_means (Err f) e other fails is = tt

  pub ran_ok : (r : Result Prepared RunFault) (m : Parts) (s : Result (List Edit) ScriptFault) → IfOk r (IsPrepared (outcome_on keep m s))
      → module_at profile input ≡ Ok m → script_of script ≡ s → IfOk r (IsPrepared (outcome_of keep profile input script))
  ran_ok r m s is read said = rw (outcome_ran keep profile input script m s read said) is

  run_told : ReadsCode → VerdictsMean → (m : Parts) (es : List Edit) → IsScript script es → IsOnlyScript script es → IsSpelled (run_outcome keep m es).edited
      → IsRun keep m script (run_outcome keep m es)
  run_told reads mean m es is only spelled = record {
    edits = es;
    spelled = is;
    only = only;
    edited = after keep es [] m;
    made = refl;
    out = refl;
    spells = spelled.0;
    alone = spelled.1;
    steps = edits_made reads keep es (script_bytes script es is) [] m;
    kept = λ kept valid. stays mean keep kept es m valid;
    told = all_told reads keep es m;
    report = refl;
    status = refl;
    judged = mean (after keep es [] m);
    valid = said_valid mean (after keep es [] m) (replies_of keep es [] m);
  }

  read_as : (m : Parts) → module_at profile input ≡ Ok m → IsReading profile input (module_at profile input) → IsRead profile input m
  read_as m read is =
      let told = rw read at is in
      record { profile_is = told.0; spelled = told.1; only = told.2 }

  pub ran_means : ReadsCode → VerdictsMean → (r : Result Prepared RunFault) (m : Parts) (es : List Edit) → IsReading profile input (module_at profile input)
      → module_at profile input ≡ Ok m → IsScript script es → IsOnlyScript script es → script_of script ≡ Ok es
      → IfOk r (IsPrepared (outcome_of keep profile input script)) → OnOk r (IsReport keep profile input script (outcome_of keep profile input script))
  ran_means reads mean (Ok p) m es of read is only said prepared =
      let ran = outcome_ran keep profile input script m (Ok es) read said in
      rw ran (inr (m, read_as m read of, inr (run_told reads mean m es is only (rw ran at prepared.spelled))))
  ran_means reads mean (Err e) m es of read is only said prepared = tt

  pub script_means : (r : Result Prepared RunFault) (m : Parts) (f : ScriptFault) → OnOk r (f ≢ ScriptFault.Memory)
      → IsReading profile input (module_at profile input) → module_at profile input ≡ Ok m → (f ≢ ScriptFault.Memory → script_of script ≡ Err f)
      → (f ≢ ScriptFault.Memory → IsNoScript script) → (f ≢ ScriptFault.Memory → IsFaultOf script f)
      → OnOk r (IsReport keep profile input script (outcome_of keep profile input script))
  script_means (Ok p) m f other of read said none faulty =
      rw (outcome_ran keep profile input script m (Err f) read (said other))
      (inr (m, read_as m read of, inl (record { fault = f; none = none other; first = faulty other; out = refl; report = refl; status = refl })))
  script_means (Err e) m f other of read said none faulty = tt

  pub script_ok : (r : Result Prepared RunFault) (m : Parts) (f : ScriptFault) → IfOk r (IsPrepared (script_outcome f))
      → OnOk r (f ≢ ScriptFault.Memory) → module_at profile input ≡ Ok m → (f ≢ ScriptFault.Memory → script_of script ≡ Err f)
      → IfOk r (IsPrepared (outcome_of keep profile input script))
  script_ok (Ok p) m f is other read said = rw (outcome_ran keep profile input script m (Err f) read (said other)) is
  script_ok (Err e) m f is other read said = tt
