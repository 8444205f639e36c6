-- The verdict of a module whose bodies are judged while they are read.
use Rattle.std.proofs.Common.{◌≡◌, ℕ, suc, ◌+◌, ◌<◌, ◌≤◌, ◌-◌, List, [], ◌∷◌, length, map, drop, get_or, add-one, Result, Ok, Err, IfOk, Option, Some, None}
use Rattle.std.proofs.Common.{true, ◌≢◌, refl, sym, ap, subst, ◌∙◌, arith}
use Rattle.std.proofs.Math.Seq.{drop-cons}
use Rattle.std.specs.Option.{is_some}
use Rattle.wk_bytes.specs.declared.fault.ReadKind.TheVariants.{FuncCodeCount, SectionSize}
use Rattle.wk_bytes.specs.declared.fault.ReadFault.{ReadFault}
use Rattle.wk_bytes.specs.Leb.{◌>>=◌}
use Rattle.wk_bytes.specs.LebLaws.{bind_ok, done}
use Rattle.wk_bytes.specs.SpanLaws.{ok_is}
use Rattle.wk_bytes.specs.Span.{Span, fault}
use Rattle.wk_bytes.specs.Frames.{Section}
use Rattle.wk_body.specs.declared.types.Profile.{Profile}
use Rattle.wk_body.specs.Bodies.{BodyOf}
use Rattle.wk_body.specs.Reading.{all_body_at}
use Rattle.wk_body.specs.Reads.{Reads}
use Rattle.wk_body.specs.Vectors.{items_at}
use Rattle.wk_module.specs.declared.types.DataSeg.{DataSeg}
use Rattle.wk_module.specs.declared.types.Func.{Func}
use Rattle.wk_module.specs.declared.types.Parts.{Parts}
use Rattle.wk_module.specs.Formats.{bytes_at, taking_all, all_at}
use Rattle.wk_module.specs.Items.{code_at}
use Rattle.wk_module.specs.Reading.{section_end, zipped, module_at}
use Rattle.wk_module.specs.Sections.{SectionLists, codes_at}
use Rattle.wk_module.specs.Shape.{lists_of}
use Rattle.wk_module.specs.ListReading.{lists_read, Rise, AreListsOfModule, IsReading}
use Rattle.wk_module.proofs.CodesApart.{HasLists, with_codes, read_lists}
use Rattle.wk_module.proofs.CodesApart as apart
use Rattle.wk_typing.specs.declared.fault.Flaw.{Flaw}
use Rattle.wk_typing.specs.declared.fault.Fault.{Fault}
use Rattle.wk_typing.specs.declared.fault.Verdict.{Verdict}
use Rattle.wk_judging.specs.Contexts.{ModuleContext, spaces_in, context_of, behind_at_once}
use Rattle.wk_check.specs.Flaws.{first_in, verdict_by}
use Rattle.wk_typing.specs.Faults.{body_flaw}
use Rattle.wk_check.specs.Items.{earlier}
use Rattle.wk_check.specs.Spaces.{answer_in, spaces_of}
use Rattle.wk_judging.specs.Spelled.{judged, IsVerdictOf, first_of, fault_read, codes_judged, opened_judged}
use Rattle.wk_check.specs.Verdict.{func_verdict, data_flaws, front_fault, verdict_from, verdict_around, module_verdict, IsVerdict}
use Rattle.wk_check.proofs.Flaws.{earlier_none, earlier_assoc, module_verdict_told}

-- ---- one body after the other

-- The first fault of the codes that are still to be read, behind a fault or none: those of functions of these types, from an
-- index on.
abbrev answered : Option Fault → List ℕ → Result (Option Fault × List ℕ) ReadFault
answered o rest = Ok (o, rest)

abbrev rest_judged : Profile → ModuleContext → List ℕ → Option Fault → ℕ → ℕ → ℕ → List ℕ → Result (Option Fault × List ℕ) ReadFault
rest_judged profile c types before item count end bytes =
    items_at (code_at profile) count end bytes >>= λ bodies. answered (earlier before (first_of (spaces_in c) item (zipped types bodies.0))) bodies.1

-- the codes that are read, judged, and what is left of the bytes
abbrev all_judged : ModuleContext → Option Fault → List ℕ → Result (List BodyOf × List ℕ) ReadFault → Result (Option Fault × List ℕ) ReadFault
all_judged c known types codes = codes >>= λ bodies. answered (earlier known (first_of (spaces_in c) 0 (zipped types bodies.0))) bodies.1

-- the first fault with that of one function more
abbrev with_code : ModuleContext → Option Fault → ℕ → ℕ → BodyOf → Option Fault
with_code c before item ty body = earlier before (first_of (spaces_in c) item (record { ty = ty; body = body } ∷ []))

abbrev put_front : BodyOf → List BodyOf × List ℕ → Result (List BodyOf × List ℕ) ReadFault
put_front body xs = Ok (body ∷ xs.0, xs.1)

by_flaw : (c : ModuleContext) (item : ℕ) (f : Func) (funcs : List Func) (w : Option Flaw) → body_flaw (func_verdict (answer_in (spaces_in c)) f) ≡ w
    → first_of (spaces_in c) item (f ∷ funcs) ≡ earlier (first_of (spaces_in c) item (f ∷ [])) (first_of (spaces_in c) (item + 1) funcs)
by_flaw c item f funcs None is = rw is refl
by_flaw c item f funcs (Some w) is = rw is refl

one_more : (c : ModuleContext) (before : Option Fault) (item ty : ℕ) (body : BodyOf) (funcs : List Func)
    → earlier before (first_of (spaces_in c) item (record { ty = ty; body = body } ∷ funcs))
    ≡ earlier (with_code c before item ty body) (first_of (spaces_in c) (item + 1) funcs)
one_more c (Some known) item ty body funcs = refl
one_more c None item ty body funcs =
    let f : Func = record { ty = ty; body = body } in
    by_flaw c item f funcs (body_flaw (func_verdict (answer_in (spaces_in c)) f)) refl

regroup : (c : ModuleContext) (ty : ℕ) (types : List ℕ) (before : Option Fault) (item : ℕ) (body : BodyOf) (r : Result (List BodyOf × List ℕ) ReadFault)
    → ((r >>= put_front body) >>= λ bodies. answered (earlier before (first_of (spaces_in c) item (zipped (ty ∷ types) bodies.0))) bodies.1)
    ≡ (r >>= λ bodies. answered
    (earlier (with_code c before item ty body) (first_of (spaces_in c) (item + 1) (zipped types bodies.0))) bodies.1)
regroup c ty types before item body (Ok xs) = ap (λ (o : Option Fault). answered o xs.1) (one_more c before item ty body (zipped types xs.0))
regroup c ty types before item body (Err e) = refl

-- a body more is read and judged
body_judged : (profile : Profile) (c : ModuleContext) (types : List ℕ) (before : Option Fault) (item ty end : ℕ) (bytes after : List ℕ)
    (body : BodyOf) → item < length types → ty ≡ get_or types item 0
    → code_at profile end bytes ≡ Ok (body, after)
    → rest_judged profile c (drop item types) before item (length types - item) end bytes
    ≡ rest_judged profile c (drop (item + 1) types) (with_code c before item ty body) (item + 1) (length types - (item + 1)) end after
body_judged profile c types before item ty end bytes after body here is read =
    let count : length types - item ≡ suc (length types - (item + 1)) = omega arith in
    let types_are : drop item types ≡ ty ∷ drop (item + 1) types = rw (add-one, is) (drop-cons types item 0 here) in
    rw (count, types_are, read) (regroup c ty (drop (item + 1) types) before item body (items_at (code_at profile) (length types - (item + 1)) end after))

unread : (c : ModuleContext) (before : Option Fault) (item ty : ℕ) (e : ReadFault) (r : Result BodyOf ReadFault)
    → (r >>= λ body. Ok (with_code c before item ty body)) ≡ Err e → r ≡ Err e
unread c before item ty e (Ok body) h = absurd cc
unread c before item ty e (Err d) h = cc

stopped : (c : ModuleContext) (known : Option Fault) (types : List ℕ) (whole : Result (List BodyOf × List ℕ) ReadFault) (e : ReadFault)
    → Err e ≡ all_judged c known types whole → whole ≡ Err e
stopped c known types (Ok x) e h = absurd cc
stopped c known types (Err d) e h = cc

zipped_none : (types : List ℕ) → zipped types [] ≡ []
zipped_none [] = refl
zipped_none (t ∷ types) = refl

nil_cons : (x : ℕ) (rest : List ℕ) → [] ≡ x ∷ rest → ⊥
nil_cons x rest h = absurd cc

-- what all codes come to, where the section ends behind them
abbrev closed : ModuleContext → Option Fault → List ℕ → ℕ → Result (List BodyOf × List ℕ) ReadFault → Result (Option Fault) ReadFault
closed c known types end codes = codes >>= taking_all end >>= λ bodies. Ok (earlier known (first_of (spaces_in c) 0 (zipped types bodies)))

finished : (c : ModuleContext) (known : Option Fault) (types : List ℕ) (end : ℕ) (before : Option Fault) (whole : Result (List BodyOf × List ℕ) ReadFault)
    → answered before [] ≡ all_judged c known types whole → closed c known types end whole ≡ Ok before
finished c known types end before (Ok (bodies, [])) h = sym (ap (λ (r : Result (Option Fault × List ℕ) ReadFault). r >>= λ x. Ok x.0) h)
finished c known types end before (Ok (bodies, x ∷ rest)) h = absurd (nil_cons x rest (ap (λ (y : Option Fault × List ℕ). y.1) (ok_is _ _ h)))
finished c known types end before (Err e) h = absurd cc

left_over : (c : ModuleContext) (known : Option Fault) (types : List ℕ) (end : ℕ) (before : Option Fault) (rest : List ℕ)
    (whole : Result (List BodyOf × List ℕ) ReadFault) → answered before rest ≡ all_judged c known types whole → rest ≢ []
    → closed c known types end whole ≡ Err (fault SectionSize end rest)
left_over c known types end before rest (Ok (bodies, [])) h some = absurd (some (ap (λ (y : Option Fault × List ℕ). y.1) (ok_is _ _ h)))
left_over c known types end before rest (Ok (bodies, x ∷ more)) h some =
    ap (λ (y : List ℕ). Err (fault SectionSize end y)) (sym (ap (λ (y : Option Fault × List ℕ). y.1) (ok_is _ _ h)))
left_over c known types end before rest (Err e) h some = absurd cc

read_whole : (c : ModuleContext) (known : Option Fault) (types left : List ℕ) (before : Option Fault) (item end : ℕ)
    (r whole : Result (List BodyOf × List ℕ) ReadFault) (o : Option Fault) → is_some before ≡ true
    → (r >>= λ bodies. answered (earlier before (first_of (spaces_in c) item (zipped left bodies.0))) bodies.1) ≡ all_judged c known types whole
    → closed c known types end whole ≡ Ok o → o ≡ before
read_whole c known types left None item end r whole o found h read = absurd cc
read_whole c known types left (Some f) item end (Ok x) (Ok (bodies, [])) o found h read =
    sym (ok_is _ _ read) ∙ sym (ap (λ (y : Option Fault × List ℕ). y.0) (ok_is _ _ h))
read_whole c known types left (Some f) item end (Err e) (Ok (bodies, [])) o found h read = absurd cc
read_whole c known types left (Some f) item end r (Ok (bodies, x ∷ rest)) o found h read = absurd cc
read_whole c known types left (Some f) item end r (Err e) o found h read = absurd cc

-- ---- a section that was opened, whose codes are those of all functions

module _ (profile : Profile) (c : ModuleContext) (known : Option Fault) (left : Span) where
  abbrev codes : Result (List BodyOf × List ℕ) ReadFault
  codes = items_at (code_at profile) (length c.funcs) left.end left.rest

  -- the codes from an index on, behind a fault or none, come to what all of them do
  abbrev pub IsAlong : Option Fault → ℕ → ℕ → List ℕ → Type 0
  IsAlong before item end bytes =
      rest_judged profile c (drop item c.funcs) before item (length c.funcs - item) end bytes ≡ all_judged c known c.funcs codes

  -- before the first
  pub section_begins : IsAlong known 0 left.end left.rest
  section_begins = let k : length c.funcs - 0 ≡ length c.funcs = omega arith in rw k refl

  module _ (before : Option Fault) (item end : ℕ) (bytes : List ℕ) (so_far : IsAlong before item end bytes) where
    -- a code is taken by its size and read, to the next fault or none: so the loop goes on
    pub code_step : (next : Option Fault) (ty end_now : ℕ) (after : List ℕ) (code : Span) → item < length c.funcs → ty ≡ get_or c.funcs item 0
        → bytes_at end bytes ≡ Ok (code.rest, after) → code.end ≡ end - length after → end_now ≡ end
        → fault_read profile (spaces_in c) before item ty code ≡ Ok next → IsAlong next (item + 1) end_now after
    code_step next ty end_now after code here is taken place same read =
        let a = bind_ok (all_body_at profile code.end code.rest) (λ body. done (with_code c before item ty body)) next read in
        let body = apart.code_by profile end bytes after code a.0 taken place a.1 in
        rw (same, sym (ok_is _ _ a.2)) (sym (body_judged profile c c.funcs before item ty end bytes after a.0 here is body) ∙ so_far)

    -- one that cannot be read is a fault of the section
    pub section_stops : (e : ReadFault) → item < length c.funcs → code_at profile end bytes ≡ Err e → opened_judged profile c known left ≡ Err e
    section_stops e here bad =
        let count : length c.funcs - item ≡ suc (length c.funcs - (item + 1)) = omega arith in
        let stop = stopped c known c.funcs codes e (rw (count, bad) at so_far) in
        rw stop refl

    -- and so is one that is taken, and is no body
    pub code_stops : (e : ReadFault) (ty : ℕ) (after : List ℕ) (code : Span) → item < length c.funcs → bytes_at end bytes ≡ Ok (code.rest, after)
        → code.end ≡ end - length after → fault_read profile (spaces_in c) before item ty code ≡ Err e → opened_judged profile c known left ≡ Err e
    code_stops e ty after code here taken place bad =
        section_stops e here
        (apart.code_not_read profile end bytes after code e taken place (unread c before item ty e (all_body_at profile code.end code.rest) bad))

    -- all bodies are read and judged
    pub section_judged : length c.funcs ≤ item → bytes ≡ [] → opened_judged profile c known left ≡ Ok before
    section_judged le none =
        let count : length c.funcs - item ≡ 0 = omega arith in
        finished c known c.funcs left.end before codes (rw (count, none, zipped_none, earlier_none) at so_far)

    -- or the section goes on behind them
    pub section_goes_on : length c.funcs ≤ item → bytes ≢ [] → end ≡ left.end → opened_judged profile c known left ≡ Err (fault SectionSize end bytes)
    section_goes_on le some same =
        let count : length c.funcs - item ≡ 0 = omega arith in
        rw same (left_over c known c.funcs left.end before bytes codes (rw (count, zipped_none, earlier_none) at so_far) some)

    -- behind a fault nothing is judged, so where the section can be read that fault is all
    pub fault_stays : (o : Option Fault) → is_some before ≡ true → opened_judged profile c known left ≡ Ok o
        → opened_judged profile c known left ≡ Ok before
    fault_stays o found read =
        read ∙ ap (λ (x : Option Fault). Ok x) (read_whole c known c.funcs (drop item c.funcs) before item left.end
        (items_at (code_at profile) (length c.funcs - item) end bytes) codes o found so_far read)

-- what a section that was opened comes to is what the section does
pub judged_as_opened : (profile : Profile) (c : ModuleContext) (known : Option Fault) (s : Section) (left : Span)
    → codes_at profile (length c.funcs) (section_end s) s.contents ≡ items_at (code_at profile) (length c.funcs) left.end left.rest → left.end ≡ section_end s
    → codes_judged profile c known s ≡ opened_judged profile c known left
judged_as_opened profile c known s left opened same = rw (opened, same) refl

-- ---- the verdict by lists

abbrev lists_verdict : Profile → SectionLists → Verdict
lists_verdict profile l = verdict_around profile l (first_of (spaces_of l) 0 (zipped l.funcs l.codes))

zipped_parted : (fs : List Func) → zipped (map (λ f. f.ty) fs) (map (λ f. f.body) fs) ≡ fs
zipped_parted [] = refl
zipped_parted (f ∷ fs) = ap (λ (rest : List Func). f ∷ rest) (zipped_parted fs)

verdict_by_lists : (profile : Profile) (m : Parts) → m.profile ≡ profile → module_verdict m ≡ lists_verdict profile (lists_of m)
verdict_by_lists profile m same =
    ap (λ (fs : List Func). verdict_around m.profile (lists_of m) (first_of (spaces_of (lists_of m)) 0 fs)) (sym (zipped_parted m.funcs))
    ∙ ap (λ (p : Profile). lists_verdict p (lists_of m)) same

-- the verdict, by the lists that are read
abbrev pub IsJudged : Profile → List ℕ → SectionLists → Option Fault → Type 0
IsJudged profile b l code = judged (module_at profile b) ≡ Ok (verdict_around profile (record l { codes = [] }) code)

-- the same, where this is the first fault up to the code section
abbrev pub IsJudgedFrom : Profile → List ℕ → SectionLists → Option Fault → Type 0
IsJudgedFrom profile b l before = judged (module_at profile b) ≡ Ok (verdict_from (record l { codes = [] }) before)

module _ (profile : Profile) (b : List ℕ) (is : IsReading profile b (module_at profile b)) (lists : AreListsOfModule profile b) where
  judged_by : (l : SectionLists) → HasLists (module_at profile b) l → judged (module_at profile b) ≡ Ok (lists_verdict profile l)
  judged_by l has =
      let same = (subst (IsReading profile b) has.read is).0 in
      ap judged has.read ∙ ap (λ (v : Verdict). done v) (verdict_by_lists profile has.module_is same ∙ ap (lists_verdict profile) has.lists_are)

  pub lists_fail : (e : ReadFault) → read_lists profile b ≡ Err e → judged (module_at profile b) ≡ Err e
  lists_fail e bad = ap judged (apart.lists_fail profile b lists e bad)

  -- ---- without a code section

  pub judged_without_code : (l : SectionLists) → l.codes ≡ [] → l.funcs ≡ [] → read_lists profile b ≡ Ok l → IsJudged profile b l None
  judged_without_code l none no_funcs read =
      judged_by l (apart.read_without_code profile b lists l none no_funcs read)
      ∙ ap (λ (funcs : List ℕ). done (verdict_around profile l (first_of (spaces_of l) 0 (zipped funcs l.codes)))) no_funcs

  pub lacks_code : (l : SectionLists) → l.codes ≡ [] → l.funcs ≢ [] → read_lists profile b ≡ Ok l
      → judged (module_at profile b) ≡ Err (record { kind = FuncCodeCount; at = length b })
  lacks_code l none some read = ap judged (apart.lacks_code profile b lists l none some read)

  -- ---- with a code section

  module _ (l : SectionLists) (s : Section) (behind : List (Result Section ReadFault)) (code_is : s.id ≡ 10) (none : l.codes ≡ [])
      (rise : Rise 10 behind) (read : read_lists profile b ≡ lists_read profile l (Ok s ∷ behind)) where
    unbound : (r : Result (List BodyOf) ReadFault) (e : ReadFault)
        → (r >>= λ bodies. Ok (earlier (front_fault profile l) (first_of (spaces_of l) 0 (zipped l.funcs bodies))))
        ≡ Err e → r ≡ Err e
    unbound (Ok bodies) e h = absurd cc
    unbound (Err d) e h = cc

    pub codes_fail : (e : ReadFault) → codes_judged profile (context_of l) (front_fault profile l) s ≡ Err e → judged (module_at profile b) ≡ Err e
    codes_fail e bad = ap judged
        (apart.codes_fail profile b lists l s behind code_is none rise read e
        (unbound (all_at (codes_at profile (length l.funcs)) (section_end s) s.contents) e bad))

    no_fault : (v : Verdict) (e : ReadFault) → done v ≡ Err e → ⊥
    no_fault v e h = absurd cc

    read_by : (m : Parts) (r : Result (Option Fault) ReadFault) → module_at profile b ≡ Ok m → codes_judged profile (context_of l) (front_fault profile l) s ≡ r
        → (o : Option Fault) × (codes_judged profile (context_of l) (front_fault profile l) s ≡ Ok o)
    read_by m (Ok o) spelled is = (o, is)
    read_by m (Err e) spelled is = absurd (no_fault (module_verdict m) e (sym (ap judged spelled) ∙ codes_fail e is))

    -- the codes of a module can be read
    pub codes_read : (m : Parts) → module_at profile b ≡ Ok m → (o : Option Fault) × (codes_judged profile (context_of l) (front_fault profile l) s ≡ Ok o)
    codes_read m spelled = read_by m (codes_judged profile (context_of l) (front_fault profile l) s) spelled refl

    -- the bodies that were read
    bodies_of : (code : Option Fault) → codes_judged profile (context_of l) (front_fault profile l) s ≡ Ok code
        → (bodies : List BodyOf) × (all_at (codes_at profile (length l.funcs)) (section_end s) s.contents ≡ Ok bodies)
        × (earlier (front_fault profile l) (first_of (spaces_of l) 0 (zipped l.funcs bodies)) ≡ code)
    bodies_of code e =
        let a = bind_ok (all_at (codes_at profile (length l.funcs)) (section_end s) s.contents)
        (λ bodies. done (earlier (front_fault profile l)
        (first_of (spaces_of l) 0 (zipped l.funcs bodies)))) code e in
        (a.0, a.1, ok_is _ _ a.2)

    behind_fails : (code : Option Fault) (e : ReadFault) → codes_judged profile (context_of l) (front_fault profile l) s ≡ Ok code
        → lists_read profile l behind ≡ Err e → judged (module_at profile b) ≡ Err e
    behind_fails code e codes bad = let a = bodies_of code codes in
        ap judged (apart.behind_fails profile b lists l s behind code_is none rise read a.0 e a.1 bad)

    same_verdict : (x : List DataSeg) (q : SectionLists) (bodies : List BodyOf) (code : Option Fault) → q ≡ record l { datas = x }
        → earlier (front_fault profile l) (first_of (spaces_of l) 0 (zipped l.funcs bodies)) ≡ code
        → lists_verdict profile (with_codes bodies q) ≡ verdict_from (record q { codes = [] }) code
    same_verdict x q bodies code front is =
        rw front (ap verdict_by (sym
        (earlier_assoc (front_fault profile l) (first_of (spaces_of l) 0 (zipped l.funcs bodies)) _))
        ∙ ap (λ (o : Option Fault). verdict_from (record (record l { datas = x }) { codes = [] }) o) is)

    judged_with_code : (q : SectionLists) (code : Option Fault) → codes_judged profile (context_of l) (front_fault profile l) s ≡ Ok code
        → lists_read profile l behind ≡ Ok q → IsJudgedFrom profile b q code
    judged_with_code q code codes ends =
        let a = bodies_of code codes in
        let front = apart.front_stays profile b lists l s behind code_is none rise read q ends in
        let has = apart.read_with_code profile b lists l s behind code_is none rise read q a.0 a.1 ends in
        judged_by (with_codes a.0 q) has ∙ ap (λ (v : Verdict). done v) (same_verdict front.0 q a.0 code front.1 a.2)

    -- the sections behind the codes are read, or can't be
    judged_with_left : (rest : Result SectionLists ReadFault) (code : Option Fault)
        → codes_judged profile (context_of l) (front_fault profile l) s ≡ Ok code → lists_read profile l behind ≡ rest
        → judged (module_at profile b) ≡ (rest >>= λ q. Ok (verdict_from (record q { codes = [] }) code))
    judged_with_left (Ok q) code codes ends = judged_with_code q code codes ends
    judged_with_left (Err e) code codes bad = behind_fails code e codes bad

    -- they are judged as they are read
    over : (code : Option Fault) (rest : Result SectionLists ReadFault) → (rest >>= λ q. Ok (verdict_from (record q { codes = [] }) code))
        ≡ ((rest >>= λ q. Ok (earlier code (first_in 11 0 (data_flaws q)))) >>= λ f. Ok (verdict_by f))
    over code (Ok q) = refl
    over code (Err e) = refl

    pub judged_behind : (code : Option Fault) → codes_judged profile (context_of l) (front_fault profile l) s ≡ Ok code
        → judged (module_at profile b) ≡ (behind_at_once profile l code behind >>= λ f. Ok (verdict_by f))
    judged_behind code codes = judged_with_left (lists_read profile l behind) code codes refl ∙ over code (lists_read profile l behind)

-- a verdict that is answered is the one that words tell
pub told_meaning : (read : Result Parts ReadFault) (answer : Result Verdict ReadFault) → Reads (λ v. v) answer (judged read)
    → IfOk answer (λ v. IsVerdictOf read v)
told_meaning (Ok m) (Ok v) reads = subst (IsVerdict m) (ok_is (module_verdict m) v reads) (module_verdict_told m)
told_meaning (Err e) (Ok v) reads = absurd cc
told_meaning read (Err e) reads = tt

-- the verdict on a module that was read
pub judged_as : (read : Result Parts ReadFault) (m : Parts) (v : Verdict) → judged read ≡ Ok v → read ≡ Ok m → v ≡ module_verdict m
judged_as (Ok n) m v is at = cc
judged_as (Err e) m v is at = absurd cc
