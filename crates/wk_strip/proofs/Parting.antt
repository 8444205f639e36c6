-- Codes apart from the other sections of their module: where they stand, and what the module is by them.
use Rattle.std.proofs.Common.{◌≡◌, ℕ, ◌-◌, ◌≤◌, Bool, true, false, cond, eqb, List, [], ◌∷◌, ◌++◌, length, take, Option, Some, None, Result, Ok, Err, refl, sym}
use Rattle.std.proofs.Common.{ap, subst, ◌∙◌, arith, append_assoc, length-append}
use Rattle.std.proofs.lemmas.List.{take_at, drop_at}
use Rattle.std.proofs.lemmas.List.Elements.{All-head, All-tail}
use Rattle.std.specs.List.{All, between}
use Rattle.std.specs.Prelude.{MatchResult}
use Rattle.wk_bytes.specs.declared.fault.ReadFault.{ReadFault}
use Rattle.wk_bytes.specs.Frames.{Section, sections_of}
use Rattle.wk_bytes.specs.FrameStands.{sections_of-stand}
use Rattle.wk_bytes.specs.declared.raw.RawSection.{RawSection}
use Rattle.wk_bytes.specs.Leb.{◌>>=◌}
use Rattle.wk_bytes.specs.LebLaws.{some_is}
use Rattle.wk_bytes.specs.Raw.{raw_view}
use Rattle.wk_bytes.specs.Stands.{ItemStands, LiesIn}
use Rattle.wk_body.specs.declared.types.Profile.{Profile}
use Rattle.wk_body.specs.Bodies.{BodyOf}
use Rattle.wk_body.specs.Reads.{FailsAs, Reads}
use Rattle.wk_body.specs.ReadsLaws.{fails_on}
use Rattle.wk_module.specs.ListReading.{AllRead, AreListsOfModule, Front, GoesTo, PartlyRead, Rise, codes_of, front_of, front_read, lists_read, with_listed}
use Rattle.wk_module.specs.Reading.{module_at, section_end}
use Rattle.wk_module.specs.Sections.{SectionLists, no_lists}
use Rattle.wk_module.proofs.CodesApart.{read_lists, codes_fail, behind_fails, codes_many, front_stays, read_with_code}
use Rattle.wk_strip.specs.declared.codes.Codes.{Codes}
use Rattle.wk_strip.specs.Apart.{IsApart, IsFront, IsReadWith}
use Rattle.wk_strip.specs.Rewritten.{BeginsCodes, codes_in}

-- ---- the code section lies in the input

abbrev Lies : List ℕ → Result Front ReadFault → Type 0
Lies b (Err e) = Unit {0}
Lies b (Ok f) = (s : Section) → f.code ≡ Some s → LiesIn b s

abbrev nothing : Option Section
nothing = None

no_code : (s : Section) → nothing ≡ Some s → ⊥
no_code s is = absurd cc

lies_then : (profile : Profile) (b : List ℕ) (items : List (Result Section ReadFault)) (r : Result SectionLists ReadFault)
    → ((q : SectionLists) → Lies b (front_read profile q items)) → Lies b (r >>= λ q. front_read profile q items)
lies_then profile b items (Ok q) more = more q
lies_then profile b items (Err e) more = tt

lies_here : (profile : Profile) (b : List ℕ) (s : Section) (items : List (Result Section ReadFault)) (l : SectionLists) (code : Bool)
    (other : Result Front ReadFault) → LiesIn b s → Lies b other
    → Lies b (cond code (Ok (record { lists = l; code = Some s; behind = items })) other)
lies_here profile b s items l true other lies more = λ t is. subst (LiesIn b) (some_is s t is) lies
lies_here profile b s items l false other lies more = more

front_lies : (profile : Profile) (b : List ℕ) (l : SectionLists) (items : List (Result Section ReadFault)) → All (ItemStands b) items
    → Lies b (front_read profile l items)
unfolding front_read
front_lies profile b l [] stand = λ s is. absurd (no_code s is)
front_lies profile b l (Err e ∷ items) stand = tt
front_lies profile b l (Ok s ∷ items) stand =
    lies_here profile b s items l (eqb s.id 10) (with_listed profile l s >>= λ q. front_read profile q items) (All-head (ItemStands b) (Ok s) items stand)
    (lies_then profile b items (with_listed profile l s) (λ q. front_lies profile b q items (All-tail (ItemStands b) (Ok s) items stand)))

-- the section of codes that is found lies in the bytes
pub code_lies : (profile : Profile) (b : List ℕ) (f : Front) (s : Section) → front_read profile no_lists (sections_of b) ≡ Ok f → f.code ≡ Some s → LiesIn b s
code_lies profile b f s read is = (subst (Lies b) read (front_lies profile b no_lists (sections_of b) (sections_of-stand b))) s is

-- ---- so its codes stand in them

module _ (b : List ℕ) (s : Section) (funcs : ℕ) (c : Codes) (lies : LiesIn b s) (begin : BeginsCodes s funcs c) where
  pub begins_first : c.first ≤ c.end
  begins_first = omega (arith, begin.first, begin.end, ap length begin.parts, length-append begin.front begin.rest)

  whole : b ≡ (lies.before ++ begin.front) ++ (begin.rest ++ lies.after)
  whole =
      lies.parts ∙ ap (λ (x : List ℕ). lies.before ++ (x ++ lies.after)) begin.parts
      ∙ ap (λ (x : List ℕ). lies.before ++ x) (append_assoc begin.front begin.rest lies.after)
      ∙ sym (append_assoc lies.before begin.front (begin.rest ++ lies.after))

  first_is : length (lies.before ++ begin.front) ≡ c.first
  first_is = omega (arith, begin.first, lies.place, length-append lies.before begin.front)

  rest_len : length begin.rest ≡ c.end - c.first
  rest_len = omega (arith, begin.first, begin.end, ap length begin.parts, length-append begin.front begin.rest)

  pub ends_within : c.end ≤ length b
  ends_within = omega (
    arith,
    begins_first,
    rest_len,
    first_is,
    ap length whole,
    length-append (lies.before ++ begin.front) (begin.rest ++ lies.after),
    length-append begin.rest lies.after,
  )

  rest_is : between c.first c.end b ≡ begin.rest
  rest_is =
      ap (λ (x : List ℕ). between c.first c.end x) whole ∙ ap (λ (x : List ℕ). take (c.end - c.first) x)
      (drop_at (lies.before ++ begin.front) (begin.rest ++ lies.after) c.first first_is)
      ∙ take_at begin.rest lies.after (c.end - c.first) rest_len

  pub codes_are : (profile : Profile) → codes_of profile funcs s ≡ codes_in profile b c
  codes_are profile = rw (begin.opened profile, rest_is, begin.end) refl

-- ---- what the module is

module _ (profile : Profile) (b : List ℕ) (lists : AreListsOfModule profile b) (l : SectionLists) (s : Section)
    (behind : List (Result Section ReadFault)) (code_is : s.id ≡ 10) (none : l.codes ≡ []) (rise : Rise 10 behind)
    (read : read_lists profile b ≡ lists_read profile l (Ok s ∷ behind)) where
  others_told : (bodies : List BodyOf) → codes_of profile (length l.funcs) s ≡ Ok bodies → (others : Result AllRead ReadFault)
      → Reads (λ r. r.lists) others (lists_read profile l behind)
      → MatchResult others (λ r. IsReadWith profile b bodies r.lists) (λ e. FailsAs e e.kind (module_at profile b))
  others_told bodies codes (Ok r) told =
      let has = read_with_code profile b lists l s behind code_is none rise read r.lists bodies codes told in
      let data_is = front_stays profile b lists l s behind code_is none rise read r.lists told in
      let many : length bodies ≡ length l.funcs = codes_many profile (length l.funcs) (section_end s) s.contents bodies codes in
      record { whole = has.module_is; read = has.read; lists = has.lists_are; many = many ∙ ap (λ (q : SectionLists). length q.funcs) (sym data_is.1) }
  others_told bodies codes (Err e) told = fails_on e e.kind (lists_read profile l behind) (module_at profile b)
      (λ bad. behind_fails profile b lists l s behind code_is none rise read bodies e codes bad) told

  pub parted : (codes : Result (List BodyOf) ReadFault) (others : Result AllRead ReadFault) → codes_of profile (length l.funcs) s ≡ codes
      → Reads (λ r. r.lists) others (lists_read profile l behind) → IsApart profile b codes others
  parted codes others are told = record {
    refused = λ e bad. codes_fail profile b lists l s behind code_is none rise read e (are ∙ bad);
    read = λ bodies good. others_told bodies (are ∙ good) others told;
  }

-- ---- what reading up to the codes says

pub is_front : (profile : Profile) (b : List ℕ) (old new : PartlyRead) (found : Option RawSection) (s : RawSection)
    → old ≡ record { profile = profile; lists = no_lists; left = sections_of b } → found ≡ Some s → GoesTo old new found
    → front_read old.profile old.lists old.left ≡ Ok (front_of new found) → IsFront profile b new (raw_view s)
is_front profile b old new found s begun is goes exact =
    let start : PartlyRead = record { profile = profile; lists = no_lists; left = sections_of b } in
    let gone : GoesTo start new (Some s) = subst (λ (o : PartlyRead). GoesTo o new (Some s)) begun
    (subst (λ (x : Option RawSection). GoesTo old new x) is goes) in
    let read : front_read profile no_lists (sections_of b) ≡ Ok (front_of new (Some s)) =
    subst (λ (o : PartlyRead). front_read o.profile o.lists o.left ≡ Ok (front_of new (Some s))) begun
    (subst (λ (x : Option RawSection). front_read old.profile old.lists old.left ≡ Ok (front_of new x)) is exact) in
    record {
      profile_is = gone.0;
      code_is = gone.2;
      none = gone.1;
      rise = gone.4;
      read = gone.3 ∙ ap (λ (p : Profile). lists_read p new.lists (Ok (raw_view s) ∷ new.left)) gone.0;
      lies = code_lies profile b (front_of new (Some s)) (raw_view s) read refl;
    }

-- the lists without what they were read of
pub alone_told : (r : Result PartlyRead ReadFault) (alone : Result AllRead ReadFault) (read : Result SectionLists ReadFault)
    → Reads (λ q. q.lists) r read → MatchResult r (λ q. alone ≡ Ok (record { profile = q.profile; lists = q.lists })) (λ e. alone ≡ Err e)
    → Reads (λ q. q.lists) alone read
alone_told (Ok q) alone read told is = rw is told
alone_told (Err e) alone read told is = rw is told
