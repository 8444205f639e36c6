-- The code section and the sections behind it lie in the input in which all sections do.
use Rattle.std.proofs.Common.{◌≡◌, ℕ, ◌==◌, if◌then◌else◌, Bool, true, false, List, [], ◌∷◌, Option, Some, None, Result, Ok, Err, All, subst}
use Rattle.std.specs.Prelude.{IfOk, IfSome}
use Rattle.std.proofs.lemmas.List.Elements.{All-head, All-tail}
use Rattle.wk_bytes.specs.declared.fault.ReadFault.{ReadFault}
use Rattle.wk_bytes.specs.declared.raw.RawSection.{RawSection}
use Rattle.wk_bytes.specs.Frames.{Section}
use Rattle.wk_bytes.specs.Leb.{◌>>=◌}
use Rattle.wk_bytes.specs.Raw.{raw_view}
use Rattle.wk_bytes.specs.Stands.{ItemStands, LiesIn}
use Rattle.wk_body.specs.declared.types.Profile.{Profile}
use Rattle.wk_body.specs.Reads.{Reads}
use Rattle.wk_module.specs.ListReading.{Front, PartlyRead, front_of, front_read, with_listed}
use Rattle.wk_module.specs.Sections.{SectionLists}

-- both lie there
abbrev Lie : List ℕ → Front → Type 0
Lie input f = All (ItemStands input) f.behind × IfSome f.code (LiesIn input)

module _ (profile : Profile) (input : List ℕ) (f : Front) where
  behind_lists : (items : List (Result Section ReadFault)) (r : Result SectionLists ReadFault)
      → ((q : SectionLists) → front_read profile q items ≡ Ok f → Lie input f)
      → (r >>= λ q. front_read profile q items) ≡ Ok f → Lie input f
  behind_lists items (Ok q) more e = more q e
  behind_lists items (Err d) more e = absurd cc

  by_id : (l : SectionLists) (s : Section) (items : List (Result Section ReadFault)) (is_code : Bool) → LiesIn input s → All (ItemStands input) items
      → ((q : SectionLists) → front_read profile q items ≡ Ok f → Lie input f)
      → (if is_code then Ok (record { lists = l; code = Some s; behind = items }) else (with_listed profile l s >>= λ q. front_read profile q items))
      ≡ Ok f → Lie input f
  by_id l s items true here later more e = let is : record { lists = l; code = Some s; behind = items } ≡ f = cc in subst (Lie input) is (later, here)
  by_id l s items false here later more e = behind_lists items (with_listed profile l s) more e

  front_lies : (l : SectionLists) (left : List (Result Section ReadFault)) → All (ItemStands input) left → front_read profile l left ≡ Ok f → Lie input f
  unfolding front_read
  front_lies l [] lie e = let is : record { lists = l; code = None; behind = [] } ≡ f = cc in subst (Lie input) is (lie, tt)
  front_lies l (Err d ∷ items) lie e = absurd cc
  front_lies l (Ok s ∷ items) lie e =
      let here = All-head (ItemStands input) (Ok s) items lie in
      let later = All-tail (ItemStands input) (Ok s) items lie in
      by_id l s items (s.id == 10) here later (λ q. front_lies q items later) e

-- the same of what a reader answers
pub answer_lies : (input : List ℕ) (old : PartlyRead) (result : Result (PartlyRead × Option RawSection) ReadFault) → All (ItemStands input) old.left
    → Reads (λ r. front_of r.0 r.1) result (front_read old.profile old.lists old.left)
    → IfOk result (λ r. All (ItemStands input) r.0.left × IfSome r.1 (λ s. LiesIn input (raw_view s)))
answer_lies input old (Ok (r, Some s)) lie e = front_lies old.profile input (front_of r (Some s)) old.lists old.left lie e
answer_lies input old (Ok (r, None)) lie e = front_lies old.profile input (front_of r None) old.lists old.left lie e
answer_lies input old (Err e) lie h = tt
