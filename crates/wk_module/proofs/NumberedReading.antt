-- No list that is read has more items than its count says.
use Rattle.std.proofs.Common.{◌≡◌, ℕ, zero, suc, ◌<◌, ◌^◌, List, [], ◌∷◌, length, Option, Some, None, Result, Ok, Err, IfOk, sym, ap, arith, subst}
use Rattle.wk_bytes.specs.declared.fault.ReadFault.{ReadFault}
use Rattle.wk_bytes.specs.Leb.{◌>>=◌}
use Rattle.wk_bytes.specs.LebLaws.{IsBytes, bind_ok, SpellsU-below}
use Rattle.wk_bytes.specs.PieceLaws.{u32_at-found}
use Rattle.wk_bytes.specs.Span.{u32_at, name_at}
use Rattle.wk_bytes.specs.SpanLaws.{ok_is}
use Rattle.wk_bytes.specs.Frames.{Section}
use Rattle.wk_body.specs.declared.types.Profile.{Profile}
use Rattle.wk_body.specs.Reads.{Reads}
use Rattle.wk_body.specs.Vectors.{items_at, vector_at}
use Rattle.wk_module.specs.Formats.{Reader, taking_all, all_at}
use Rattle.wk_module.specs.Listed.{AreNumbered}
use Rattle.wk_module.specs.ListReading.{listed_by, with_listed}
use Rattle.wk_module.specs.NumberedLaws.{IsNumbered, numbered_with}
use Rattle.wk_module.specs.Reading.{section_end}
use Rattle.wk_module.specs.Sections.{SectionId, StartSection, CodeSection, of_number, SectionLists, ContentsOf, with_contents, contents_at}

pub items_counted : {A : Type 0} (read : Reader A) (n end : ℕ) (bytes : List ℕ) (xs : List A) (rest : List ℕ) → items_at read n end bytes ≡ Ok (xs, rest)
    → length xs ≡ n
items_counted {A = A} read zero end bytes xs rest e = ap (λ (x : List A × List ℕ). length x.0) (sym (ok_is ([], bytes) (xs, rest) e))
items_counted {A = A} read (suc n) end bytes xs rest e =
    let a = bind_ok (read end bytes) (λ x. items_at read n end x.1 >>= λ ys. Ok (x.0 ∷ ys.0, ys.1)) (xs, rest) e in
    let b = bind_ok (items_at read n end a.0.1) (λ ys. Ok (a.0.0 ∷ ys.0, ys.1)) (xs, rest) a.2 in
    let whole = ok_is (a.0.0 ∷ b.0.0, b.0.1) (xs, rest) b.2 in
    omega (arith, items_counted read n end a.0.1 b.0.0 b.0.1 b.1, ap (λ (x : List A × List ℕ). length x.0) whole)

vector_numbered : {A : Type 0} (read : Reader A) (end : ℕ) (bytes : List ℕ) (xs : List A) (rest : List ℕ) → IsBytes bytes
    → vector_at read end bytes ≡ Ok (xs, rest) → length xs < 2 ^ 32
unfolding vector_at
vector_numbered read end bytes xs rest fits e =
    let a = bind_ok (u32_at end bytes) (λ n. items_at read n.0 end n.1) (xs, rest) e in
    let spelled = u32_at-found end bytes a.0.0 a.0.1 fits a.1 in
    omega (arith, SpellsU-below 32 spelled.0 a.0.0 spelled.1, items_counted read a.0.0 end a.0.1 xs rest a.2)

contents_numbered : (profile : Profile) (funcs : ℕ) (k : SectionId) (end : ℕ) (bytes : List ℕ) (x : ContentsOf k) (rest : List ℕ) → IsBytes bytes
    → contents_at profile funcs k end bytes ≡ Ok (x, rest) → IsNumbered k x
contents_numbered profile funcs StartSection = λ end bytes x rest fits e. tt
contents_numbered profile funcs CodeSection = λ end bytes x rest fits e. tt
contents_numbered profile funcs _ = vector_numbered _

pub taken_all : {A : Type 0} (end : ℕ) (x y : A) (rest : List ℕ) → taking_all end (x, rest) ≡ Ok y → x ≡ y
taken_all end x y [] e = ok_is x y e
taken_all end x y (b ∷ rest) e = absurd cc

numbered_by : (profile : Profile) (l q : SectionLists) (s : Section) (k : Option SectionId) → IsBytes s.contents → AreNumbered l
    → listed_by profile l s k ≡ Ok q → AreNumbered q
unfolding listed_by
numbered_by profile l q s None fits few e =
    let a = bind_ok (name_at (section_end s) s.contents) (λ name. Ok l) q e in
    subst AreNumbered (ok_is l q a.2) few
numbered_by profile l q s (Some k) fits few e =
    let read = contents_at profile (length l.funcs) k (section_end s) s.contents in
    let a = bind_ok (all_at (contents_at profile (length l.funcs) k) (section_end s) s.contents) (λ x. Ok (with_contents k x l)) q e in
    let b = bind_ok read (taking_all (section_end s)) a.0 a.1 in
    let taken = taken_all (section_end s) b.0.0 a.0 b.0.1 b.2 in
    let here = subst (IsNumbered k) taken (contents_numbered profile (length l.funcs) k (section_end s) s.contents b.0.0 b.0.1 fits b.1) in
    subst AreNumbered (ok_is (with_contents k a.0 l) q a.2) (numbered_with k a.0 l here few)

pub numbered_kept : {X : Type 0} (profile : Profile) (l : SectionLists) (s : Section) (view : X → SectionLists) (r : Result X ReadFault)
    → Reads view r (with_listed profile l s) → IsBytes s.contents → AreNumbered l
    → IfOk r (λ x. AreNumbered (view x))
numbered_kept profile l s view (Ok x) reads fits few = numbered_by profile l (view x) s (of_number s.id) fits few reads
numbered_kept profile l s view (Err e) reads fits few = tt
