-- What spells a module of 1.0 spells one of the other profile.
use Rattle.std.proofs.Common.{ℕ, ◌==◌, List, [], ◌∷◌, inl, inr, subst}
use Rattle.std.proofs.lemmas.Bool.{cases_Bool}
use Rattle.wk_bytes.specs.Frames.{Frame}
use Rattle.wk_body.specs.declared.types.Profile.{Profile}
use Rattle.wk_body.specs.declared.types.Profile.TheVariants.{Core, Extended}
use Rattle.wk_body.specs.Meaning as body
use Rattle.wk_body.specs.Spelling.{SpellsExpr, SpellsBody}
use Rattle.wk_body.specs.Vectors.{SpellsItems, SpellsVector}
use Rattle.wk_module.specs.Formats.{SpellsBoth}
use Rattle.wk_module.specs.Items.{SpellsInit, SpellsGlobal, SpellsElem, SpellsCode, SpellsData}
use Rattle.wk_module.specs.Sections.{SectionId, GlobalSection, ElementSection, CodeSection, DataSection, number, contents, omitted, SpellsContents}
use Rattle.wk_module.specs.Shape.{lists_of}
use Rattle.wk_module.specs.Modules.{SpellsSection}
use Rattle.wk_module.specs.ModuleLaws.{SpellAlike}

-- ---- along one grammar into another

-- what is spelled in the one is spelled in the other
abbrev pub Into : {A : Type 0} → (List ℕ → A → Type 0) → (List ℕ → A → Type 0) → Type 0
Into {A = A} First Second = (b : List ℕ) (x : A) → First b x → Second b x

items_into : {A : Type 0} (First Second : List ℕ → A → Type 0) → Into First Second → (b : List ℕ) (xs : List A) → SpellsItems First b xs
    → SpellsItems Second b xs
items_into First Second into b [] s = s
items_into First Second into b (x ∷ xs) s = (s.0, s.1, s.2, into s.0 x s.3, items_into First Second into s.1 xs s.4)

pub vector_into : {A : Type 0} (First Second : List ℕ → A → Type 0) → Into First Second → Into (SpellsVector First) (SpellsVector Second)
vector_into First Second into b xs s =
    record { count = s.count; items = s.items; parts = s.parts; counts = s.counts; spelled = items_into First Second into s.items xs s.spelled }

pub both_into : {A B : Type 0} (First Second : List ℕ → A → Type 0) (Third Fourth : List ℕ → B → Type 0) → Into First Second → Into Third Fourth
    → Into (SpellsBoth First Third) (SpellsBoth Second Fourth)
both_into First Second Third Fourth one two b x s =
    record { front = s.front; later = s.later; parts = s.parts; first = one s.front x.0 s.first; second = two s.later x.1 s.second }

pub section_into : {A : Type 0} (id : ℕ) (First Second : List ℕ → A → Type 0) → Into First Second → (fs : List Frame) (omitted x : A)
    → SpellsSection id First omitted fs x → SpellsSection id Second omitted fs x
section_into id First Second into [] omitted x s = s
section_into {A = A} id First Second into (f ∷ fs) omitted x s =
    elim (cases_Bool (f.id == id)) [
      | inl is ↦ let h = rw is at s in rw is (h.0, into f.contents h.0 h.1, section_into id First Second into fs h.0 x h.2)
      | inr is ↦ rw is (section_into id First Second into fs omitted x (rw is at s))
    ]

-- ---- along 1.0 into the other profile

same : {A : Type 0} (First : List ℕ → A → Type 0) → Into First First
same First b x s = s

module _ (exprs : body.SpellAlike SpellsExpr) (bodies : body.SpellAlike SpellsBody) where
  init_alike : Into (SpellsInit Core) (SpellsInit Extended)
  init_alike b e s = exprs e b s

  global_alike : Into (SpellsGlobal Core) (SpellsGlobal Extended)
  global_alike b g s = both_into _ _ _ _ (same _) init_alike b (g.ty, g.init) s

  elem_alike : Into (SpellsElem Core) (SpellsElem Extended)
  elem_alike b e s = both_into _ _ _ _ (same _) (both_into _ _ _ _ init_alike (same _)) b (e.table, (e.offset, e.funcs)) s

  code_alike : Into (SpellsCode Core) (SpellsCode Extended)
  code_alike b body s = record { size = s.size; code = s.code; parts = s.parts; counts = s.counts; spelled = bodies body s.code s.spelled }

  data_alike : Into (SpellsData Core) (SpellsData Extended)
  data_alike b d s = both_into _ _ _ _ (same _) (both_into _ _ _ _ init_alike (same _)) b (d.memory, (d.offset, d.bytes)) s

  pub contents_alike : (k : SectionId) → Into (SpellsContents Core k) (SpellsContents Extended k)
  contents_alike GlobalSection b x s = vector_into (SpellsGlobal Core) (SpellsGlobal Extended) global_alike b x s
  contents_alike ElementSection b x s = vector_into (SpellsElem Core) (SpellsElem Extended) elem_alike b x s
  contents_alike CodeSection b x s = vector_into (SpellsCode Core) (SpellsCode Extended) code_alike b x s
  contents_alike DataSection b x s = vector_into (SpellsData Core) (SpellsData Extended) data_alike b x s
  contents_alike _ b x s = s

  pub module_alike : SpellAlike
  module_alike b m core s = record {
    frames = s.frames;
    framing = s.framing;
    sections = λ k.
        let here = subst (λ (profile : Profile). SpellsSection (number k) (SpellsContents profile k) (omitted k) s.frames (contents (lists_of m) k))
        core (s.sections k) in
        section_into (number k) (SpellsContents Core k) (SpellsContents Extended k) (contents_alike k) s.frames (omitted k) (contents (lists_of m) k) here;
    customs = s.customs;
  }
