-- How long a written form is, by how long its parts are.
use Rattle.std.specs.Prelude.{◌≡◌, ℕ, ◌+◌, ◌==◌, if◌then◌else◌, List, length, map}
use Rattle.std.specs.List.{sum_by}
use Rattle.wk_bytes.specs.Short.{short}
use Rattle.wk_body.specs.Bodies.{BodyOf}
use Rattle.wk_body.specs.Written.{written_body}
use Rattle.wk_module.specs.declared.types.Parts.{Parts}
use Rattle.wk_module.specs.Sections.{SectionLists}
use Rattle.wk_module.specs.Listed.{listed_with}

-- a section with that many contents: its id, its size and they
abbrev pub framed_size : ℕ → ℕ
framed_size n = 1 + length (short n) + n

-- the same where it is left out if it has none
abbrev pub section_size : ℕ → ℕ
section_size n = if n == 0 then 0 else framed_size n

-- a module whose sections have that many contents, and whose custom sections are so long together
abbrev pub whole_size : List ℕ → ℕ → ℕ
whole_size contents customs = 8 + sum_by section_size contents + customs

-- a body, without the size in front of it
abbrev pub body_size : BodyOf → ℕ
body_size b = length (written_body b)

-- an entry of the code section whose body has that many bytes: its size and the body
abbrev pub entry_size : ℕ → ℕ
entry_size n = length (short n) + n

-- The lists are those of the module, but for its codes, whose bodies have these sizes.
pub record AreListsOf (l : SectionLists) (code_sizes : List ℕ) (m : Parts) : Type 0 where
  pub lists : l ≡ listed_with (map (λ f. f.ty) m.funcs) m
  pub codes : code_sizes ≡ map (λ f. body_size f.body) m.funcs
