-- The written form of a module in pieces.
use Rattle.std.specs.Prelude.{◌≡◌, ◌≢◌, ◌<◌, ℕ, Option, Some, None, if◌then◌else◌, List, [], length, map, replicate, set}
use Rattle.std.specs.List.{flat_map, sum_by}
use Rattle.wk_bytes.specs.Frames.{limit}
use Rattle.wk_bytes.specs.ListWords.{is_empty}
use Rattle.wk_body.specs.declared.fault.EncodeFault.{EncodeFault}
use Rattle.wk_body.specs.declared.fault.EncodeFault.TheVariants.{Memory}
use Rattle.wk_body.specs.Vectors.{written_vector}
use Rattle.wk_body.specs.Written.{written_body}
use Rattle.wk_module.specs.declared.types.Custom.{Custom}
use Rattle.wk_module.specs.declared.types.Func.{Func}
use Rattle.wk_module.specs.declared.types.Parts.{Parts}
use Rattle.wk_module.specs.Formats.{written_bytes}
use Rattle.wk_module.specs.Items.{written_code}
use Rattle.wk_module.specs.Listed.{listed_with}
use Rattle.wk_module.specs.Sections.{SectionLists, of_number}
use Rattle.wk_module.specs.Sizes.{entry_size}
use Rattle.wk_module.specs.Writing.{contents_by, framed, ids}
use Rattle.wk_module.specs.WritingLaws.{written_frame}
use Rattle.wk_pieces.specs.declared.pieces.EncodedSections.{EncodedSections as Pieces}
use Rattle.wk_pieces.specs.declared.pieces.NewSections.{NewSections}

-- ---- sections

-- the contents of all sections, by their ids from 0 on, where custom sections have none
abbrev pub contents_of : SectionLists → List (List ℕ)
contents_of l = map (λ id. contents_by l (of_number id)) ids

-- of a module; the code section has none here, as its codes are pieces of their own
abbrev pub section_pieces : Parts → List (List ℕ)
section_pieces m = contents_of (listed_with (map (λ f. f.ty) m.funcs) m)

-- the contents of one section of a module
abbrev pub section_piece : ℕ → Parts → List ℕ
section_piece id m = contents_by (listed_with (map (λ f. f.ty) m.funcs) m) (of_number id)

-- nothing is made anew
abbrev pub no_news : List (Option (List ℕ))
no_news = replicate 12 None

-- nothing but the section of an id is
abbrev pub one_new : ℕ → List ℕ → List (Option (List ℕ))
one_new id contents = set no_news id (Some contents)

-- just that section is made anew
pub record IsOneRemade (id : ℕ) (contents : List ℕ) (r : NewSections) : Type 0 where
  pub sections : r.sections.items ≡ one_new id contents
  pub made : r.made ≡ 1

-- these bytes are more than a module may have; or memory was wanted
abbrev pub IsOverlong : List ℕ → EncodeFault → Type 0
IsOverlong bytes e = e ≢ Memory → limit < length bytes

-- the contents of a section are
abbrev pub IsUnwritten : SectionLists → EncodeFault → Type 0
IsUnwritten l e = e ≢ Memory → (id : ℕ) × (limit < length (contents_by l (of_number id)))

-- ---- codes and custom sections

-- the code of a function, without its size
abbrev pub code_of : Func → List ℕ
code_of f = written_body f.body

-- how many bytes codes have, with their sizes
abbrev pub codes_size : List Func → ℕ
codes_size fs = length (flat_map (λ f. written_code f.body) fs)

-- the same by the codes
abbrev pub entries_size : List (List ℕ) → ℕ
entries_size codes = sum_by (λ code. entry_size (length code)) codes

-- how many bytes custom sections have, with their ids and sizes
abbrev pub customs_size : List Custom → ℕ
customs_size cs = length (flat_map written_frame cs)

-- ---- sections by their pieces

-- a section of an id, which is left out where it has no contents
abbrev pub framed_some : ℕ → List ℕ → List ℕ
framed_some id contents = if is_empty contents then [] else framed id contents

-- the code section of codes, which is left out where there are none
abbrev pub code_section : List (List ℕ) → List ℕ
code_section codes = if is_empty codes then [] else framed 10 (written_vector written_bytes codes)

-- ---- each piece is what writing the module anew gives

pub record ArePieces (m : Parts) (p : Pieces) : Type 0 where
  pub sections : p.sections.items ≡ section_pieces m
  pub codes : p.codes.items ≡ map code_of m.funcs
  pub codes_len : p.codes_len ≡ codes_size m.funcs
  pub customs_len : p.customs_len ≡ customs_size m.customs
