-- The code section by the functions of a module: its contents, and the sizes of its bodies.
use Rattle.std.specs.Prelude.{ℕ, List, map}
use Rattle.wk_module.specs.declared.types.Func.{Func}
use Rattle.wk_module.specs.Sections.{CodeSection}
use Rattle.wk_module.specs.Sizes.{body_size}
use Rattle.wk_module.specs.Writing.{section_contents}

-- its contents as they stand in the written form: nothing where there are no functions
abbrev pub code_contents : List Func → List ℕ
code_contents funcs = section_contents CodeSection (map (λ f. f.body) funcs)

-- the size of each body, without the size that stands in front of it
abbrev pub body_sizes : List Func → List ℕ
body_sizes funcs = map (λ f. body_size f.body) funcs
