-- How many imports are of a kind. They come first in the index space of that kind (2.5.1).
use Rattle.std.specs.Prelude.{ℕ, ◌+◌, ◌==◌, Bool, if◌then◌else◌, List, [], ◌∷◌}
use Rattle.wk_module.specs.declared.types.Import.{Import}
use Rattle.wk_module.specs.declared.types.ImportDesc.{ImportDesc}
use Rattle.wk_module.specs.declared.types.Kind.{Kind}
use Rattle.wk_module.specs.Items.{desc_kind}
use Rattle.wk_module.specs.Types.{kind_byte}

-- whether what is imported is of the kind
abbrev pub is_of_kind : Kind → ImportDesc → Bool
is_of_kind kind d = kind_byte kind == kind_byte (desc_kind d)

abbrev pub import_count : Kind → List Import → ℕ
import_count kind [] = 0
import_count kind (i ∷ is) = (if is_of_kind kind i.desc then 1 else 0) + import_count kind is
