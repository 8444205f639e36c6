-- The uses listing: what each function refers to outside of itself.
use Rattle.std.specs.Prelude.{ℕ, ◌+◌, nat_lt, ◌==◌, ◌&&◌, ◌||◌, Bool, if◌then◌else◌, List, [], ◌∷◌, ◌++◌, codes}
use Rattle.std.specs.List.{flat_map}
use Rattle.wk_body.specs.declared.references.Ref.{Ref}
use Rattle.wk_body.specs.declared.references.Ref.TheVariants.{Ty, Func, Global, Table, Memory}
use Rattle.wk_body.specs.References.{refs_of, rank, index}
use Rattle.wk_module.specs.declared.types.Func.{Func as FuncOf}
use Rattle.wk_module.specs.declared.types.Kind.TheVariants as kinds
use Rattle.wk_module.specs.declared.types.Parts.{Parts}
use Rattle.wk_list.specs.Text.{numbered, indexed}
use Rattle.wk_list.specs.Spaces.{count_of}

-- ---- references as a list that rises: types, functions, globals, the table, the memory, and within a kind by their indexes

-- the one reference comes before the other
abbrev pub is_before : Ref → Ref → Bool
is_before a b = nat_lt (rank a) (rank b) || ((rank a == rank b) && nat_lt (index a) (index b))

abbrev pub is_same : Ref → Ref → Bool
is_same a b = (rank a == rank b) && (index a == index b)

-- the reference in its place among others that rise, once
abbrev pub placed_in : Ref → List Ref → List Ref
placed_in r [] = r ∷ []
placed_in r (x ∷ xs) = if is_before r x then r ∷ x ∷ xs else (if is_same r x then x ∷ xs else x ∷ placed_in r xs)

-- the same references, each once, rising (a law says that of it)
abbrev pub in_order : List Ref → List Ref
in_order [] = []
in_order (r ∷ rs) = placed_in r (in_order rs)

-- ---- texts

abbrev pub ref_text : Ref → List ℕ
ref_text (Ty x) = indexed (codes " type") x
ref_text (Func x) = indexed (codes " func") x
ref_text (Global x) = indexed (codes " global") x
ref_text Table = codes " table"
ref_text Memory = codes " memory"

-- a function by its index, with its own type among what it refers to
abbrev pub use_line : ℕ → FuncOf → List ℕ
use_line index f = indexed (codes "func") index ++ (codes ":" ++ (flat_map ref_text (in_order (Ty f.ty ∷ refs_of f.body.instrs)) ++ codes "\n"))

abbrev pub uses_text : Parts → List ℕ
uses_text m = numbered (λ n. use_line (count_of kinds.Func m.imports + n)) 0 m.funcs
