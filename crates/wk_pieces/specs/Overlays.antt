-- Lists of which some items are made anew.
use Rattle.std.specs.Prelude.{Option, List, [], ◌∷◌, unwrap_or}

-- a list with each new item that there is in the place of the old one
abbrev pub with_items : {A : Type 0} → List A → List (Option A) → List A
with_items [] news = []
with_items (x ∷ xs) [] = x ∷ xs
with_items (x ∷ xs) (new ∷ news) = unwrap_or new x ∷ with_items xs news
