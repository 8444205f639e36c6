-- What accepted edits make of a module, in the words of the grammar: what an edit puts into the module is what its bytes spell.
use Rattle.std.specs.Prelude.{◌≡◌, ℕ, Some, List, [], ◌∷◌, Result, Ok, Err}
use Rattle.wk_bytes.specs.LebLaws.{IsBytes}
use Rattle.wk_body.specs.Bodies.{BodyOf}
use Rattle.wk_body.specs.Meaning.{Whole}
use Rattle.wk_body.specs.Spelling.{SpellsBody, SpellsExpr}
use Rattle.wk_body.specs.Tree.{Instrs}
use Rattle.wk_module.specs.declared.types.Export.{Export}
use Rattle.wk_module.specs.declared.types.Parts.{Parts}
use Rattle.wk_module.specs.Changes.{with_type, with_import, with_func, with_body, with_global, with_export, without_first}
use Rattle.wk_module.specs.Items.{desc_kind}
use Rattle.wk_module.specs.Moving.{moved_parts}
use Rattle.wk_module.specs.Shape.{settle}
use Rattle.wk_session.specs.declared.edit.Edit.{Edit}
use Rattle.wk_session.specs.declared.edit.Edit.TheVariants as edits
use Rattle.wk_session.specs.declared.edit.EditFault.{EditFault}
use Rattle.wk_session.specs.declared.edit.Work.{Work}
use Rattle.wk_session.specs.Edits.{import_place, entry_of, without_customs, with_custom, without_all_customs}

-- The bytes spell this value, and no other.
pub record SpellsOnly {V : Type 0} (SpelledBy : V → List ℕ → Type 0) (v : V) (bytes : List ℕ) : Type 0 where
  pub spelled : Whole SpelledBy v bytes
  pub only : (w : V) → Whole SpelledBy w bytes → w ≡ v

-- The edit makes the second module of the first. A function, a body and a global are given as bytes: those of a code without its size
-- (5.5.13), or of an expression (5.4.6).
abbrev pub Makes : Edit → Parts → Parts → Type 0
Makes (edits.Ty t) m n = n ≡ settle (with_type t m)
Makes (edits.Import i) m n = n ≡ settle (with_import i (moved_parts (desc_kind i.desc) (import_place i m) m))
Makes (edits.Func t code) m n = (b : BodyOf) × SpellsOnly (SpellsBody m.profile) b code × (n ≡ settle (with_func t b m))
Makes (edits.Body x code) m n =
    (b : BodyOf) × SpellsOnly (SpellsBody m.profile) b code × ((entry : ℕ) × (entry_of x m ≡ Some entry) × (n ≡ settle (with_body entry b m)))
Makes (edits.Global t init) m n = (e : Instrs) × SpellsOnly (SpellsExpr m.profile) e init × (n ≡ settle (with_global t e m))
Makes (edits.Export e) m n = n ≡ settle (with_export e m)
Makes (edits.Unexport name) m n = (es : List Export) × (without_first name m.exports ≡ Some es) × (n ≡ settle (record m { exports = es }))
Makes (edits.SetCustom name bytes) m n = n ≡ settle (with_custom name bytes m)
Makes (edits.StripCustom name) m n = n ≡ settle (without_customs name m)
Makes edits.StripAll m n = n ≡ settle (without_all_customs m)

-- What an edit leaves that is answered so: an accepted one the module that it makes, and a refused one the module as it was.
abbrev pub IsMade : Edit → Result Work EditFault → Parts → Parts → Type 0
IsMade e (Ok work) m n = Makes e m n
IsMade e (Err fault) m n = n ≡ m

-- what edits leave, one after the other
abbrev pub AreMade : List Edit → List (Result Work EditFault) → Parts → Parts → Type 0
AreMade [] [] m n = n ≡ m
AreMade (e ∷ es) (reply ∷ replies) m n = (between : Parts) × IsMade e reply m between × AreMade es replies between n
AreMade _ _ m n = ⊥

-- what an edit gives as a code or an expression is bytes
abbrev pub HasBytes : Edit → Type 0
HasBytes (edits.Func t code) = IsBytes code
HasBytes (edits.Body x code) = IsBytes code
HasBytes (edits.Global t init) = IsBytes init
HasBytes _ = Unit {0}
