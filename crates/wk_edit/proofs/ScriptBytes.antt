-- What the edits of a script give as codes and expressions is bytes.
use Rattle.std.proofs.Common.{ℕ, inl, inr, List, [], ◌∷◌, sym, subst, arith}
use Rattle.std.specs.List.{AllByRecursion}
use Rattle.hex.proofs.HexLemmas.{decode_of-ok}
use Rattle.wk_bytes.specs.LebLaws.{IsBytes}
use Rattle.wk_session.specs.declared.edit.Edit.{Edit}
use Rattle.wk_session.specs.declared.edit.Edit.TheVariants as edits
use Rattle.wk_session.specs.Making.{HasBytes}
use Rattle.wk_edit.specs.ScriptGrammar.{SpellsData, SpellsEdit, SpellsLines, IsScript}

none : IsBytes []
none i = omega arith

data_bytes : (word bytes : List ℕ) → SpellsData word bytes → IsBytes bytes
data_bytes word bytes (inl empty) = subst IsBytes (sym empty.1) none
data_bytes word bytes (inr spelled) = (decode_of-ok word bytes spelled.1).3

edit_bytes : (words : List (List ℕ)) (e : Edit) → SpellsEdit words e → HasBytes e
edit_bytes words (edits.Ty t) h = tt
edit_bytes words (edits.Import i) h = tt
edit_bytes words (edits.Func ty code) h = data_bytes h.0 code h.3
edit_bytes words (edits.Body func code) h = data_bytes h.0 code h.3
edit_bytes words (edits.Global t init) h = data_bytes h.0 init h.2
edit_bytes words (edits.Export e) h = tt
edit_bytes words (edits.Unexport name) h = tt
edit_bytes words (edits.SetCustom name bytes) h = tt
edit_bytes words (edits.StripCustom name) h = tt
edit_bytes words edits.StripAll h = tt

lines_bytes : (lines : List (List ℕ)) (es : List Edit) → SpellsLines lines es → AllByRecursion HasBytes es
lines_bytes [] es h = subst (AllByRecursion HasBytes) (sym h) tt
lines_bytes (line ∷ lines) es (inl empty) = lines_bytes lines es empty.1
lines_bytes (line ∷ lines) es (inr edit) =
    subst (AllByRecursion HasBytes) (sym edit.2) (edit_bytes edit.3.0 edit.0 edit.3.2, lines_bytes lines edit.1 edit.4)

pub script_bytes : (script : List ℕ) (es : List Edit) → IsScript script es → AllByRecursion HasBytes es
script_bytes script es h = lines_bytes h.0 es h.2
