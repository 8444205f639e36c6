-- Code entries of which an import moves references, and what is kept of them.
use Rattle.std.specs.Prelude.{◌≡◌, ℕ, false, is_some, List, length, map, count_by, unwrap_or, option_map}
use Rattle.wk_body.specs.declared.renumber.Moving.{Moving}
use Rattle.wk_body.specs.declared.renumber.Moving.TheVariants as moving
use Rattle.wk_body.specs.declared.renumber.Movement.{Movement}
use Rattle.wk_body.specs.declared.references.Ref.{Ref}
use Rattle.wk_body.specs.Moves.{movement_of}
use Rattle.wk_body.specs.References.{shift_body}
use Rattle.wk_module.specs.declared.types.Kind.{Kind}
use Rattle.wk_module.specs.declared.types.Kind.TheVariants.{Func, Global}
use Rattle.wk_module.specs.declared.types.Func.{Func as FuncOf}
use Rattle.wk_module.specs.Moving.{moved_func, is_code_moving}
use Rattle.wk_pieces.specs.Overlays.{with_items}
use Rattle.wk_pieces.specs.Pieces.{code_of}
use Rattle.wk_session.specs.declared.edits.renumber.MovedEntry.{MovedEntry}
use Rattle.wk_session.specs.declared.edits.renumber.MovedEntries.{MovedEntries}
use Rattle.wk_session.specs.Kept.{uses_of}

-- what moves of what a function refers to, where an import of the kind comes in front of the index `from`
abbrev pub uses_movement : Kind → ℕ → List Ref → Movement
uses_movement Func from keys = movement_of moving.Func from keys
uses_movement Global from keys = movement_of moving.Global from keys
uses_movement _ from keys = record { moves = false; stuck = false }

-- a function whose body moved by references of the kind
abbrev pub shifted_func : Moving → ℕ → FuncOf → FuncOf
shifted_func kind from f = record f { body = shift_body kind from f.body }

-- what is kept of one entry after the import: a code stands there exactly where something in the body moves
pub record IsMovedEntry (kind : Kind) (from : ℕ) (f : FuncOf) (e : MovedEntry) : Type 0 where
  pub refs : unwrap_or (option_map (λ s. s.keys) e.refs) (uses_of f) ≡ uses_of (moved_func kind from f)
  pub code : unwrap_or e.code (code_of f) ≡ code_of (moved_func kind from f)
  pub moves : is_some e.code ≡ is_code_moving kind from f.body.instrs

-- what is kept of all
pub record AreMovedEntries (kind : Kind) (from : ℕ) (fs : List FuncOf) (e : MovedEntries) : Type 0 where
  pub refs : with_items (map uses_of fs) (map (option_map (λ s. s.keys)) e.refs.items) ≡ map uses_of (map (moved_func kind from) fs)
  pub codes : with_items (map code_of fs) e.codes.items ≡ map code_of (map (moved_func kind from) fs)
  pub encoded : e.encoded ≡ count_by (λ f. is_code_moving kind from f.body.instrs) fs
  pub ref_count : length e.refs.items ≡ length fs
  pub code_count : length e.codes.items ≡ length fs
  pub moves : map is_some e.codes.items ≡ map (λ f. is_code_moving kind from f.body.instrs) fs
