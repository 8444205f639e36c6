-- A code that is read and written again: what is written of it, and its pending bytes, which are still to be copied.
use Rattle.std.specs.Prelude.{◌≡◌, ℕ, Bool, true, false, List, [], ◌∷◌, ◌++◌, length, Some, Result, Ok}
use Rattle.std.specs.List.{flat_map}
use Rattle.wk_bytes.specs.declared.fault.ReadKind.TheVariants.{TooDeep}
use Rattle.wk_body.specs.declared.types.BlockType.{BlockType}
use Rattle.wk_body.specs.declared.types.LocalGroup.{LocalGroup}
use Rattle.wk_bytes.specs.declared.fault.ReadFault.{ReadFault}
use Rattle.wk_body.specs.declared.reencoder.Reencoder.{Reencoder}
use Rattle.wk_body.specs.declared.types.Profile.{Profile}
use Rattle.wk_body.specs.Instructions.{Plain}
use Rattle.wk_body.specs.Tree.{Instrs, Close}
use Rattle.wk_body.specs.Reading.{after, plain_at, type_here, groups_at, expr_at}
use Rattle.wk_body.specs.Written.{plain_bytes, type_bytes, written_group, written_expr}
use Rattle.wk_body.specs.ReencodedFront.{IsReencoded}
use Rattle.wk_body.specs.Minimal.{number_of}

-- the bytes that are written, with the pending ones that lie in front of the cursor
abbrev pub Holds : List ℕ → Reencoder → List ℕ → Type 0
Holds out w written = (said : List ℕ) × (w.pending.now ≡ said ++ w.cursor.rest) × (written ≡ out ++ said)

-- a call wrote these bytes behind what was written
abbrev pub Adds : List ℕ → List ℕ → Reencoder → List ℕ → Reencoder → Type 0
Adds bytes out from after to = (written : List ℕ) → Holds out from written → Holds after to (written ++ bytes)

-- a call read that value and wrote its bytes
pub record Passes {A : Type 0} (read : ℕ → List ℕ → Result (A × List ℕ) ReadFault) (x : A) (bytes : List ℕ)
    (out : List ℕ) (from : Reencoder) (after : List ℕ) (to : Reencoder) : Type 0 where
  pub is : read from.cursor.end from.cursor.rest ≡ Ok (x, to.cursor.rest)
  pub same_end : to.cursor.end ≡ from.cursor.end
  pub adds : Adds bytes out from after to

-- a call read that value and left its bytes pending, whatever is written
abbrev pub Keeps : {A : Type 0} → (ℕ → List ℕ → Result (A × List ℕ) ReadFault) → A → List ℕ → Reencoder → Reencoder → Type 0
Keeps read x bytes from to = (out : List ℕ) → Passes read x bytes out from out to

-- a call read an instruction that holds no others, behind its opcode, and wrote what stands behind that
pub record PassesPlain (profile : Profile) (opcode : ℕ) (out : List ℕ) (from : Reencoder) (after : List ℕ) (to : Reencoder) : Type 0 where
  pub instr : Plain
  pub is : (e : ReadFault) → plain_at profile e opcode from.cursor.end from.cursor.rest ≡ Ok (instr, to.cursor.rest)
  pub same_end : to.cursor.end ≡ from.cursor.end
  pub bytes : List ℕ
  pub spelled : plain_bytes instr ≡ opcode ∷ bytes
  pub adds : Adds bytes out from after to

-- a call read the type of a block that opens at that offset, where these blocks are open
abbrev pub PassesType : Profile → List Bool → ℕ → BlockType → List ℕ → Reencoder → List ℕ → Reencoder → Type 0
PassesType profile ks at ty out from after to =
    Passes (type_here profile ks (record { kind = TooDeep; at = at })) ty (type_bytes ty) out from after to

-- a call read that many local groups
abbrev pub PassesGroups : ℕ → List LocalGroup → List ℕ → Reencoder → List ℕ → Reencoder → Type 0
PassesGroups count groups out from after to =
    (length groups ≡ count) × Passes (groups_at count 0) groups (flat_map written_group groups) out from after to

-- ---- expressions

-- behind that opcode
pub record Behind (opcode : ℕ) (from to : Reencoder) : Type 0 where
  pub parts : from.cursor.rest ≡ opcode ∷ to.cursor.rest
  pub same_end : to.cursor.end ≡ from.cursor.end
  pub same_pending : to.pending.now ≡ from.pending.now

-- of an expression that stands at the cursor of `from`, all in front of the cursor of `to` is read and written, and these blocks are open
abbrev pub GoesOn : Profile → List ℕ → Reencoder → List Bool → List ℕ → Reencoder → Type 0
GoesOn profile out from ks after to = (written : List ℕ) × IsReencoded profile from.cursor ks to.cursor written × Adds written out from after to

-- or all of it is
abbrev pub Goes : Bool → Profile → List ℕ → Reencoder → List Bool → List ℕ → Reencoder → Type 0
Goes false profile out from ks after to = GoesOn profile out from ks after to
Goes true profile out from ks after to = (t : Instrs) × Passes (expr_at profile) t (written_expr t) out from after to

-- behind an end, where these blocks were open: it closes none, or those of the number are open now above the others
abbrev pub Ends : Bool → List Bool → ℕ → List Bool → Type 0
Ends false ks number below = (next : List Bool) × (number ≡ number_of next) × (after Close ks ≡ Some (next ++ below))
Ends true ks number below = (next : List Bool) × (number ≡ number_of next) × (ks ≡ [])

-- an else stands in the innermost of these blocks, and behind it those of the number are open above the others: the same, but that no
-- other else may come in the innermost
abbrev pub TakesElse : List Bool → ℕ → List Bool → Type 0
TakesElse ks number below = (outer next : List Bool) × (ks ≡ true ∷ outer) × (number ≡ number_of next) × (next ++ below ≡ false ∷ outer)

-- while the blocks `ks` were open above others, tokens were read and written, and those of the number are open now
abbrev pub BlocksPass : Reencoder → Reencoder → ℕ → List Bool → List Bool → Type 0
BlocksPass from to number ks below =
    (next : List Bool) × (number ≡ number_of next)
    × ((profile : Profile) (before out : List ℕ) (first : Reencoder) → GoesOn profile before first (ks ++ below) out from
    → GoesOn profile before first (next ++ below) out to)
