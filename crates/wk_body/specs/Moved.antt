-- Kept tokens whose references have moved. These are the steps of the code, for its private functions; what moving means is told
-- without them, by `References` and `Moves`.
use Rattle.std.specs.Prelude.{◌≡◌, ℕ, Bool, List, [], map, false, IsTrue}
use Rattle.std.specs.List.{flat_map, AllByRecursion}
use Rattle.wk_body.specs.declared.renumber.Moving.{Moving}
use Rattle.wk_body.specs.declared.renumber.Moving.TheVariants as moving
use Rattle.wk_body.specs.declared.renumber.ShiftFault.{ShiftFault}
use Rattle.wk_body.specs.declared.renumber.ShiftFault.TheVariants as faults
use Rattle.wk_body.specs.declared.token.Token.{Token}
use Rattle.wk_body.specs.declared.token.Token.TheVariants as kept
use Rattle.wk_body.specs.Kept.{told, all_told, IsWithin}
use Rattle.wk_body.specs.declared.references.Ref.{Ref}
use Rattle.wk_body.specs.declared.references.Ref.TheVariants.{Func, Global}
use Rattle.wk_body.specs.References.{tok_refs, map_tok, moved, moved_plain, any_stuck}

-- a kept token with its reference moved
abbrev pub moved_kept : Moving → ℕ → Token → Token
moved_kept moving.Func from (kept.Call x) = kept.Call (moved from x)
moved_kept moving.Global from (kept.GlobalGet x) = kept.GlobalGet (moved from x)
moved_kept moving.Global from (kept.GlobalSet x) = kept.GlobalSet (moved from x)
moved_kept kind from t = t

-- a reference, moved
abbrev pub moved_ref : Moving → ℕ → Ref → Ref
moved_ref moving.Func from (Func x) = Func (moved from x)
moved_ref moving.Global from (Global x) = Global (moved from x)
moved_ref kind from r = r

pub record IsMoved (kind : Moving) (from : ℕ) (token moved : Token) : Type 0 where
  pub fits : any_stuck kind from (tok_refs (told [] token)) ≡ false
  pub told_moved : (pool : List ℕ) → told pool moved ≡ map_tok (moved_plain kind from) (told pool token)
  pub within : (len : ℕ) → IsWithin len token → IsWithin len moved

pub record AreMoved (kind : Moving) (from : ℕ) (tokens moved : List Token) : Type 0 where
  pub fits : any_stuck kind from (flat_map tok_refs (all_told [] tokens)) ≡ false
  pub told_moved : (pool : List ℕ) → all_told pool moved ≡ map (map_tok (moved_plain kind from)) (all_told pool tokens)
  pub within : (len : ℕ) → AllByRecursion (IsWithin len) tokens → AllByRecursion (IsWithin len) moved

-- a refusal on the way: moving is undefined, or memory was wanted, of which nothing follows
abbrev pub MayRefuse : ShiftFault → Bool → Type 0
MayRefuse faults.Overflow stuck = IsTrue stuck
MayRefuse faults.Memory stuck = Unit {0}
