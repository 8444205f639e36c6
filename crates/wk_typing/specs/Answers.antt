-- What references find in a module (3.1.1, contexts).
use Rattle.wk_body.specs.declared.references.Ref.{Ref}
use Rattle.wk_body.specs.declared.references.Ref.TheVariants.{Ty, Func, Global, Table, Memory}
use Rattle.wk_module.specs.declared.types.FuncType.{FuncType}
use Rattle.wk_module.specs.declared.types.GlobalType.{GlobalType}
use Rattle.wk_module.specs.InPlace.{func_type_view}
use Rattle.wk_typing.specs.declared.env.Answer.{Answer}
use Rattle.wk_typing.specs.declared.env.Answer.TheVariants as answers
use Rattle.wk_typing.specs.declared.env.Lookup.{Lookup}
use Rattle.wk_typing.specs.declared.env.Lookup.TheVariants as lookups

-- what a reference finds
pub data Found : Type 0 where
  TypeIs : FuncType → Found
  NoType : Found
  FuncIs : FuncType → Found
  -- a function whose type index is that of none
  FuncOfNoType : Found
  NoFunc : Found
  GlobalIs : GlobalType → Found
  NoGlobal : Found
  IsPresent : Found
  IsAbsent : Found

-- what an answer says, without the borrow
abbrev pub found : Answer → Found
found (answers.Ty t) = TypeIs t.now
found answers.NoType = NoType
found (answers.Func t) = FuncIs t.now
found answers.FuncOfNoType = FuncOfNoType
found answers.NoFunc = NoFunc
found (answers.Global t) = GlobalIs t
found answers.NoGlobal = NoGlobal
found answers.Present = IsPresent
found answers.Absent = IsAbsent

-- what a look-up says, without the borrows
abbrev pub seen : Lookup → Found
seen (lookups.Ty t) = TypeIs (func_type_view t)
seen lookups.NoType = NoType
seen (lookups.Func t) = FuncIs (func_type_view t)
seen lookups.FuncOfNoType = FuncOfNoType
seen lookups.NoFunc = NoFunc
seen (lookups.Global t) = GlobalIs t
seen lookups.NoGlobal = NoGlobal
seen lookups.Present = IsPresent
seen lookups.Absent = IsAbsent

-- a reference of each kind finds what is of its kind
abbrev pub IsOfKind : Ref → Found → Type 0
IsOfKind (Ty x) (TypeIs t) = Unit {0}
IsOfKind (Ty x) NoType = Unit {0}
IsOfKind (Func x) (FuncIs t) = Unit {0}
IsOfKind (Func x) FuncOfNoType = Unit {0}
IsOfKind (Func x) NoFunc = Unit {0}
IsOfKind (Global x) (GlobalIs t) = Unit {0}
IsOfKind (Global x) NoGlobal = Unit {0}
IsOfKind Table IsPresent = Unit {0}
IsOfKind Table IsAbsent = Unit {0}
IsOfKind Memory IsPresent = Unit {0}
IsOfKind Memory IsAbsent = Unit {0}
IsOfKind _ _ = ⊥
