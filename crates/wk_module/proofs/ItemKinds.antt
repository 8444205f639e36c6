-- Which kinds the faults of readers of items have.
use Rattle.std.proofs.Common.{ℕ, Bool, true, false, eqb, Option, Ok, Err, refl, inl, inr, ◌-◌, length}
use Rattle.wk_bytes.specs.declared.fault.ReadKind.{ReadKind}
use Rattle.wk_bytes.specs.declared.fault.ReadKind.TheVariants.{BadUtf8, BadByte}
use Rattle.wk_bytes.specs.Leb.{or_fail}
use Rattle.wk_bytes.specs.Span.{fault, byte_at, u32_at, name_at}
use Rattle.wk_body.specs.declared.types.Profile.{Profile}
use Rattle.wk_body.specs.FaultKindLaws.{HasKinds, fails_then, fails_cond, fails_option, IntKinds, ByteKinds, ExprKinds, BodyKinds, byte_kinds, piece_kinds}
use Rattle.wk_body.specs.FaultKindLaws.{u32_kinds, name_kinds, vector_kinds, valtype_kinds, expr_kinds, all_body_kinds}
use Rattle.wk_body.specs.Reading.{expr_at, all_body_at}
use Rattle.wk_body.specs.ValTypes.{valtype_at}
use Rattle.wk_body.specs.Vectors.{vector_at}
use Rattle.wk_module.specs.declared.types.Kind.{Kind}
use Rattle.wk_module.specs.declared.types.Kind.TheVariants as kinds
use Rattle.wk_module.specs.ContentsFaults.{IsIntegerKind, IsByteKind, IsNameKind, IsExprKind, IsBodyKind}
use Rattle.wk_module.specs.Formats.{Reader, both_at, keyed_at, made_at, coded_at, this_byte_at, behind_at, bytes_at}
use Rattle.wk_module.specs.Types.{functype_at, bounds_at, limits_at, flag_of, tabletype_at, globaltype_at, kind_of}
use Rattle.wk_module.specs.Items.{desc_rest_at, desc_at, import_at, global_at, export_at, elem_at, code_at, data_at}

-- ---- how readers are put together

module _ (P : ReadKind → Type 0) where
  made_kinds : {A B : Type 0} (make : A → B) (read : Reader A) → HasKinds P read → HasKinds P (made_at make read)
  unfolding made_at
  made_kinds make read has end bytes = fails_then P (read end bytes) _ (has end bytes) (λ x. tt)

  both_kinds : {A B : Type 0} (first : Reader A) (second : Reader B) → HasKinds P first → HasKinds P second → HasKinds P (both_at first second)
  unfolding both_at
  both_kinds first second one two end bytes =
      fails_then P (first end bytes) _ (one end bytes) (λ x. fails_then P (second end x.1) _ (two end x.1) (λ y. tt))

  keyed_kinds : {K A : Type 0} (key : Reader K) (rest : K → Reader A) → HasKinds P key → ((k : K) → HasKinds P (rest k)) → HasKinds P (keyed_at key rest)
  unfolding keyed_at
  keyed_kinds key rest one two end bytes = fails_then P (key end bytes) _ (one end bytes) (λ k. two k.0 end k.1)

  sized_kinds : IntKinds P → HasKinds P bytes_at
  unfolding bytes_at
  sized_kinds ints end bytes = fails_then P (u32_at end bytes) _ (u32_kinds P ints end bytes) (λ n. piece_kinds P ints n.0 end n.1)

  module _ (has : ByteKinds P) where
    coded_kinds : {A : Type 0} (of_byte : ℕ → Option A) → HasKinds P (coded_at of_byte)
    unfolding coded_at
    coded_kinds of_byte end bytes =
        fails_then P (byte_at end bytes) _ (byte_kinds P has.ints end bytes) (λ x.
        fails_then P (or_fail (of_byte x.0) (fault BadByte end bytes)) _ (fails_option P (of_byte x.0) (fault BadByte end bytes) has.byte) (λ t. tt))

    this_kinds : (wanted : ℕ) → HasKinds P (this_byte_at wanted)
    unfolding this_byte_at
    this_kinds wanted end bytes =
        fails_then P (byte_at end bytes) _ (byte_kinds P has.ints end bytes) (λ x.
        fails_cond P (eqb x.0 wanted) (Ok x) (Err (fault BadByte end bytes)) tt has.byte)

    behind_kinds : {A : Type 0} (byte : ℕ) (read : Reader A) → HasKinds P read → HasKinds P (behind_at byte read)
    unfolding behind_at
    behind_kinds byte read kinds end bytes =
        fails_then P (this_byte_at byte end bytes) _ (this_kinds byte end bytes) (λ x. kinds end x.1)

    -- ---- items

    types_kinds : HasKinds P functype_at
    types_kinds =
        let vals : HasKinds P (vector_at valtype_at) = vector_kinds P has.ints valtype_at (valtype_kinds P has) in
        made_kinds _ _ (behind_kinds 0x60 _ (both_kinds (vector_at valtype_at) (vector_at valtype_at) vals vals))

    bounds_kinds : (max : Bool) → HasKinds P (bounds_at max)
    unfolding bounds_at
    bounds_kinds false = made_kinds _ u32_at (u32_kinds P has.ints)
    bounds_kinds true = made_kinds _ (both_at u32_at u32_at) (both_kinds u32_at u32_at (u32_kinds P has.ints) (u32_kinds P has.ints))

    limits_kinds : HasKinds P limits_at
    limits_kinds = keyed_kinds (coded_at flag_of) bounds_at (coded_kinds flag_of) bounds_kinds

    tables_kinds : HasKinds P tabletype_at
    tables_kinds = behind_kinds 0x70 limits_at limits_kinds

    globaltype_kinds : HasKinds P globaltype_at
    globaltype_kinds = made_kinds _ (both_at valtype_at (coded_at flag_of)) (both_kinds valtype_at (coded_at flag_of) (valtype_kinds P has) (coded_kinds flag_of))

    desc_rest_kinds : (k : Kind) → HasKinds P (desc_rest_at k)
    unfolding desc_rest_at
    desc_rest_kinds kinds.Func = made_kinds _ u32_at (u32_kinds P has.ints)
    desc_rest_kinds kinds.Table = made_kinds _ tabletype_at tables_kinds
    desc_rest_kinds kinds.Memory = made_kinds _ limits_at limits_kinds
    desc_rest_kinds kinds.Global = made_kinds _ globaltype_at globaltype_kinds

    imports_kinds : P BadUtf8 → HasKinds P import_at
    imports_kinds utf8 =
        let desc : HasKinds P desc_at = keyed_kinds (coded_at kind_of) desc_rest_at (coded_kinds kind_of) desc_rest_kinds in
        let name = name_kinds P has.ints utf8 in
        made_kinds _ _ (both_kinds name_at (both_at name_at desc_at) name (both_kinds name_at desc_at name desc))

    exports_kinds : P BadUtf8 → HasKinds P export_at
    exports_kinds utf8 =
        let item = both_kinds (coded_at kind_of) u32_at (coded_kinds kind_of) (u32_kinds P has.ints) in
        made_kinds _ _ (both_kinds name_at (both_at (coded_at kind_of) u32_at) (name_kinds P has.ints utf8) item)

  module _ (has : ExprKinds P) (profile : Profile) where
    globals_kinds : HasKinds P (global_at profile)
    globals_kinds = made_kinds _ _ (both_kinds globaltype_at (expr_at profile) (globaltype_kinds has.bytes) (expr_kinds P has profile))

    elems_kinds : HasKinds P (elem_at profile)
    elems_kinds =
        let ints = u32_kinds P has.bytes.ints in
        let funcs : HasKinds P (vector_at u32_at) = vector_kinds P has.bytes.ints u32_at ints in
        made_kinds _ _ (both_kinds u32_at (both_at (expr_at profile) (vector_at u32_at)) ints
        (both_kinds (expr_at profile) (vector_at u32_at) (expr_kinds P has profile) funcs))

    datas_kinds : HasKinds P (data_at profile)
    datas_kinds =
        made_kinds _ _ (both_kinds u32_at (both_at (expr_at profile) bytes_at) (u32_kinds P has.bytes.ints)
        (both_kinds (expr_at profile) bytes_at (expr_kinds P has profile) (sized_kinds has.bytes.ints)))

  codes_kinds : BodyKinds P → (profile : Profile) → HasKinds P (code_at profile)
  unfolding code_at
  codes_kinds has profile end bytes =
      fails_then P (bytes_at end bytes) _ (sized_kinds has.exprs.bytes.ints end bytes) (λ code.
      fails_then P (all_body_at profile (end - length code.1) code.0) _ (all_body_kinds P has profile (end - length code.1) code.0) (λ body. tt))

-- ---- the kinds of each

integer_kinds : IntKinds IsIntegerKind
integer_kinds = record { ends = inl refl; long = inr (inl refl); large = inr (inr refl) }

-- of more kinds than these
more_kinds : (P Q : ReadKind → Type 0) → ((k : ReadKind) → P k → Q k) → IntKinds P → IntKinds Q
more_kinds P Q more ints = record { ends = more _ ints.ends; long = more _ ints.long; large = more _ ints.large }

more_bytes : (P Q : ReadKind → Type 0) → ((k : ReadKind) → P k → Q k) → ByteKinds P → ByteKinds Q
more_bytes P Q more has = record { ints = more_kinds P Q more has.ints; byte = more _ has.byte }

of_bytes : ByteKinds IsByteKind
of_bytes = record { ints = more_kinds IsIntegerKind IsByteKind (λ k is. inl is) integer_kinds; byte = inr refl }

of_names : ByteKinds IsNameKind
of_names = more_bytes IsByteKind IsNameKind (λ k is. inl is) of_bytes

of_exprs : ExprKinds IsExprKind
of_exprs = record { bytes = more_bytes IsByteKind IsExprKind (λ k is. inl is) of_bytes; opcode = inr (inl refl); deep = inr (inr refl) }

of_bodies : BodyKinds IsBodyKind
of_bodies = record {
  exprs = record {
    bytes = more_bytes IsExprKind IsBodyKind (λ k is. inl is) of_exprs.bytes;
    opcode = inl of_exprs.opcode;
    deep = inl of_exprs.deep;
  };
  locals = inr (inl refl);
  size = inr (inr refl);
}

pub functype_fails : HasKinds IsByteKind functype_at
functype_fails = types_kinds IsByteKind of_bytes

pub import_fails : HasKinds IsNameKind import_at
import_fails = imports_kinds IsNameKind of_names (inr refl)

pub index_fails : HasKinds IsIntegerKind u32_at
index_fails = u32_kinds IsIntegerKind integer_kinds

pub tabletype_fails : HasKinds IsByteKind tabletype_at
tabletype_fails = tables_kinds IsByteKind of_bytes

pub limits_fails : HasKinds IsByteKind limits_at
limits_fails = limits_kinds IsByteKind of_bytes

pub export_fails : HasKinds IsNameKind export_at
export_fails = exports_kinds IsNameKind of_names (inr refl)

module _ (profile : Profile) where
  pub global_fails : HasKinds IsExprKind (global_at profile)
  global_fails = globals_kinds IsExprKind of_exprs profile

  pub elem_fails : HasKinds IsExprKind (elem_at profile)
  elem_fails = elems_kinds IsExprKind of_exprs profile

  pub code_fails : HasKinds IsBodyKind (code_at profile)
  code_fails = codes_kinds IsBodyKind of_bodies profile

  pub data_fails : HasKinds IsExprKind (data_at profile)
  data_fails = datas_kinds IsExprKind of_exprs profile
