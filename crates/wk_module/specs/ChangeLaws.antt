-- What each change leaves: the module is formed as before, and without an export it is no longer.
use Rattle.std.proofs.Common.{◌≡◌, ℕ, zero, suc, ◌+◌, ◌^◌, ◌<◌, ◌≤◌, Bool, true, false, if◌then◌else◌, Option, Some, None, List, [], ◌∷◌, ◌++◌, length, map}
use Rattle.std.proofs.Common.{take, drop, refl, sym, ap, subst, arith, length-append}
use Rattle.std.specs.Prelude.{option_map}
use Rattle.std.specs.List.{AllByRecursion, flat_map}
use Rattle.std.specs.Str.{bytes_eq}
use Rattle.std.proofs.lemmas.List.{length-map, map_push}
use Rattle.wk_bytes.specs.LebLaws.{some_is}
use Rattle.wk_bytes.specs.Short.{short}
use Rattle.wk_body.specs.Bodies.{BodyOf}
use Rattle.wk_body.specs.Shape.{IsU32}
use Rattle.wk_body.specs.Tree.{Instrs}
use Rattle.wk_body.specs.Vectors.{written_vector}
use Rattle.wk_module.specs.declared.types.GlobalType.{GlobalType}
use Rattle.wk_module.specs.declared.types.Import.{Import}
use Rattle.wk_module.specs.declared.types.Func.{Func}
use Rattle.wk_module.specs.declared.types.Export.{Export}
use Rattle.wk_module.specs.declared.types.Parts.{Parts}
use Rattle.wk_module.specs.Changes.{with_import, with_func, first_given, with_body, with_global, with_export, without_first}
use Rattle.wk_module.specs.Items.{written_export, IsImport, IsInit, IsExport, IsCode}
use Rattle.wk_module.specs.Sections.{SectionId, ImportSection, FunctionSection, GlobalSection, ExportSection, CodeSection, contents, with_contents, AreItems}
use Rattle.wk_module.specs.Shape.{lists_of, IsFormed}
use Rattle.wk_module.specs.ShapeLaws.{valid_with}
use Rattle.wk_module.specs.Writing.{written_section, encoded}
use Rattle.wk_module.specs.WritingLaws.{short-rises, framed_rises, length-encoded_le}

-- ---- one more item

pub all_push : {A : Type 0} (V : A → Type 0) (xs : List A) (x : A) → AllByRecursion V xs → V x → AllByRecursion V (xs ++ x ∷ [])
all_push V [] x all valid = (valid, tt)
all_push V (y ∷ xs) x all valid = (all.0, all_push V xs x all.1 valid)

pub items_push : {A : Type 0} (V : A → Type 0) (xs : List A) (x : A) → length xs + 1 < 2 ^ 32 → AreItems V xs → V x → AreItems V (xs ++ x ∷ [])
items_push V xs x room items valid = (omega (arith, room, length-append xs (x ∷ [])), all_push V xs x items.1 valid)

-- ---- one more item of a module, or others

pub import_formed : (i : Import) (m : Parts) → length m.imports + 1 < 2 ^ 32 → IsImport i → IsFormed m → IsFormed (with_import i m)
import_formed i m room valid f = record {
  valid = valid_with m.profile ImportSection (m.imports ++ i ∷ []) (lists_of m) (items_push IsImport m.imports i room (f.valid ImportSection) valid) f.valid;
  order = f.order;
  names = f.names;
}

pub global_formed : (t : GlobalType) (e : Instrs) (m : Parts) → length m.globals + 1 < 2 ^ 32 → IsInit m.profile e → IsFormed m → IsFormed (with_global t e m)
global_formed t e m room valid f = record {
  valid = valid_with m.profile GlobalSection (m.globals ++ record { ty = t; init = e } ∷ []) (lists_of m)
      (items_push _ m.globals (record { ty = t; init = e }) room (f.valid GlobalSection) valid) f.valid;
  order = f.order;
  names = f.names;
}

pub exports_formed : (es : List Export) (m : Parts) → AreItems IsExport es → IsFormed m → IsFormed (record m { exports = es })
exports_formed es m valid f = record {
  valid = valid_with m.profile ExportSection es (lists_of m) valid f.valid;
  order = f.order;
  names = f.names;
}

pub export_formed : (e : Export) (m : Parts) → length m.exports + 1 < 2 ^ 32 → IsExport e → IsFormed m → IsFormed (with_export e m)
export_formed e m room valid f = exports_formed (m.exports ++ e ∷ []) m (items_push IsExport m.exports e room (f.valid ExportSection) valid) f

-- ---- functions, whose types and codes stand in two sections

pub funcs_formed : (fs : List Func) (m : Parts) → AreItems IsU32 (map (λ f. f.ty) fs) → AreItems (IsCode m.profile) (map (λ f. f.body) fs) → IsFormed m
    → IsFormed (record m { funcs = fs })
funcs_formed fs m types codes f =
    let bodies = map (λ (g : Func). g.body) fs in
    let indexes = map (λ (g : Func). g.ty) fs in
    let declared = valid_with m.profile FunctionSection indexes (lists_of m) types f.valid in
    record {
      valid = valid_with m.profile CodeSection bodies (with_contents FunctionSection indexes (lists_of m)) codes declared;
      order = f.order;
      names = f.names;
    }

pub func_formed : (t : ℕ) (b : BodyOf) (m : Parts) → length m.funcs + 1 < 2 ^ 32 → IsU32 t → IsCode m.profile b → IsFormed m → IsFormed (with_func t b m)
func_formed t b m room type_valid body_valid f =
    let func : Func = record { ty = t; body = b } in
    let types = items_push IsU32 (map (λ (g : Func). g.ty) m.funcs) t (omega (arith, room, length-map m.funcs (λ (g : Func). g.ty)))
    (f.valid FunctionSection) type_valid in
    let codes = items_push (IsCode m.profile) (map (λ (g : Func). g.body) m.funcs) b (omega (arith, room, length-map m.funcs (λ (g : Func). g.body)))
    (f.valid CodeSection) body_valid in
    funcs_formed (m.funcs ++ func ∷ []) m
    (subst (AreItems IsU32) (sym (map_push (λ (g : Func). g.ty) m.funcs func)) types)
    (subst (AreItems (IsCode m.profile)) (sym (map_push (λ (g : Func). g.body) m.funcs func)) codes)
    f

-- the functions with another body for one of them
abbrev pub funcs_given : ℕ → BodyOf → List Func → List Func
funcs_given entry b fs = take entry fs ++ first_given b (drop entry fs)

pub types_given : (entry : ℕ) (b : BodyOf) (fs : List Func) → map (λ f. f.ty) (funcs_given entry b fs) ≡ map (λ f. f.ty) fs
types_given zero b [] = refl
types_given zero b (f ∷ fs) = refl
types_given (suc entry) b [] = refl
types_given (suc entry) b (f ∷ fs) = ap (λ (ts : List ℕ). f.ty ∷ ts) (types_given entry b fs)

all_given : (V : BodyOf → Type 0) (entry : ℕ) (b : BodyOf) (fs : List Func) → V b → AllByRecursion V (map (λ f. f.body) fs)
    → AllByRecursion V (map (λ f. f.body) (funcs_given entry b fs))
all_given V zero b [] valid all = tt
all_given V zero b (f ∷ fs) valid all = (valid, all.1)
all_given V (suc entry) b [] valid all = tt
all_given V (suc entry) b (f ∷ fs) valid all = (all.0, all_given V entry b fs valid all.1)

pub body_formed : (entry : ℕ) (b : BodyOf) (m : Parts) → IsCode m.profile b → IsFormed m → IsFormed (with_body entry b m)
body_formed entry b m valid f =
    let given = funcs_given entry b m.funcs in
    let few = (f.valid FunctionSection).0 in
    let same = ap length (types_given entry b m.funcs) in
    funcs_formed given m
    (subst (AreItems IsU32) (sym (types_given entry b m.funcs)) (f.valid FunctionSection)) (
      omega (arith, few, same, length-map given (λ (g : Func). g.ty), length-map given (λ (g : Func). g.body)),
      all_given (IsCode m.profile) entry b m.funcs valid (f.valid CodeSection).1,
    )
    f

-- ---- an export less

-- a list with an item less, for what each item counts
record IsLess (es rest : List Export) : Type 0 where
  valid : AllByRecursion IsExport es → AllByRecursion IsExport rest
  items : length rest ≤ length es
  bytes : length (flat_map written_export rest) ≤ length (flat_map written_export es)

less_more : (e : Export) (es rest : List Export) → IsLess es rest → IsLess (e ∷ es) (e ∷ rest)
less_more e es rest less = record {
  valid = λ all. (all.0, less.valid all.1);
  items = omega (arith, less.items);
  bytes = omega (
    arith,
    less.bytes,
    length-append (written_export e) (flat_map written_export rest),
    length-append (written_export e) (flat_map written_export es),
  );
}

less_mapped : (e : Export) (es rest : List Export) (o : Option (List Export)) → ((less : List Export) → o ≡ Some less → IsLess es less)
    → option_map (λ more. e ∷ more) o ≡ Some rest → IsLess (e ∷ es) rest
less_mapped e es rest None h is = absurd cc
less_mapped e es rest (Some less) h is = subst (IsLess (e ∷ es)) (some_is (e ∷ less) rest is) (less_more e es less (h less refl))

less_by : (e : Export) (es rest : List Export) (named : Bool) (o : Option (List Export)) → ((less : List Export) → o ≡ Some less → IsLess es less)
    → (if named then Some es else option_map (λ more. e ∷ more) o) ≡ Some rest → IsLess (e ∷ es) rest
less_by e es rest true o h is =
    subst (IsLess (e ∷ es)) (some_is es rest is)
    (record { valid = λ all. all.1; items = omega arith; bytes = omega (arith, length-append (written_export e) (flat_map written_export es)) })
less_by e es rest false o h is = less_mapped e es rest o h is

is_less : (name : List ℕ) (es rest : List Export) → without_first name es ≡ Some rest → IsLess es rest
is_less name [] rest is = absurd cc
is_less name (e ∷ es) rest is = less_by e es rest (bytes_eq e.name name) (without_first name es) (λ less found. is_less name es less found) is

pub without_export_formed : (name : List ℕ) (rest : List Export) (m : Parts) → without_first name m.exports ≡ Some rest → IsFormed m
    → IsFormed (record m { exports = rest })
without_export_formed name rest m is f =
    let less = is_less name m.exports rest is in
    let valid = f.valid ExportSection in
    exports_formed rest m (omega (arith, valid.0, less.items), less.valid valid.1) f

less_section : (es rest : List Export) → IsLess es rest → length (written_section ExportSection rest) ≤ length (written_section ExportSection es)
less_section es [] less = omega arith
less_section [] (r ∷ rest) less = absurd (omega (arith, less.items))
less_section (e ∷ es) (r ∷ rest) less =
    let more = e ∷ es in
    let fewer = r ∷ rest in
    framed_rises 7 7 (written_vector written_export fewer) (written_vector written_export more)
    (omega (
      arith,
      less.bytes,
      short-rises (length fewer) (length more) less.items,
      length-append (short (length fewer)) (flat_map written_export fewer),
      length-append (short (length more)) (flat_map written_export more),
    ))

each_section : (m : Parts) (rest : List Export) → IsLess m.exports rest → (k : SectionId)
    → length (written_section k (contents (lists_of (record m { exports = rest })) k)) ≤ length (written_section k (contents (lists_of m) k))
each_section m rest less ExportSection = less_section m.exports rest less
each_section m rest less k = omega arith

pub without_export_shorter : (name : List ℕ) (rest : List Export) (m : Parts) → without_first name m.exports ≡ Some rest
    → length (encoded (record m { exports = rest })) ≤ length (encoded m)
without_export_shorter name rest m is =
    length-encoded_le (record m { exports = rest }) m refl (each_section m rest (is_less name m.exports rest is))
