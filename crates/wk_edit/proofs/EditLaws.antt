-- What the words of a line say is what they spell, and the other way round.
use Rattle.std.proofs.Common.{◌≡◌, ◌<◌, ℕ, inl, inr, List, [], ◌∷◌, length, map, Option, Some, None, codes, refl, sym, subst, arith}
use Rattle.std.specs.Prelude.{All, IfSome, decimal}
use Rattle.std.specs.List.{AllPass}
use Rattle.std.proofs.lemmas.List.Elements.{All-nil, All-cons}
use Rattle.std.proofs.lemmas.List.Sums.{AllPass-from_list_all}
use Rattle.wk_bytes.specs.LebLaws.{some_is}
use Rattle.wk_module.specs.declared.types.GlobalType.{GlobalType}
use Rattle.wk_module.specs.declared.types.ImportDesc.{ImportDesc}
use Rattle.wk_module.specs.declared.types.ImportDesc.TheVariants as descs
use Rattle.wk_module.specs.declared.types.Kind.{Kind}
use Rattle.wk_module.specs.declared.types.Kind.TheVariants as kinds
use Rattle.wk_module.specs.declared.types.Limits.{Limits}
use Rattle.wk_module.specs.Items.{desc_kind}
use Rattle.wk_session.specs.declared.edit.Edit.{Edit}
use Rattle.wk_session.specs.declared.edit.Edit.TheVariants as edits
use Rattle.wk_edit.specs.declared.verb.Verb.{Verb}
use Rattle.wk_edit.specs.declared.verb.Verb.TheVariants as verbs
use Rattle.wk_edit.specs.Words.{◌>>=◌, number_of, limits_of, kind_named, mutable_named, type_named, global_type_of, desc_of, types_of, name_of, data_of}
use Rattle.wk_edit.specs.Words.{is_graphic}
use Rattle.wk_edit.specs.Script.{type_edit, import_edit, numbered_edit, global_edit, export_edit, unexport_edit, custom_edit, strip_edit, verb_named}
use Rattle.wk_edit.specs.Script.{edit_by, edit_of}
use Rattle.wk_edit.specs.ScriptGrammar.{type_name, mutable_word, most_words, limits_words, desc_words, IsU32, AreU32Limits, IsU32Desc}
use Rattle.wk_edit.specs.ScriptGrammar.{SpellsData, SpellsEdit}
use Rattle.wk_edit.proofs.NumberLaws.{number_told, number_said, graphic_number}
use Rattle.wk_edit.proofs.WordLaws.{bind_some, tested, named_told, type_is, type_back, graphic_type, types_told, types_said, graphic_types, kind_told}
use Rattle.wk_edit.proofs.WordLaws.{kind_said, graphic_kind, mutable_told, mutable_said, graphic_mutable, name_told, name_said, graphic_name, data_told}
use Rattle.wk_edit.proofs.WordLaws.{data_said, graphic_data}

-- ---- limits, globals and imports

limits_told : (ws : List (List ℕ)) (l : Limits) → limits_of ws ≡ Some l → (ws ≡ limits_words l) × AreU32Limits l
limits_told (a ∷ []) l h =
    let x = bind_some (number_of a) _ l h in
    let t = number_told a x.0 x.1 in
    subst (λ (m : Limits). (a ∷ [] ≡ limits_words m) × AreU32Limits m) (some_is _ l x.2) (cc, (t.1, tt))
limits_told (a ∷ b ∷ []) l h =
    let x = bind_some (number_of a) _ l h in
    let y = bind_some (number_of b) _ l x.2 in
    let t = number_told a x.0 x.1 in
    let u = number_told b y.0 y.1 in
    subst (λ (m : Limits). (a ∷ b ∷ [] ≡ limits_words m) × AreU32Limits m) (some_is _ l y.2) (cc, (t.1, u.1))
limits_told _ l h = absurd cc

limits_back : (n : ℕ) (o : Option ℕ) → IsU32 n → IfSome o IsU32 → limits_of (decimal n ∷ most_words o) ≡ Some (record { min = n; max = o })
limits_back n None small fits = rw (number_said n small) refl
limits_back n (Some x) small fits = rw (number_said n small, number_said x fits) refl

limits_said : (l : Limits) → AreU32Limits l → limits_of (limits_words l) ≡ Some l
limits_said l h = limits_back l.min l.max h.0 h.1

global_type_told : (val set : List ℕ) (g : GlobalType) → global_type_of val set ≡ Some g → (val ≡ type_name g.val) × (set ≡ mutable_word g.mutable)
global_type_told val set g h =
    let x = bind_some (type_named val) _ g h in
    let y = bind_some (mutable_named set) _ g x.2 in
    subst (λ (t : GlobalType). (val ≡ type_name t.val) × (set ≡ mutable_word t.mutable)) (some_is _ g y.2) (type_is val x.0 x.1, mutable_told set y.0 y.1)

global_type_said : (g : GlobalType) → global_type_of (type_name g.val) (mutable_word g.mutable) ≡ Some g
global_type_said g = rw (type_back g.val, mutable_said g.mutable) refl

-- the kind and the words are those of the import
abbrev SaysDesc : Kind → List (List ℕ) → ImportDesc → Type 0
SaysDesc k ws d = (k ≡ desc_kind d) × (ws ≡ desc_words d) × IsU32Desc d

desc_told : (k : Kind) (ws : List (List ℕ)) (d : ImportDesc) → desc_of k ws ≡ Some d → SaysDesc k ws d
desc_told kinds.Func (a ∷ []) d h =
    let x = bind_some (number_of a) _ d h in
    let t = number_told a x.0 x.1 in
    subst (SaysDesc kinds.Func (a ∷ [])) (some_is _ d x.2) (refl, cc, t.1)
desc_told kinds.Table ws d h =
    let x = bind_some (limits_of ws) _ d h in
    let t = limits_told ws x.0 x.1 in
    subst (SaysDesc kinds.Table ws) (some_is _ d x.2) (refl, t.0, t.1)
desc_told kinds.Memory ws d h =
    let x = bind_some (limits_of ws) _ d h in
    let t = limits_told ws x.0 x.1 in
    subst (SaysDesc kinds.Memory ws) (some_is _ d x.2) (refl, t.0, t.1)
desc_told kinds.Global (a ∷ b ∷ []) d h =
    let x = bind_some (global_type_of a b) _ d h in
    let t = global_type_told a b x.0 x.1 in
    subst (SaysDesc kinds.Global (a ∷ b ∷ [])) (some_is _ d x.2) (refl, cc, tt)
desc_told _ _ d h = absurd cc

desc_said : (d : ImportDesc) → IsU32Desc d → desc_of (desc_kind d) (desc_words d) ≡ Some d
desc_said (descs.Func t) h = rw (number_said t h) refl
desc_said (descs.Table l) h = rw (limits_said l h) refl
desc_said (descs.Memory l) h = rw (limits_said l h) refl
desc_said (descs.Global g) h = rw (global_type_said g) refl

-- ---- edits

type_told : (ws : List (List ℕ)) (e : Edit) → type_edit ws ≡ Some e → SpellsEdit (codes "type" ∷ ws) e
type_told (params ∷ results ∷ []) e h =
    let a = bind_some (types_of params) _ e h in
    let b = bind_some (types_of results) _ e a.2 in
    let p = types_told params a.0 a.1 in
    let r = types_told results b.0 b.1 in
    subst (SpellsEdit (codes "type" ∷ params ∷ results ∷ [])) (some_is _ e b.2) cc
type_told _ e h = absurd cc

-- fewer words than an import has say none
pub import_short : {A : Type 0} (word : A → List ℕ) (ws : List A) → length ws < 3 → None ≡ import_edit (map word ws)
import_short word [] few = refl
import_short word (a ∷ []) few = refl
import_short word (a ∷ b ∷ []) few = refl
import_short word (a ∷ b ∷ c ∷ ws) few = absurd (omega (arith, few))

import_told : (ws : List (List ℕ)) (e : Edit) → import_edit ws ≡ Some e → SpellsEdit (codes "import" ∷ ws) e
import_told (kind ∷ from ∷ name ∷ more) e h =
    let a = bind_some (kind_named kind) _ e h in
    let b = bind_some (desc_of a.0 more) _ e a.2 in
    let c = bind_some (name_of from) _ e b.2 in
    let d = bind_some (name_of name) _ e c.2 in
    let k = kind_told kind a.0 a.1 in
    let said = desc_told a.0 more b.0 b.1 in
    subst (SpellsEdit (codes "import" ∷ kind ∷ from ∷ name ∷ more)) (some_is _ e d.2)
    (from, name, cc, name_told from c.0 c.1, name_told name d.0 d.1, said.2)
import_told _ e h = absurd cc

-- a number and bytes that say an edit spell it
numbered_told : (verb : List ℕ) (make : ℕ → List ℕ → Edit) (ws : List (List ℕ)) (e : Edit)
    → ((n : ℕ) (code digits : List ℕ) → IsU32 n → SpellsData digits code → SpellsEdit (verb ∷ decimal n ∷ digits ∷ []) (make n code))
    → numbered_edit make ws ≡ Some e → SpellsEdit (verb ∷ ws) e
numbered_told verb make (number ∷ digits ∷ []) e spells h =
    let a = bind_some (number_of number) _ e h in
    let b = bind_some (data_of digits) _ e a.2 in
    let t = number_told number a.0 a.1 in
    subst (λ (w : List ℕ). SpellsEdit (verb ∷ w ∷ digits ∷ []) e) (sym t.0)
    (subst (SpellsEdit (verb ∷ decimal a.0 ∷ digits ∷ [])) (some_is _ e b.2) (spells a.0 b.0 digits t.1 (data_told digits b.0 b.1)))
numbered_told verb make _ e spells h = absurd cc

global_told : (ws : List (List ℕ)) (e : Edit) → global_edit ws ≡ Some e → SpellsEdit (codes "global" ∷ ws) e
global_told (val ∷ set ∷ digits ∷ []) e h =
    let a = bind_some (global_type_of val set) _ e h in
    let b = bind_some (data_of digits) _ e a.2 in
    let t = global_type_told val set a.0 a.1 in
    subst (SpellsEdit (codes "global" ∷ val ∷ set ∷ digits ∷ [])) (some_is _ e b.2) (digits, cc, data_told digits b.0 b.1)
global_told _ e h = absurd cc

export_told : (ws : List (List ℕ)) (e : Edit) → export_edit ws ≡ Some e → SpellsEdit (codes "export" ∷ ws) e
export_told (kind ∷ name ∷ index ∷ []) e h =
    let a = bind_some (kind_named kind) _ e h in
    let b = bind_some (number_of index) _ e a.2 in
    let c = bind_some (name_of name) _ e b.2 in
    let k = kind_told kind a.0 a.1 in
    let t = number_told index b.0 b.1 in
    subst (SpellsEdit (codes "export" ∷ kind ∷ name ∷ index ∷ [])) (some_is _ e c.2) (name, cc, name_told name c.0 c.1, t.1)
export_told _ e h = absurd cc

unexport_told : (ws : List (List ℕ)) (e : Edit) → unexport_edit ws ≡ Some e → SpellsEdit (codes "unexport" ∷ ws) e
unexport_told (name ∷ []) e h =
    let a = bind_some (name_of name) _ e h in
    subst (SpellsEdit (codes "unexport" ∷ name ∷ [])) (some_is _ e a.2) (name, refl, name_told name a.0 a.1)
unexport_told _ e h = absurd cc

custom_told : (ws : List (List ℕ)) (e : Edit) → custom_edit ws ≡ Some e → SpellsEdit (codes "custom" ∷ ws) e
custom_told (kind ∷ name ∷ []) e h = elim (tested kind (codes "strip") (name_of name >>= λ n. Some (edits.StripCustom n)) None (Some e) h) [
  | inl p ↦
      let a = bind_some (name_of name) (λ n. Some (edits.StripCustom n)) e p.1 in
      subst (SpellsEdit (codes "custom" ∷ kind ∷ name ∷ [])) (some_is _ e a.2)
      (name, cc, name_told name a.0 a.1)
  | inr p ↦ absurd cc
]
custom_told (kind ∷ name ∷ digits ∷ []) e h =
    elim (tested kind (codes "set") (name_of name >>= λ n. data_of digits >>= λ bytes. Some (edits.SetCustom n bytes)) None (Some e) h) [
      | inl p ↦
          let a = bind_some (name_of name) (λ n. data_of digits >>= λ bytes. Some (edits.SetCustom n bytes)) e p.1 in
          let b = bind_some (data_of digits) (λ bytes. Some (edits.SetCustom a.0 bytes)) e a.2 in
          subst (SpellsEdit (codes "custom" ∷ kind ∷ name ∷ digits ∷ [])) (some_is _ e b.2)
          (name, digits, cc, name_told name a.0 a.1, data_told digits b.0 b.1)
      | inr p ↦ absurd cc
    ]
custom_told _ e h = absurd cc

strip_told : (ws : List (List ℕ)) (e : Edit) → strip_edit ws ≡ Some e → SpellsEdit (codes "strip" ∷ ws) e
strip_told [] e h = subst (SpellsEdit (codes "strip" ∷ [])) (some_is edits.StripAll e h) refl
strip_told (a ∷ ws) e h = absurd cc

-- ---- the first word

abbrev verb_word : Verb → List ℕ
verb_word verbs.TypeLine = codes "type"
verb_word verbs.ImportLine = codes "import"
verb_word verbs.FuncLine = codes "func"
verb_word verbs.BodyLine = codes "body"
verb_word verbs.GlobalLine = codes "global"
verb_word verbs.ExportLine = codes "export"
verb_word verbs.UnexportLine = codes "unexport"
verb_word verbs.CustomLine = codes "custom"
verb_word verbs.StripLine = codes "strip"

verb_is : (w : List ℕ) (v : Verb) → verb_named w ≡ Some v → w ≡ verb_word v
verb_is w v e = named_told verb_word (
    verbs.TypeLine ∷ verbs.ImportLine ∷ verbs.FuncLine ∷ verbs.BodyLine ∷ verbs.GlobalLine ∷ verbs.ExportLine ∷ verbs.UnexportLine
    ∷ verbs.CustomLine ∷ verbs.StripLine ∷ []
    ) w v e

by_told : (v : Verb) (ws : List (List ℕ)) (e : Edit) → edit_by v ws ≡ Some e → SpellsEdit (verb_word v ∷ ws) e
by_told verbs.TypeLine ws e h = type_told ws e h
by_told verbs.ImportLine ws e h = import_told ws e h
by_told verbs.FuncLine ws e h = numbered_told (codes "func") edits.Func ws e (λ n code digits small spelled. (digits, refl, small, spelled)) h
by_told verbs.BodyLine ws e h = numbered_told (codes "body") edits.Body ws e (λ n code digits small spelled. (digits, refl, small, spelled)) h
by_told verbs.GlobalLine ws e h = global_told ws e h
by_told verbs.ExportLine ws e h = export_told ws e h
by_told verbs.UnexportLine ws e h = unexport_told ws e h
by_told verbs.CustomLine ws e h = custom_told ws e h
by_told verbs.StripLine ws e h = strip_told ws e h

-- what the words of a line say they spell
pub edit_told : (ws : List (List ℕ)) (e : Edit) → edit_of ws ≡ Some e → SpellsEdit ws e
edit_told [] e h = absurd cc
edit_told (w ∷ ws) e h =
    let a = bind_some (verb_named w) (λ v. edit_by v ws) e h in
    subst (λ (v : List ℕ). SpellsEdit (v ∷ ws) e) (sym (verb_is w a.0 a.1)) (by_told a.0 ws e a.2)

-- what the words of a line spell they say
pub edit_said : (ws : List (List ℕ)) (e : Edit) → SpellsEdit ws e → edit_of ws ≡ Some e
edit_said ws (edits.Ty t) h = rw (h, types_said t.params, types_said t.results) refl
edit_said ws (edits.Import i) h = rw (h.2, kind_said (desc_kind i.desc), desc_said i.desc h.5, name_said h.0 i.from h.3, name_said h.1 i.name h.4) refl
edit_said ws (edits.Func t code) h = rw (h.1, number_said t h.2, data_said h.0 code h.3) refl
edit_said ws (edits.Body x code) h = rw (h.1, number_said x h.2, data_said h.0 code h.3) refl
edit_said ws (edits.Global t init) h = rw (h.1, global_type_said t, data_said h.0 init h.2) refl
edit_said ws (edits.Export e) h = rw (h.1, kind_said e.kind, number_said e.index h.3, name_said h.0 e.name h.2) refl
edit_said ws (edits.Unexport name) h = rw (h.1, name_said h.0 name h.2) refl
edit_said ws (edits.SetCustom name bytes) h = rw (h.2, name_said h.0 name h.3, data_said h.1 bytes h.4) refl
edit_said ws (edits.StripCustom name) h = rw (h.1, name_said h.0 name h.2) refl
edit_said ws edits.StripAll h = rw h refl

-- ---- words of an edit are seen in print

-- each of the words is
record AreGraphic (ws : List (List ℕ)) : Type 0 where
  each : All (AllPass is_graphic) ws

none_graphic : AreGraphic []
none_graphic = record { each = All-nil (AllPass is_graphic) }

graphic_with : {w : List ℕ} {ws : List (List ℕ)} → AllPass is_graphic w → AreGraphic ws → AreGraphic (w ∷ ws)
graphic_with {w} {ws} is are = record { each = All-cons (AllPass is_graphic) w ws is are.each }

graphic_most : (o : Option ℕ) → IfSome o IsU32 → AreGraphic (most_words o)
graphic_most None fits = none_graphic
graphic_most (Some n) fits = graphic_with (graphic_number n fits) none_graphic

graphic_limits : (l : Limits) → AreU32Limits l → AreGraphic (limits_words l)
graphic_limits l fits = graphic_with (graphic_number l.min fits.0) (graphic_most l.max fits.1)

graphic_desc : (d : ImportDesc) → IsU32Desc d → AreGraphic (desc_words d)
graphic_desc (descs.Func t) fits = graphic_with (graphic_number t fits) none_graphic
graphic_desc (descs.Table l) fits = graphic_limits l fits
graphic_desc (descs.Memory l) fits = graphic_limits l fits
graphic_desc (descs.Global g) fits = graphic_with (graphic_type g.val) (graphic_with (graphic_mutable g.mutable) none_graphic)

-- the words of a spelled edit
pub record AreWords (ws : List (List ℕ)) : Type 0 where
  pub first : List ℕ
  pub more : List (List ℕ)
  pub parts : ws ≡ first ∷ more
  pub some : 0 < length first
  pub graphic : All (AllPass is_graphic) ws

are_words : {ws more : List (List ℕ)} (v : Verb) → ws ≡ verb_word v ∷ more → AreGraphic more → AreWords ws
are_words {ws} {more} v parts are = record {
  first = verb_word v;
  more = more;
  parts = parts;
  some = filled_verb v;
  graphic = subst (All (AllPass is_graphic)) (sym parts) (All-cons (AllPass is_graphic) (verb_word v) more (graphic_verb v) are.each);
}
  where
    filled_verb : (v : Verb) → 0 < length (verb_word v)
    filled_verb verbs.TypeLine = omega arith
    filled_verb v = omega arith

    graphic_verb : (v : Verb) → AllPass is_graphic (verb_word v)
    graphic_verb verbs.TypeLine = AllPass-from_list_all is_graphic (verb_word verbs.TypeLine) refl
    graphic_verb v = AllPass-from_list_all is_graphic (verb_word v) refl

pub words_told : (ws : List (List ℕ)) (e : Edit) → SpellsEdit ws e → AreWords ws
words_told ws (edits.Ty t) h = are_words verbs.TypeLine h (graphic_with (graphic_types t.params) (graphic_with (graphic_types t.results) none_graphic))
words_told ws (edits.Import i) h = are_words verbs.ImportLine h.2
    (graphic_with (graphic_kind (desc_kind i.desc))
    (graphic_with (graphic_name h.0 i.from h.3) (graphic_with (graphic_name h.1 i.name h.4) (graphic_desc i.desc h.5))))
words_told ws (edits.Func t code) h = are_words verbs.FuncLine h.1
    (graphic_with (graphic_number t h.2) (graphic_with (graphic_data h.0 code h.3) none_graphic))
words_told ws (edits.Body x code) h = are_words verbs.BodyLine h.1
    (graphic_with (graphic_number x h.2) (graphic_with (graphic_data h.0 code h.3) none_graphic))
words_told ws (edits.Global t init) h = are_words verbs.GlobalLine h.1
    (graphic_with (graphic_type t.val) (graphic_with (graphic_mutable t.mutable) (graphic_with (graphic_data h.0 init h.2) none_graphic)))
words_told ws (edits.Export e) h = are_words verbs.ExportLine h.1
    (graphic_with (graphic_kind e.kind) (graphic_with (graphic_name h.0 e.name h.2) (graphic_with (graphic_number e.index h.3) none_graphic)))
words_told ws (edits.Unexport name) h = are_words verbs.UnexportLine h.1 (graphic_with (graphic_name h.0 name h.2) none_graphic)
words_told ws (edits.SetCustom name bytes) h = are_words verbs.CustomLine h.2
    (graphic_with (AllPass-from_list_all is_graphic (codes "set") refl)
    (graphic_with (graphic_name h.0 name h.3) (graphic_with (graphic_data h.1 bytes h.4) none_graphic)))
words_told ws (edits.StripCustom name) h = are_words verbs.CustomLine h.1
    (graphic_with (AllPass-from_list_all is_graphic (codes "strip") refl) (graphic_with (graphic_name h.0 name h.2) none_graphic))
words_told ws edits.StripAll h = are_words verbs.StripLine h none_graphic
