-- The contents of a list with one item more, by those of the list without it.
use Rattle.std.proofs.Common.{get_or, ◌≡◌, ℕ, ◌+◌, ◌≤◌, Option, Some, List, [], ◌∷◌, ◌++◌, length, map, drop, set, sym, ap, ◌∙◌, arith, length-append}
use Rattle.std.proofs.Common.{length-drop, refl, subst}
use Rattle.std.proofs.Math.Seq.{drop-append_seam, drop-nil}
use Rattle.std.proofs.lemmas.List.{length-map, map_push}
use Rattle.std.proofs.lemmas.List.Concat.{flat_map-append}
use Rattle.std.specs.List.{flat_map}
use Rattle.wk_bytes.specs.Frames.{limit}
use Rattle.wk_bytes.specs.Short.{short}
use Rattle.wk_bytes.specs.ShortLaws.{short-last, short-some}
use Rattle.wk_body.specs.Bodies.{BodyOf}
use Rattle.wk_body.specs.Lengths.{limited}
use Rattle.wk_body.specs.declared.fault.EncodeFault.{EncodeFault}
use Rattle.wk_module.specs.declared.types.Export.{Export}
use Rattle.wk_module.specs.declared.types.Func.{Func}
use Rattle.wk_module.specs.declared.types.FuncType.{FuncType}
use Rattle.wk_module.specs.declared.types.GlobalDef.{GlobalDef}
use Rattle.wk_module.specs.declared.types.Parts.{Parts}
use Rattle.wk_module.specs.Changes.{with_export, with_func, with_type}
use Rattle.wk_module.specs.Items.{written_export, written_global}
use Rattle.wk_module.specs.Types.{written_functype}
use Rattle.wk_module.specs.Writing.{list_contents}
use Rattle.wk_pieces.specs.Longer.{IsLonger, with_item}
use Rattle.wk_pieces.specs.Pieces.{IsOverlong, section_piece, section_pieces}
use Rattle.wk_pieces.proofs.Piecing.{limited_within}
use Rattle.wk_session.specs.Added.{IsNewItem}
use Rattle.wk_session.specs.declared.edits.plan_append.NewItem.{NewItem}

one_byte : short 1 ≡ 1 ∷ []
one_byte = short-last 1 (omega arith)

module _ {A : Type 0} (written : A → List ℕ) where
  -- the item behind the count of one
  alone_is : (x : A) → drop 1 (list_contents written (x ∷ [])) ≡ written x ++ []
  alone_is x = ap (λ (front : List ℕ). drop 1 (front ++ (written x ++ []))) one_byte

  longer_is : (xs : List A) (x : A) → with_item (list_contents written xs) (length xs) (drop 1 (list_contents written (x ∷ [])))
      ≡ list_contents written (xs ++ x ∷ [])
  longer_is [] x =
      ap (λ (item : List ℕ). short 1 ++ (drop (length (short 0)) [] ++ item)) (alone_is x)
      ∙ ap (λ (none : List ℕ). short 1 ++ (none ++ (written x ++ []))) (drop-nil (length (short 0)))
  longer_is (y ∷ ys) x =
      let xs : List A = y ∷ ys in
      let items : List ℕ = flat_map written xs in
      let item : List ℕ = written x ++ [] in
      let front : List ℕ = short (length xs + 1) in
      ap (λ (bytes : List ℕ). front ++ (drop (length (short (length xs))) (short (length xs) ++ items) ++ bytes)) (alone_is x)
      ∙ ap (λ (bytes : List ℕ). front ++ (bytes ++ item)) (drop-append_seam (short (length xs)) items)
      ∙ ap (λ (bytes : List ℕ). front ++ bytes) (sym (flat_map-append written xs (x ∷ [])))
      ∙ ap (λ (n : ℕ). short n ++ flat_map written (xs ++ x ∷ [])) (sym (length-append xs (x ∷ [])))

  alone_within : (xs : List A) (x : A) → length (list_contents written (x ∷ [])) ≤ length (list_contents written (xs ++ x ∷ []))
  alone_within xs x =
      let alone = list_contents written (x ∷ []) in
      let kept = drop (length (short (length xs))) (list_contents written xs) in
      omega (
        arith,
        ap length (longer_is xs x),
        length-append (short (length xs + 1)) (kept ++ drop 1 alone),
        length-append kept (drop 1 alone),
        length-drop 1 alone,
        short-some (length xs + 1),
      )

  -- how long the item is, as it is told of what it writes
  pub alone_len : (x : A) (len : Option ℕ) → len ≡ limited (length (written x)) → len ≡ limited (length (drop 1 (list_contents written (x ∷ []))))
  alone_len x len is = is ∙ ap limited (omega (arith, ap length (alone_is x), length-append (written x) []))

-- an item that can't be made is one of contents that can't, unless memory was wanted
pub overlong_more : (alone all : List ℕ) (e : EncodeFault) → length alone ≤ length all → IsOverlong alone e → IsOverlong all e
overlong_more alone all e within over = λ other. omega (arith, over other, within)

-- by the item itself
pub longer_by : (id count : ℕ) (alone : List ℕ) (pieces : List (List ℕ)) (n : Parts) (item : NewItem) → IsNewItem id count alone item
    → IsLonger id count alone pieces n → IsLonger item.id item.count item.alone pieces n
longer_by id count alone pieces n item new longer = rw (new.id_is, new.count_is, new.alone_is) longer

-- how long it is
pub item_told : (item : NewItem) (len : ℕ) → length item.alone ≤ limit → len ≡ length (drop 1 item.alone) → Some len ≡ limited (length (drop 1 item.alone))
item_told item len few is =
    ap Some is ∙ limited_within (length (drop 1 item.alone)) (omega (arith, few, length-drop 1 item.alone))

-- ---- of a module

-- the contents of an id are those of a list of m, and those of the list with one item more in n
pub list_longer : {A : Type 0} (written : A → List ℕ) (id : ℕ) (xs : List A) (x : A) (m n : Parts) (pieces : List (List ℕ)) → pieces ≡ section_pieces m
    → get_or (section_pieces m) id [] ≡ list_contents written xs → set (section_pieces m) id (list_contents written (xs ++ x ∷ [])) ≡ section_pieces n
    → section_piece id n ≡ list_contents written (xs ++ x ∷ []) → IsLonger id (length xs) (list_contents written (x ∷ [])) pieces n
list_longer written id xs x m n pieces is before after piece =
    let item = drop 1 (list_contents written (x ∷ [])) in
    record {
      sections =
          ap (λ (ps : List (List ℕ)). set ps id (with_item (get_or ps id []) (length xs) item)) is
          ∙ ap (λ (bytes : List ℕ). set (section_pieces m) id (with_item bytes (length xs) item)) before
          ∙ ap (set (section_pieces m) id) (longer_is written xs x)
          ∙ after;
      within = omega (arith, alone_within written xs x, ap length piece);
    }

pub type_longer : (t : FuncType) (m : Parts) (pieces : List (List ℕ)) → pieces ≡ section_pieces m
    → IsLonger 1 (length m.types) (list_contents written_functype (t ∷ [])) pieces (with_type t m)
type_longer t m pieces is = list_longer written_functype 1 m.types t m (with_type t m) pieces is refl refl refl

pub global_longer : (g : GlobalDef) (m : Parts) (pieces : List (List ℕ)) → pieces ≡ section_pieces m
    → IsLonger 6 (length m.globals) (list_contents written_global (g ∷ [])) pieces (record m { globals = m.globals ++ g ∷ [] })
global_longer g m pieces is = list_longer written_global 6 m.globals g m (record m { globals = m.globals ++ g ∷ [] }) pieces is refl refl refl

pub export_longer : (e : Export) (m : Parts) (pieces : List (List ℕ)) → pieces ≡ section_pieces m
    → IsLonger 7 (length m.exports) (list_contents written_export (e ∷ [])) pieces (with_export e m)
export_longer e m pieces is = list_longer written_export 7 m.exports e m (with_export e m) pieces is refl refl refl

pub func_longer : (t : ℕ) (b : BodyOf) (m : Parts) (pieces : List (List ℕ)) → pieces ≡ section_pieces m
    → IsLonger 3 (length m.funcs) (list_contents short (t ∷ [])) pieces (with_func t b m)
func_longer t b m pieces is =
    let types : List ℕ = map (λ (f : Func). f.ty) m.funcs in
    let pushed : map (λ (f : Func). f.ty) (with_func t b m).funcs ≡ types ++ t ∷ [] = map_push (λ (f : Func). f.ty) m.funcs (record { ty = t; body = b }) in
    subst (λ (n : ℕ). IsLonger 3 n (list_contents short (t ∷ [])) pieces (with_func t b m)) (length-map m.funcs (λ (f : Func). f.ty))
    (list_longer short 3 types t m (with_func t b m) pieces is refl
    (ap (λ (ts : List ℕ). set (section_pieces m) 3 (list_contents short ts)) (sym pushed)) (ap (list_contents short) pushed))
