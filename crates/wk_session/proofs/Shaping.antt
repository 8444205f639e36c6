-- The lengths of pieces that a listing asks for.
use Rattle.std.proofs.Common.{◌≡◌, ℕ, zero, suc, ◌+◌, ◌<◌, ◌≤◌, ◌==◌, if◌then◌else◌, Option, Some, List, [], ◌∷◌, length, map, slice_index_or}
use Rattle.std.proofs.Common.{sym, ap, ◌∙◌, arith, length-append}
use Rattle.std.specs.Prelude.{unwrap_or}
use Rattle.std.proofs.lemmas.List.{get_or_default}
use Rattle.std.specs.List.{flat_map}
use Rattle.wk_bytes.specs.Frames.{limit}
use Rattle.wk_bytes.specs.Short.{short}
use Rattle.wk_body.specs.Lengths.{limited}
use Rattle.wk_body.specs.Written.{written_body}
use Rattle.wk_module.specs.declared.types.Custom.{Custom}
use Rattle.wk_module.specs.declared.types.Func.{Func}
use Rattle.wk_module.specs.declared.types.Parts.{Parts}
use Rattle.wk_module.specs.Customs.{written_custom}
use Rattle.wk_module.specs.Items.{written_code}
use Rattle.wk_module.specs.Sections.{CodeSection}
use Rattle.wk_module.specs.Shape.{IsInOrderFrom}
use Rattle.wk_module.specs.Writing.{section_contents, Fits}
use Rattle.wk_module.specs.WritingLaws.{contents_within, custom_within, length-framed}
use Rattle.wk_pieces.specs.Pieces.{ArePieces, code_of, codes_size}
use Rattle.wk_pieces.specs.declared.pieces.EncodedSections.{EncodedSections}
use Rattle.wk_pieces.proofs.Piecing.{code_contents_size, codes_within, limited_within, section_within}
use Rattle.wk_pieces.proofs.Putting.{codes_length, piece_at}

-- a code of a list is no longer than all of them
code_le : (fs : List Func) (i : ℕ) (c : List ℕ) → i < length fs → c ≡ slice_index_or (map code_of fs) i c → length c ≤ codes_size fs
code_le [] i c within is = absurd (omega arith)
code_le (f ∷ fs) zero c within is =
    omega (
      arith,
      ap length is,
      length-append (short (length (written_body f.body))) (written_body f.body),
      length-append (written_code f.body) (flat_map (λ (g : Func). written_code g.body) fs),
    )
code_le (f ∷ fs) (suc i) c within is =
    omega (arith, code_le fs i c (omega arith) is, length-append (written_code f.body) (flat_map (λ (g : Func). written_code g.body) fs))

pub code_fits : (m : Parts) (p : EncodedSections) (i : ℕ) (c : List ℕ) → ArePieces m p → Fits m → i < length m.funcs
    → c ≡ slice_index_or p.codes.items i c → length c ≤ limit
code_fits m p i c are fits within is =
    let at = is ∙ ap (λ (codes : List (List ℕ)). slice_index_or codes i c) are.codes in
    omega (arith, fits, codes_within m, code_le m.funcs i c within at)

-- the contents of the code section
pub code_contents_is : (m : Parts) (p : EncodedSections) (count size : ℕ) → ArePieces m p → count ≡ length p.codes.items
    → size ≡ (if count == 0 then 0 else length (short count) + p.codes_len) → size ≡ length (section_contents CodeSection (map (λ f. f.body) m.funcs))
code_contents_is m p count size are counted is =
    is
    ∙ ap (λ (n : ℕ). if n == 0 then 0 else length (short n) + p.codes_len) (counted ∙ codes_length m p.codes.items are.codes)
    ∙ ap (λ (n : ℕ). if length m.funcs == 0 then 0 else length (short (length m.funcs)) + n) are.codes_len
    ∙ code_contents_size m.funcs

pub code_contents_fit : (m : Parts) → Fits m → length (section_contents CodeSection (map (λ f. f.body) m.funcs)) ≤ limit
code_contents_fit m fits = omega (arith, fits, contents_within m (Some CodeSection))

pub piece_fits : (m : Parts) (p : EncodedSections) (id : ℕ) (piece : List ℕ) → ArePieces m p → Fits m → id < length p.sections.items
    → piece ≡ slice_index_or p.sections.items id piece → length piece ≤ limit
piece_fits m p id piece are fits within is =
    let at = piece_at m id piece (omega (arith, within, ap length are.sections)) (is ∙ ap (λ (ps : List (List ℕ)). slice_index_or ps id piece) are.sections) in
    omega (arith, fits, section_within id m, ap length at)

-- a custom section
pub told_custom : (m : Parts) (i : ℕ) (c other : Custom) (len : Option ℕ) → i < length m.customs → c ≡ slice_index_or m.customs i c
    → IsInOrderFrom 0 m.customs → Fits m → len ≡ limited (length (written_custom c))
    → unwrap_or len 0 ≡ length (written_custom (slice_index_or m.customs i other))
told_custom m i c other len within is order fits told =
    let size = length (written_custom c) in
    let few : size ≤ limit = omega (arith, fits, custom_within m i c within is order, length-framed 0 (written_custom c)) in
    ap (λ (o : Option ℕ). unwrap_or o 0) (told ∙ sym (limited_within size few))
    ∙ ap (λ (d : Custom). length (written_custom d)) (is ∙ get_or_default m.customs i c other within)
